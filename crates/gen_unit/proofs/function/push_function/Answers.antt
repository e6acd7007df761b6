use Rattle.std.proofs.Common.{◌∙◌}
use Rattle.gen_unit.specs.Functions.{function_words}
use Rattle.gen_unit.proofs.Functions.{gains_same, function_words-is}
use Rattle.gen_unit.proofs.function.push_function.Goals as goal

pub returns : goal.returns
returns c =
    let s = c.args.typed.now.structs in
    let f = c.args.function.now in
    gains_same c.push_around.result c.args.out.now c.push_around.new.out _ (function_words s f)
    (function_words-is s f c.in_ok-frame.frame c.as_slice.result.now c.in_ok-frame.ensures.is
    (c.as_slice.ensures.value ∙ c.in_ok-code.ensures))
    c.push_around.ensures
