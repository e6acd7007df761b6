use Rattle.std.proofs.Common.{◌∙◌, ap, ◌++◌}
use Rattle.c_types.specs.Units.{parameters_in, head_judged}
use Rattle.c_types.proofs.FunctionLaws.{function_declares, function_defines}
use Rattle.c_types.proofs.functions.function_judged.Goals as goal

pub returns : goal.returns
returns c = λ j stands.
    let names = c.args.names.now in
    let f = c.args.f.now in
    let files = c.head.new.files in
    let headed = c.in_ok-returns.ensures j stands in
    function_defines names f j files c.in_ok-returns.returns c.pass_body.new.walk c.in-Some.s c.in_ok-body.body c.with_made.new.functions
    headed
    (c.in_ok-body.ensures.bodied (head_judged names j f) (parameters_in j f) headed.inside) c.in_ok-body.ensures.same c.in-Some.is
    (c.in_ok-with_made.ensures ∙ ap (λ l. files.functions ++ l) c.in_ok-made.ensures)
