use Rattle.std.proofs.Common.{◌≡◌, ap, ◌∙◌, length}
use Rattle.gen_unit.specs.Units.{place_of}
use Rattle.gen_unit.proofs.Functions.{built_next, built_last}
use Rattle.gen_unit.proofs.units.push_functions.Goals as goal

pub loop-function-preserved : goal.loop-function-preserved
loop-function-preserved c =
    let s = c.args.typed.now.structs in
    let fs = c.args.functions.now in
    let f = c.function-item.result in
    let before = c.loop-function.out.words in
    let behind = c.push_function.new.out.words in
    let from : c.len-from.result ≡ length before.items = c.len-from.ensures ∙ before.ok.0 in
    let to : c.len.result ≡ length behind.items = c.len.ensures ∙ behind.ok.0 in
    built_next s fs c.args.out.now c.args.places.now.items c.loop-function.function-index f c.in_ok-place.field-0 c.loop-function.out
    c.push_function.new.out c.loop-function.places.items c.push.new.self.items c.loop-function-test.true c.function-item.is
    c.loop-function.invariant c.in_ok-push_function.ensures
    (c.in_ok-place.ensures ∙ ap (λ n. place_of n c.len.result f) from ∙ ap (λ n. place_of (length before.items) n f) to)
    c.in_ok-push.ensures.items

pub returns : goal.returns
returns c =
    built_last c.args.typed.now.structs c.args.functions.now c.args.out.now c.args.places.now.items c.loop-function.function-index
    c.loop-function.out c.loop-function.places.items c.loop-function-test.false c.loop-function.invariant
