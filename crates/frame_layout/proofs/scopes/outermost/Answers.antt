use Rattle.std.proofs.Common.{ap, ◌∙◌, drop, length, false}
use Rattle.std.proofs.Math.ListN.{replicate}
use Rattle.slot_safety.specs.Laws.NumberLaws.{written_back}
use Rattle.frame_layout.specs.Scopes.{as_told}
use Rattle.frame_layout.specs.Scopes as scope
use Rattle.frame_layout.proofs.scopes.outermost.Goals as goal

pub returns : goal.returns
returns c =
    let vec = c.in_ok-outer.ensures in
    let flags = c.mark_body.new.outer in
    written_back as_told c.args.function.now.locals (scope.outermost c.args.function.now.body) c.in_ok-outer.outer.len
    c.as_mut_slice.result.now flags (drop (length flags) c.in_ok-outer.outer.items)
    (vec.len ∙ ap length c.as_slice.ensures)
    (c.as_mut_slice.ensures.value ∙ vec.items_if_clones_equal (λ y is. is) ∙ ap (λ ls. replicate (length ls) false) c.as_slice.ensures)
    c.mark_body.ensures
