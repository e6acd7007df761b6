use Rattle.std.proofs.Common.{ap, ◌∙◌, drop, length}
use Rattle.std.proofs.Math.ListN.{replicate}
use Rattle.slot_safety.specs.declared.kind.Kind.TheVariants.{Safe}
use Rattle.slot_safety.specs.Kinds.{harms, kind_by}
use Rattle.slot_safety.specs.Laws.NumberLaws.{written_back}
use Rattle.slot_safety.proofs.function.classify.Goals as goal

pub returns : goal.returns
returns c =
    let vec = c.in_ok-classified.ensures in
    let items = c.in_ok-classified.classified.items in
    let kinds = c.spread_stmt.new.kinds in
    written_back kind_by c.args.function.now.locals (harms c.args.structs.now c.args.function.now) c.in_ok-classified.classified.len
    c.as_mut_slice.result.now kinds (drop (length kinds) items)
    (vec.len ∙ ap length c.as_slice.ensures)
    (c.as_mut_slice.ensures.value ∙ vec.items_if_clones_equal (λ y is. is) ∙ ap (λ ls. replicate (length ls) Safe) c.as_slice.ensures)
    c.spread_stmt.ensures
