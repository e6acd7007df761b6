use Rattle.std.proofs.Common.{◌≡◌, ap, sym, ◌∙◌, Some}
use Rattle.tag_plan.proofs.Turns.{met_fits, more_met, none_met}
use Rattle.tag_plan.proofs.stretch.tagged_stretch.Goals as goal
use Rattle.tag_plan.proofs.stretch.tagged_stretch.Goals.{then-is_tagged, else-is_tagged}

pub with_slot-requires : goal.with_slot-requires
with_slot-requires c =
    met_fits c.args.slots.now c.loop-slot.slot-index _ c.loop-slot-test.true c.loop-slot.found
    (sym c.is_tagged.ensures ∙ c.if-is_tagged.true) c.requires c.loop-slot.invariant

pub loop-slot-preserved : goal.loop-slot-preserved
loop-slot-preserved c = elim c.if-is_tagged.branch [
  | then-is_tagged w ↦
      w.found-is ∙ ap Some w.with_slot.ensures
      ∙ more_met c.args.slots.now c.loop-slot.slot-index _ c.loop-slot-test.true c.loop-slot.found
      (sym c.is_tagged.ensures ∙ w.if-is_tagged.true) c.loop-slot.invariant
  | else-is_tagged w ↦
      w.found-is
      ∙ none_met c.args.slots.now c.loop-slot.slot-index _ c.loop-slot-test.true c.loop-slot.found
      (sym c.is_tagged.ensures ∙ w.if-is_tagged.false) c.loop-slot.invariant
]
