use Rattle.gen_unit.specs.Appended.{form, targets_of}
use Rattle.gen_unit.proofs.Turns.{Standing}
use Rattle.gen_unit.proofs.items.push_items.Given as goal

abbrev pub invariant-loop-item : goal.invariant-loop-item
invariant-loop-item l =
    Standing (form l.frame l.labels.long) (targets_of l.labels) l.initial.place l.items l.item-index l.place l.initial.out l.out
