use Rattle.std.proofs.Common.{◌≡◌, ◌^◌, ◌<◌, drop}
use Rattle.gen_unit.specs.Appended.{form}
use Rattle.gen_unit.specs.Labels.{end_of}
use Rattle.gen_unit.proofs.lengths.end_of.Given as goal

-- the items that are left end where all of them do
abbrev pub invariant-loop-item : goal.invariant-loop-item
invariant-loop-item l = record {
  left : end_of (form l.frame l.long) l.place (drop l.item-index l.items) ≡ end_of (form l.frame l.long) l.initial.place l.items;
  near : l.place < 2 ^ 25;
}
