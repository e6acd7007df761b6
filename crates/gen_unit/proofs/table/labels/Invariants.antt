use Rattle.std.proofs.Common.{◌≡◌, ℕ, ◌^◌, ◌<◌, drop, unwrap_or}
use Rattle.gen_unit.specs.Appended.{form, entry_of}
use Rattle.gen_unit.specs.Labels.{end_of, label_in}
use Rattle.gen_unit.proofs.table.labels.Given as goal

-- the items that are left end where all of them do, and have the labels that the table has not
abbrev pub invariant-loop-item : goal.invariant-loop-item
invariant-loop-item l = record {
  ends : end_of (form l.frame l.long) l.place (drop l.item-index l.items) ≡ end_of (form l.frame l.long) l.initial.place l.items;
  finds : (n : ℕ) →
      unwrap_or (entry_of l.places.items n) (label_in (form l.frame l.long) l.place (drop l.item-index l.items) n)
      ≡ label_in (form l.frame l.long) l.initial.place l.items n;
  near : l.place < 2 ^ 25;
}
