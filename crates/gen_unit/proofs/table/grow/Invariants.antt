use Rattle.std.proofs.Common.{◌≡◌, ℕ, ◌-◌, vec_len}
use Rattle.gen_unit.specs.Appended.{entry_of}
use Rattle.gen_unit.proofs.table.grow.Given as goal

-- each entry is what it was
abbrev pub invariant-loop-places : goal.invariant-loop-places
invariant-loop-places l = (n : ℕ) → entry_of l.places.items n ≡ entry_of l.initial.places.items n

abbrev pub decreases-loop-places : goal.decreases-loop-places
decreases-loop-places l = l.count - vec_len l.places
