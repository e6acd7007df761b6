-- None of the number stands from the index on.
use Rattle.std.proofs.Common.{◌≡◌, ◌≤◌, length, drop, None}
use Rattle.mean_memory.specs.Shown.{slot_with}
use Rattle.mean_memory.proofs.lookup.last_position.Given as goal

abbrev pub invariant-loop-index : goal.invariant-loop-index
invariant-loop-index l = (l.index ≤ length l.slots) × (slot_with (drop l.index l.slots) l.number ≡ None)

abbrev pub decreases-loop-index : goal.decreases-loop-index
decreases-loop-index l = l.index
