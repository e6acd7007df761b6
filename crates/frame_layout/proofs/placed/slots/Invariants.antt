use Rattle.std.proofs.Common.{◌≡◌, ◌≤◌, ◌++◌, drop}
use Rattle.frame_layout.specs.Frames.{safe_end, tagged_end, slots_from, largest_frame}
use Rattle.frame_layout.proofs.placed.slots.Given as goal

-- with what is left these are all slots, and they end within the largest frame
abbrev pub invariant-loop-part : goal.invariant-loop-part
invariant-loop-part l =
    (l.slots.items ++ slots_from l.safe l.tagged l.count (drop l.part-index l.parts) ≡ slots_from l.initial.safe l.initial.tagged 0 l.parts)
    × ((safe_end l.safe (drop l.part-index l.parts) ≤ largest_frame)
    × ((tagged_end l.tagged (drop l.part-index l.parts) ≤ largest_frame)
    × (l.count ≤ l.part-index)))
