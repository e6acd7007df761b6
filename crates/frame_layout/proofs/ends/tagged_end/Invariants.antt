use Rattle.std.proofs.Common.{◌≡◌, ◌≤◌, ◌+◌, ◌*◌, ◌^◌, drop}
use Rattle.frame_layout.specs.Frames.{tagged_end}
use Rattle.frame_layout.proofs.ends.tagged_end.Given as goal

-- with what is left it ends where all of them end
abbrev pub invariant-loop-part : goal.invariant-loop-part
invariant-loop-part l =
    (tagged_end l.place (drop l.part-index l.parts) ≡ tagged_end l.from l.parts) × (l.place ≤ l.from + l.part-index * 2 ^ 33)
