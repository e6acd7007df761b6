use Rattle.std.proofs.Common.{◌≡◌, take}
use Rattle.frame_layout.specs.WellFormed.{tagged_slots}
use Rattle.tag_plan.specs.Stretches.{stretch_of}
use Rattle.tag_plan.proofs.stretch.tagged_stretch.Given as goal

-- what the slots so far are
abbrev pub invariant-loop-slot : goal.invariant-loop-slot
invariant-loop-slot l = l.found ≡ stretch_of (tagged_slots (take l.slot-index l.slots))
