use Rattle.std.proofs.Common.{◌≡◌, ◌++◌, drop, flat_map}
use Rattle.tag_plan.specs.Lists.{outer_tagged, slot_list}
use Rattle.tag_plan.proofs.calls.push_outer.Given as goal

-- with the slots that are left these are all
abbrev pub invariant-loop-slot : goal.invariant-loop-slot
invariant-loop-slot l =
    l.code.items ++ flat_map slot_list (outer_tagged (drop l.slot-index l.slots))
    ≡ l.initial.code.items ++ flat_map slot_list (outer_tagged l.slots)
