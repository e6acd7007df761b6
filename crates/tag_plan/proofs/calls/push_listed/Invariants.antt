use Rattle.std.proofs.Common.{◌≡◌, ◌++◌, drop, flat_map}
use Rattle.tag_plan.specs.Lists.{listed, slot_list}
use Rattle.tag_plan.proofs.calls.push_listed.Given as goal

-- with the numbers that are left these are all
abbrev pub invariant-loop-number : goal.invariant-loop-number
invariant-loop-number l =
    l.code.items ++ flat_map slot_list (listed l.frame.slots (drop l.number-index l.numbers))
    ≡ l.initial.code.items ++ flat_map slot_list (listed l.frame.slots l.numbers)
