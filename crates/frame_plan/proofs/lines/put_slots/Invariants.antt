use Rattle.std.proofs.Common.{◌≡◌, ◌++◌, drop}
use Rattle.frame_plan.specs.Lines.{slot_lines}
use Rattle.frame_plan.proofs.lines.put_slots.Given as goal

-- with what is left these are all lines
abbrev pub invariant-loop-number : goal.invariant-loop-number
invariant-loop-number l =
    l.text.items ++ slot_lines (drop l.number l.locals) (drop l.number l.slots)
    ≡ l.initial.text.items ++ slot_lines l.locals l.slots
