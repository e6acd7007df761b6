use Rattle.std.proofs.Common.{take}
use Rattle.c_types.specs.Standing.{FileStands}
use Rattle.c_types.specs.Units.{Judgement, parts_judged}
use Rattle.c_types.proofs.parts.parts_judged.Given as goal

-- the walk has passed the parts so far
abbrev pub invariant-loop-part : goal.invariant-loop-part
invariant-loop-part l =
    (j : Judgement) → FileStands l.initial.files j → FileStands l.files (parts_judged l.names j (take l.part-index l.parts))
