use Rattle.std.proofs.Common.{take}
use Rattle.c_types.specs.Standing.{FileStands}
use Rattle.c_types.specs.Units.{Judgement, objects_judged}
use Rattle.c_types.proofs.objects.objects_judged.Given as goal

-- the walk has passed the objects so far
abbrev pub invariant-loop-d : goal.invariant-loop-d
invariant-loop-d l =
    (j : Judgement) → FileStands l.initial.files j → FileStands l.files (objects_judged l.names l.storage j (take l.d-index l.decls))
