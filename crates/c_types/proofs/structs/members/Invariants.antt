use Rattle.std.proofs.Common.{take, [], Some}
use Rattle.c_type_expr.specs.Walked.{Walked}
use Rattle.c_types.specs.Structs.{members}
use Rattle.c_types.proofs.structs.members.Given as goal

-- the walk has passed the members so far
abbrev pub invariant-loop-i : goal.invariant-loop-i
invariant-loop-i l = Walked (members [] (take l.i l.decls)) l.initial.walk l.walk (Some l.found.items)
