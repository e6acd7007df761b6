use Rattle.std.proofs.Common.{map, take}
use Rattle.c_type_stmt.specs.Declarations.{local}
use Rattle.c_type_expr.specs.Outcomes.{each}
use Rattle.c_type_expr.specs.Walked.{Walked}
use Rattle.c_type_stmt.proofs.statements.locals.Given as goal

-- the walk has passed the declarations so far
abbrev pub invariant-loop-d : goal.invariant-loop-d
invariant-loop-d l = Walked (each (map local (take l.d-index l.decls))) l.initial.walk l.walk l.declared
