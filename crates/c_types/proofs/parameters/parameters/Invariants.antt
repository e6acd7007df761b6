use Rattle.std.proofs.Common.{map, take}
use Rattle.c_type_expr.specs.Outcomes.{each}
use Rattle.c_type_expr.specs.Walked.{Walked}
use Rattle.c_types.specs.Functions.{parameter}
use Rattle.c_types.proofs.parameters.parameters.Given as goal

-- the walk has passed the parameters so far
abbrev pub invariant-loop-d : goal.invariant-loop-d
invariant-loop-d l = Walked (each (map (parameter l.defines) (take l.d-index l.decls))) l.initial.walk l.walk l.types
