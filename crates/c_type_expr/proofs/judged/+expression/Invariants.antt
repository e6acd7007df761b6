use Rattle.std.proofs.Common.{map, take}
use Rattle.c_type_expr.specs.Outcomes.{each}
use Rattle.c_type_expr.specs.Sorted.{listed_items}
use Rattle.c_type_expr.specs.Walked.{Walked}
use Rattle.c_type_expr.proofs.CallLaws.{argument_of}
use Rattle.c_type_expr.proofs.judged.+expression.Given as goal

-- the arguments passed are walked, and their values are known as said
abbrev pub invariant-values-loop-argument : goal.invariant-values-loop-argument
invariant-values-loop-argument l =
    Walked (each (map argument_of (take l.argument-index l.arguments))) l.initial.walk l.walk (listed_items l.values)
