use Rattle.std.proofs.Common.{map, take}
use Rattle.c_type_stmt.specs.Laws.SaidLaws.{item_judged}
use Rattle.c_type_expr.specs.Outcomes.{each}
use Rattle.c_type_expr.specs.Walked.{Walked}
use Rattle.c_type_stmt.proofs.statements.+statement.Given as goal

-- the walk has passed the parts so far
abbrev pub invariant-items_in-loop-item : goal.invariant-items_in-loop-item
invariant-items_in-loop-item l = Walked (each (map item_judged (take l.item-index l.items))) l.initial.walk l.walk l.made
