use Rattle.std.proofs.Common.{sym, ap}
use Rattle.c_type_stmt.specs.Laws.SaidLaws.{item_judged}
use Rattle.c_type_expr.specs.Laws.EachLaws.{as_known, walked_next}
use Rattle.c_type_stmt.proofs.StatementLaws.{stated_by, arm-if, arm-if_else, arm-while, arm-do, arm-for, for_walked}
use Rattle.c_type_stmt.proofs.statements.+statement.Goals as goal

pub items_in-loop-item-preserved : goal.items_in-loop-item-preserved
items_in-loop-item-preserved t c =
    as_known _ _ _ _ _ (sym c.in_ok-made.ensures)
    (walked_next item_judged c.args.items.now c.loop-item.item-index c.item-item.result _ _ _ _ _ c.loop-item-test.true
    c.loop-item.invariant (rw (← c.item-item.is) c.in_ok-known.ensures))

pub statement-returns-in-None : goal.statement-returns-in-None
statement-returns-in-None t c =
    rw (c.in-If.is, c.in-None.is)
    (arm-if c.in-If.e c.in-If.then _ _ _ _ _ _ c.in_ok-e-in-If.ensures c.in_ok-then-in-If.ensures c.made_if.ensures)

pub statement-returns-in_ok-other-in-Some : goal.statement-returns-in_ok-other-in-Some
statement-returns-in_ok-other-in-Some t c =
    rw (c.in-If.is, c.in-Some.is)
    (arm-if_else c.in-If.e c.in-If.then c.in-Some.other _ _ _ _ _ _ _ _ c.in_ok-e-in-If.ensures c.in_ok-then-in-If.ensures
    c.in_ok-other-in-Some.ensures (rw (← c.present_boxed.ensures) c.made_if-in-Some.ensures))

pub statement-returns-in_ok-body-in-While : goal.statement-returns-in_ok-body-in-While
statement-returns-in_ok-body-in-While t c =
    rw c.in-While.is
    (arm-while c.in-While.e c.in-While.body _ _ _ _ _ _ c.in_ok-e-in-While.ensures c.in_ok-body-in-While.ensures c.made_while.ensures)

pub statement-returns-in_ok-e-in-DoWhile : goal.statement-returns-in_ok-e-in-DoWhile
statement-returns-in_ok-e-in-DoWhile t c =
    rw c.in-DoWhile.is
    (arm-do c.in-DoWhile.body c.in-DoWhile.e _ _ _ _ _ _ c.in_ok-body-in-DoWhile.ensures c.in_ok-e-in-DoWhile.ensures c.made_do.ensures)

pub statement-returns-in_ok-body-in-For : goal.statement-returns-in_ok-body-in-For
statement-returns-in_ok-body-in-For t c =
    rw c.in-For.is
    (arm-for c.in-For.decls c.in-For.first c.in-For.e c.in-For.next c.in-For.body _ _ c.boxed-in-For.new.walk _ _
    (ap (λ s. record c.args.walk.now { scopes = s }) c.in_ok-open-in-For.ensures)
    (for_walked c.in-For.decls c.in-For.first c.in-For.e c.in-For.next (stated_by c.in-For.body) _ _ _ _ _ _ _ _ _ _ _ _
    (rw (← c.as_slice-in-For.ensures) c.in_ok-declared-in-For.ensures) c.in_ok-first-in-For.ensures c.in_ok-e-in-For.ensures
    c.in_ok-next-in-For.ensures
    c.in_ok-body-in-For.ensures c.made_for.ensures)
    (ap (λ s. record c.boxed-in-For.new.walk { scopes = s }) c.close-in-For.ensures))
