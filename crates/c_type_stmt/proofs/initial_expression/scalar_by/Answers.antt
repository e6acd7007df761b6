use Rattle.c_type_stmt.proofs.ExpressionInitialLaws.{scalar_unfit, scalar_fit}
use Rattle.c_type_stmt.proofs.initial_expression.scalar_by.Goals as goal

pub returns-in-None : goal.returns-in-None
returns-in-None c =
    scalar_unfit c.args.e.now c.args.from_start c.args.t.now _ _ _ _ c.in-None.is c.in_ok-expression.ensures
    (rw (← c.computes.ensures, ← c.may_fit.ensures) c.ask.ensures)

pub returns-in_ok-assigned-in-Some : goal.returns-in_ok-assigned-in-Some
returns-in_ok-assigned-in-Some c =
    scalar_fit c.args.e.now c.args.from_start c.args.t.now _ _ _ _ c.in-Some.k c.in_ok-k-in-Some.k c.in_ok-assigned-in-Some.field-0
    c.in-Some.is
    c.in_ok-expression.ensures c.in_ok-k-in-Some.ensures c.in_ok-assigned-in-Some.ensures
