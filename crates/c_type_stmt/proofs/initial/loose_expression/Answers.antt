use Rattle.c_type_stmt.proofs.InitialLaws.{loose_known}
use Rattle.c_type_stmt.proofs.initial.loose_expression.Goals as goal

pub returns-in-Some : goal.returns-in-Some
returns-in-Some c =
    loose_known c.args.e.now _ _ _ _ c.in-Some.k c.in-Some.is c.in_ok-expression.ensures (rw (← c.is_value.ensures) c.ask.ensures)
