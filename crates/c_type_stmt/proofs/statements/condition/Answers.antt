use Rattle.c_type_stmt.proofs.StatementLaws.{condition_walked}
use Rattle.c_type_stmt.proofs.statements.condition.Goals as goal

pub returns-in-Some : goal.returns-in-Some
returns-in-Some c =
    condition_walked c.args.e.now _ _ _ _ c.in-Some.k c.in-Some.is c.in_ok-judged_value.ensures (rw (← c.is_scalar.ensures) c.ask.ensures)
