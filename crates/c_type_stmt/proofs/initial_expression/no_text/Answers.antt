use Rattle.c_type_stmt.proofs.ExpressionInitialLaws.{no_text_unknown, no_text_known}
use Rattle.c_type_stmt.proofs.initial_expression.no_text.Goals as goal

pub returns-in-None : goal.returns-in-None
returns-in-None c = no_text_unknown c.args.e.now _ _ _ _ c.in-None.is c.in_ok-expression.ensures c.ask.ensures

pub returns-in-Some : goal.returns-in-Some
returns-in-Some c =
    no_text_known c.args.e.now _ _ _ _ c.in-Some.k c.in-Some.is c.in_ok-expression.ensures (rw (← c.is_value.ensures) c.ask_both.ensures)
