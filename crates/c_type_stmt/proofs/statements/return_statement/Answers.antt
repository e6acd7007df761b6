use Rattle.std.proofs.lemmas.Result.{IfOk-weaker}
use Rattle.c_type_stmt.proofs.StatementLaws.{return_some}
use Rattle.c_type_stmt.proofs.statements.return_statement.Goals as goal

pub returns-in-Some-2 : goal.returns-in-Some-2
returns-in-Some-2 c =
    rw c.in-Some.is
    (IfOk-weaker c.returned-in-Some-2.result _ _
    (λ t next. return_some c.args.span c.in-Some.e _ _ _ _ c.in-Some-2.value t c.in-Some-2.is c.in_ok-judged_value-in-Some.ensures next)
    c.returned-in-Some-2.ensures)
