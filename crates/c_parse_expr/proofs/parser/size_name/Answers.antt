use Rattle.std.specs.Prelude.{refl}
use Rattle.c_parse_base.specs.Laws.AnswerLaws.{answers_on, answers_by, answers_stop, answers_next, answers_made}
use Rattle.c_parse_expr.specs.Laws.OperandCode.{size_name_is}
use Rattle.c_parse_expr.proofs.parser.size_name.Goals as goal

pub returns-in_err-read-clause-answers : goal.returns-in_err-read-clause-answers
returns-in_err-read-clause-answers c =
    answers_on _ c.from_residual.ensures.1
    (answers_by (size_name_is c.args.depth c.args.place c.args.cursor.now) (answers_stop _ (answers_stop _ c.in_err-read.ensures.answers)))

pub returns-in_err-right-clause-answers : goal.returns-in_err-right-clause-answers
returns-in_err-right-clause-answers c =
    answers_on _ c.from_residual-in_err-right.ensures.1
    (answers_by (size_name_is c.args.depth c.args.place c.args.cursor.now)
    (answers_stop _ (answers_next _ c.in_ok-read.ensures.answers (answers_stop _ c.in_err-right.ensures))))

pub returns-clause-answers : goal.returns-clause-answers
returns-clause-answers c =
    answers_made c.in_ok-size_name.ensures
    (answers_by (size_name_is c.args.depth c.args.place c.args.cursor.now)
    (answers_next _ (answers_next _ c.in_ok-read.ensures.answers (answers_next _ c.in_ok-right.ensures (record { is = refl })))
    (record { is = refl })))
