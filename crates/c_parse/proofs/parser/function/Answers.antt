use Rattle.std.proofs.Common.{refl}
use Rattle.c_parse_base.specs.Laws.AnswerLaws.{answers_on, answers_by, answers_stop, answers_next, answers_made}
use Rattle.c_parse.specs.Laws.Code.{function_is}
use Rattle.c_parse.proofs.parser.function.Goals as goal

pub returns-in_err-params-clause-answers : goal.returns-in_err-params-clause-answers
returns-in_err-params-clause-answers c =
    answers_on _ c.from_residual.ensures.1
    (answers_by (function_is c.args.depth c.args.first c.args.cursor.now) (answers_stop _ (answers_stop _ c.in_err-params.ensures.answers)))

pub returns-in_err-ending-clause-answers : goal.returns-in_err-ending-clause-answers
returns-in_err-ending-clause-answers c =
    answers_on _ c.from_residual-in_err-ending.ensures.1
    (answers_by (function_is c.args.depth c.args.first c.args.cursor.now)
    (answers_stop _ (answers_next _ c.in_ok-params.ensures.answers (answers_stop _ c.in_err-ending.ensures.answers))))

pub returns-clause-answers : goal.returns-clause-answers
returns-clause-answers c =
    answers_made c.function.ensures
    (answers_by (function_is c.args.depth c.args.first c.args.cursor.now)
    (answers_next _ (answers_next _ c.in_ok-params.ensures.answers
    (answers_next _ c.in_ok-ending.ensures.answers (record { is = refl }))) (record { is = refl })))
