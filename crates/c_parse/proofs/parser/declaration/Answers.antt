use Rattle.std.proofs.Common.{refl}
use Rattle.c_parse_base.specs.Laws.AnswerLaws.{answers_on, answers_by, answers_stop, answers_next, answers_made}
use Rattle.c_parse.specs.Laws.Code.{declaration_is}
use Rattle.c_parse.proofs.parser.declaration.Goals as goal

pub returns-in_err-specifiers-clause-answers : goal.returns-in_err-specifiers-clause-answers
returns-in_err-specifiers-clause-answers c =
    answers_on _ c.from_residual.ensures.1 (answers_by (declaration_is c.args.depth c.args.cursor.now)
    (answers_stop _ (answers_stop _ c.in_err-specifiers.ensures.answers)))

pub returns-in_err-behind-clause-answers : goal.returns-in_err-behind-clause-answers
returns-in_err-behind-clause-answers c =
    answers_on _ c.from_residual-in_err-behind.ensures.1
    (answers_by (declaration_is c.args.depth c.args.cursor.now)
    (answers_stop _ (answers_next _ c.in_ok-specifiers.ensures.answers (answers_stop _ c.in_err-behind.ensures.answers))))

pub returns-clause-answers : goal.returns-clause-answers
returns-clause-answers c =
    answers_made c.in_ok-one.ensures
    (answers_by (declaration_is c.args.depth c.args.cursor.now)
    (answers_next _ (answers_next _ c.in_ok-specifiers.ensures.answers
    (answers_next _ c.in_ok-behind.ensures.answers (record { is = refl }))) (record { is = refl })))
