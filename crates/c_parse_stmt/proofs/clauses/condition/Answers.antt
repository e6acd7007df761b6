use Rattle.std.proofs.Common.{refl}
use Rattle.c_parse_base.specs.Laws.AnswerLaws.{answers_on, answers_by, answers_stop, answers_next}
use Rattle.c_parse_stmt.specs.Laws.ClauseCode.{condition_is}
use Rattle.c_parse_stmt.proofs.clauses.condition.Goals as goal

pub returns-in_err-expect-clause-answers : goal.returns-in_err-expect-clause-answers
returns-in_err-expect-clause-answers c =
    answers_on _ c.from_residual.ensures.1
    (answers_by (condition_is c.args.depth c.args.cursor.now)
    (answers_stop _ (answers_stop _ c.in_err-expect.ensures)))

pub returns-in_err-inner-clause-answers : goal.returns-in_err-inner-clause-answers
returns-in_err-inner-clause-answers c =
    answers_on _ c.from_residual-in_err-inner.ensures.1
    (answers_by (condition_is c.args.depth c.args.cursor.now)
    (answers_stop _ (answers_next _ c.in_ok-expect.ensures (answers_stop _ (answers_stop _ c.in_err-inner.ensures.answers)))))

pub returns-in_err-expect-2-clause-answers : goal.returns-in_err-expect-2-clause-answers
returns-in_err-expect-2-clause-answers c =
    answers_on _ c.from_residual-in_err-expect-2.ensures.1
    (answers_by (condition_is c.args.depth c.args.cursor.now)
    (answers_stop _ (answers_next _ c.in_ok-expect.ensures (answers_stop _
    (answers_next _ c.in_ok-inner.ensures.answers (answers_stop _ c.in_err-expect-2.ensures))))))

pub returns-clause-answers : goal.returns-clause-answers
returns-clause-answers c =
    answers_by (condition_is c.args.depth c.args.cursor.now)
    (answers_next _ (answers_next _ c.in_ok-expect.ensures (answers_next _
    (answers_next _ c.in_ok-inner.ensures.answers (answers_next _ c.in_ok-expect-2.ensures (record { is = refl })))
    (record { is = refl }))) (record { is = refl }))
