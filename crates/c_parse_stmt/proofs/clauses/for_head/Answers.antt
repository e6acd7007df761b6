use Rattle.std.proofs.Common.{◌-◌, refl}
use Rattle.c_parse_base.specs.Laws.AnswerLaws.{answers_on, answers_by, answers_stop, answers_next}
use Rattle.c_parse_stmt.specs.Laws.ClauseCode.{for_head_is}
use Rattle.c_parse_stmt.proofs.clauses.for_head.Goals as goal

pub returns-in_err-expect-clause-answers : goal.returns-in_err-expect-clause-answers
returns-in_err-expect-clause-answers c =
    answers_on _ c.from_residual.ensures.1
    (answers_by (for_head_is c.args.depth c.args.cursor.now)
    (answers_stop _ (answers_stop _ c.in_err-expect.ensures)))

pub returns-in_err-first-clause-answers : goal.returns-in_err-first-clause-answers
returns-in_err-first-clause-answers c =
    answers_on _ c.from_residual-in_err-first.ensures.1
    (answers_by (for_head_is c.args.depth c.args.cursor.now)
    (answers_stop _ (answers_next _ c.in_ok-expect.ensures (answers_stop _ (answers_stop _ c.in_err-first.ensures.answers)))))

pub returns-in_err-condition-clause-answers : goal.returns-in_err-condition-clause-answers
returns-in_err-condition-clause-answers c =
    answers_on _ c.from_residual-in_err-condition.ensures.1
    (answers_by (for_head_is c.args.depth c.args.cursor.now)
    (answers_stop _ (answers_next _ c.in_ok-expect.ensures (answers_stop _
    (answers_next _ c.in_ok-first.ensures.answers (answers_stop _ (answers_stop _ c.in_err-condition.ensures.answers)))))))

pub returns-in_err-step-clause-answers : goal.returns-in_err-step-clause-answers
returns-in_err-step-clause-answers c =
    answers_on _ c.from_residual-in_err-step.ensures.1
    (answers_by (for_head_is c.args.depth c.args.cursor.now)
    (answers_stop _ (answers_next _ c.in_ok-expect.ensures (answers_stop _
    (answers_next _ c.in_ok-first.ensures.answers (answers_stop _
    (answers_next _ c.in_ok-condition.ensures.answers (answers_stop _ c.in_err-step.ensures.answers))))))))

pub returns-clause-answers : goal.returns-clause-answers
returns-clause-answers c =
    answers_by (for_head_is c.args.depth c.args.cursor.now)
    (answers_next _ (answers_next _ c.in_ok-expect.ensures (answers_next _
    (answers_next _ c.in_ok-first.ensures.answers (answers_next _
    (answers_next _ c.in_ok-condition.ensures.answers (answers_next _ c.in_ok-step.ensures.answers (record { is = refl })))
    (record { is = refl }))) (record { is = refl }))) (record { is = refl }))
