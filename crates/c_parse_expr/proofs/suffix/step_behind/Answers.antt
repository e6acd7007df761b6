use Rattle.std.proofs.Common.{sym}
use Rattle.std.specs.Prelude.{refl}
use Rattle.c_parse_base.specs.Laws.AnswerLaws.{answers_on, answers_by, answers_stop, answers_next}
use Rattle.c_parse_expr.specs.Laws.WordCode.{step_plus, step_minus}
use Rattle.c_parse_expr.proofs.suffix.step_behind.Goals as goal

pub returns-in_err-place-clause-answers : goal.returns-in_err-place-clause-answers
returns-in_err-place-clause-answers c = answers_on _ c.from_residual.ensures.1
    (answers_by (step_plus c.args.cursor.now (sym c.if-sees.ensures)) (answers_stop _ c.in_err-place.ensures))

pub returns-then-sees-clause-answers : goal.returns-then-sees-clause-answers
returns-then-sees-clause-answers c = answers_by (step_plus c.args.cursor.now (sym c.if-sees.ensures))
    (answers_next _ c.in_ok-place.ensures (record { is = refl }))

pub returns-in_err-place-2-clause-answers : goal.returns-in_err-place-2-clause-answers
returns-in_err-place-2-clause-answers c = answers_on _ c.from_residual-in_err-place-2.ensures.1
    (answers_by (step_minus c.args.cursor.now (sym c.if-sees.ensures) (sym c.if-sees-2.ensures)) (answers_stop _ c.in_err-place-2.ensures))

pub returns-then-sees-2-clause-answers : goal.returns-then-sees-2-clause-answers
returns-then-sees-2-clause-answers c = answers_by (step_minus c.args.cursor.now (sym c.if-sees.ensures) (sym c.if-sees-2.ensures))
    (answers_next _ c.in_ok-place-2.ensures (record { is = refl }))
