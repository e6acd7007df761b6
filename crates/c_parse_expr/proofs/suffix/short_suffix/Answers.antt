use Rattle.std.proofs.Common.{sym}
use Rattle.std.specs.Prelude.{refl}
use Rattle.c_parse_base.specs.Laws.AnswerLaws.{answers_on, answers_by, answers_stop, answers_next, passed}
use Rattle.c_parse_base.specs.Reading.Words.{name}
use Rattle.c_parse_expr.specs.Laws.WordCode.{short_member, short_arrow, short_step}
use Rattle.c_parse_expr.proofs.suffix.short_suffix.Goals as goal

pub returns-in_err-member-clause-answers : goal.returns-in_err-member-clause-answers
returns-in_err-member-clause-answers c = answers_on _ c.from_residual.ensures.1
    (answers_by (short_member c.args.cursor.now (sym c.if-sees.ensures))
    (answers_stop _ (passed name c.skip.ensures c.in_err-member.ensures)))

pub returns-then-sees-clause-answers : goal.returns-then-sees-clause-answers
returns-then-sees-clause-answers c = answers_by (short_member c.args.cursor.now (sym c.if-sees.ensures))
    (answers_next _ (passed name c.skip.ensures c.in_ok-member.ensures) (record { is = refl }))

pub returns-in_err-member-2-clause-answers : goal.returns-in_err-member-2-clause-answers
returns-in_err-member-2-clause-answers c = answers_on _ c.from_residual-in_err-member-2.ensures.1
    (answers_by (short_arrow c.args.cursor.now (sym c.if-sees.ensures) (sym c.if-sees-2.ensures))
    (answers_stop _ (passed name c.skip-then-sees-2.ensures c.in_err-member-2.ensures)))

pub returns-then-sees-2-clause-answers : goal.returns-then-sees-2-clause-answers
returns-then-sees-2-clause-answers c = answers_by (short_arrow c.args.cursor.now (sym c.if-sees.ensures) (sym c.if-sees-2.ensures))
    (answers_next _ (passed name c.skip-then-sees-2.ensures c.in_ok-member-2.ensures) (record { is = refl }))

pub returns-clause-answers : goal.returns-clause-answers
returns-clause-answers c = answers_by (short_step c.args.cursor.now (sym c.if-sees.ensures) (sym c.if-sees-2.ensures))
    c.step_behind.ensures.answers
