use Rattle.std.proofs.Common.{refl}
use Rattle.c_parse_base.specs.Laws.AnswerLaws.{answers_on, answers_by, answers_stop, answers_next, answers_made}
use Rattle.c_parse_base.specs.Laws.TypeCode.{stars_is}
use Rattle.c_parse_base.proofs.type_names.stars.Goals as goal

pub returns-in_err-place-clause-answers : goal.returns-in_err-place-clause-answers
returns-in_err-place-clause-answers c =
    answers_on _ c.from_residual.ensures.1
    (answers_by (stars_is c.args.depth c.args.read c.args.cursor.now) (answers_stop _ (answers_stop _ c.in_err-place.ensures)))

pub returns-clause-answers : goal.returns-clause-answers
returns-clause-answers c =
    answers_by (stars_is c.args.depth c.args.read c.args.cursor.now)
    (answers_next _ (answers_made c.in_ok-first.ensures (answers_next _ c.in_ok-place.ensures (record { is = refl })))
    c.more_stars.ensures.answers)
