use Rattle.std.proofs.Common.{refl}
use Rattle.c_parse_base.specs.Laws.AnswerLaws.{answers_on, answers_by, answers_stop, answers_next, answers_made}
use Rattle.c_parse_base.specs.Laws.TypeCode.{struct_is}
use Rattle.c_parse_base.proofs.type_names.struct_type.Goals as goal

pub returns-in_err-expect_keyword-clause-answers : goal.returns-in_err-expect_keyword-clause-answers
returns-in_err-expect_keyword-clause-answers c =
    answers_on _ c.from_residual.ensures.1 (answers_by (struct_is c.args.cursor.now)
    (answers_stop _ (answers_stop _ c.in_err-expect_keyword.ensures)))

pub returns-in_err-tag-clause-answers : goal.returns-in_err-tag-clause-answers
returns-in_err-tag-clause-answers c =
    answers_on _ c.from_residual-in_err-tag.ensures.1
    (answers_by (struct_is c.args.cursor.now) (answers_stop _
    (answers_next _ c.in_ok-expect_keyword.ensures (answers_stop _ c.in_err-tag.ensures))))

pub returns-clause-answers : goal.returns-clause-answers
returns-clause-answers c =
    answers_made c.tagged.ensures
    (answers_by (struct_is c.args.cursor.now)
    (answers_next _ (answers_next _ c.in_ok-expect_keyword.ensures (answers_next _ c.in_ok-tag.ensures (record { is = refl })))
    (record { is = refl })))
