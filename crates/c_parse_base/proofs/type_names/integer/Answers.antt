use Rattle.std.proofs.Common.{refl}
use Rattle.c_parse_base.specs.Laws.AnswerLaws.{answers_on, answers_by, answers_stop, answers_next}
use Rattle.c_parse_base.specs.Laws.TypeCode.{integer_is}
use Rattle.c_parse_base.proofs.type_names.integer.Goals as goal

pub returns-in_err-words-clause-answers : goal.returns-in_err-words-clause-answers
returns-in_err-words-clause-answers c = answers_on _ c.from_residual.ensures.1
    (answers_by (integer_is c.args.cursor.now) (answers_stop _ c.in_err-words.ensures))

pub returns-clause-answers : goal.returns-clause-answers
returns-clause-answers c = answers_by (integer_is c.args.cursor.now) (answers_next _ c.in_ok-words.ensures (record { is = refl }))
