use Rattle.c_parse_base.specs.Laws.AnswerLaws.{answers_on, answers_by, answers_stop, answers_next}
use Rattle.c_parse_base.specs.Laws.TypeCode.{type_is}
use Rattle.c_parse_base.proofs.type_names.type_name.Goals as goal

pub returns-in_err-read-clause-answers : goal.returns-in_err-read-clause-answers
returns-in_err-read-clause-answers c =
    answers_on _ c.from_residual.ensures.1 (answers_by (type_is c.args.depth c.args.cursor.now)
    (answers_stop _ c.in_err-read.ensures.answers))

pub returns-clause-answers : goal.returns-clause-answers
returns-clause-answers c = answers_by (type_is c.args.depth c.args.cursor.now)
    (answers_next _ c.in_ok-read.ensures.answers c.more_stars.ensures.answers)
