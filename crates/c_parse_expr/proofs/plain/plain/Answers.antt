use Rattle.c_parse_base.specs.Laws.AnswerLaws.{answers_by}
use Rattle.c_parse_expr.specs.Laws.WordCode.{plain_texts, plain_constant}
use Rattle.c_parse_expr.proofs.plain.plain.Goals as goal

pub returns-in-Some-clause-answers : goal.returns-in-Some-clause-answers
returns-in-Some-clause-answers c = answers_by (plain_texts c.args.cursor.now _ c.in-Some.ensures) c.texts.ensures.answers

pub returns-in-None-clause-answers : goal.returns-in-None-clause-answers
returns-in-None-clause-answers c = answers_by (plain_constant c.args.cursor.now c.in-None.ensures) c.constant.ensures.answers
