use Rattle.std.proofs.Common.{◌∙◌, ap, refl}
use Rattle.c_parse_base.specs.Laws.AnswerLaws.{answers_on, answers_by, answers_stop, answers_next, answers_made}
use Rattle.c_parse.specs.Reading.Values.{plain_head}
use Rattle.c_parse.specs.Laws.Code.{plain_is}
use Rattle.c_parse.proofs.parser.plain_head.Goals as goal

pub returns-in_err-read-clause-answers : goal.returns-in_err-read-clause-answers
returns-in_err-read-clause-answers c = answers_on _ c.from_residual.ensures.1
    (answers_by (plain_is c.args.cursor.now) (answers_stop _ c.in_err-read.ensures.answers))

pub returns-clause-answers : goal.returns-clause-answers
returns-clause-answers c =
    answers_made (c.in_ok-plain.ensures ∙ ap (λ start. plain_head (start, c.in_ok-read.read)) c.start-start.ensures)
    (answers_by (plain_is c.args.cursor.now) (answers_next _ c.in_ok-read.ensures.answers (record { is = refl })))
