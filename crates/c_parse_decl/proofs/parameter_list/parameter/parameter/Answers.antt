use Rattle.std.proofs.Common.{sym, ◌∙◌, ap}
use Rattle.c_parse_base.specs.Laws.AnswerLaws.{answers_on, answers_by, answers_stop, answers_next}
use Rattle.c_parse_decl.specs.Reading.Parameters.{unnamed}
use Rattle.c_parse_decl.specs.Laws.Parameters.Code.{behind, parameter_is}
use Rattle.c_parse_decl.proofs.parameter_list.parameter.parameter.Goals as goal

pub returns-in_err-read-clause-answers : goal.returns-in_err-read-clause-answers
returns-in_err-read-clause-answers c =
    answers_on _ c.from_residual.ensures.1 (answers_by (parameter_is c.args.depth c.args.cursor.now)
    (answers_stop _ c.in_err-read.ensures.answers))

pub returns-clause-answers : goal.returns-clause-answers
returns-clause-answers c =
    answers_by (parameter_is c.args.depth c.args.cursor.now)
    (answers_next _ c.in_ok-read.ensures.answers
    (answers_by (ap (λ a. behind c.args.depth a c.type_name.new.cursor)
    (sym (c.unnamed-read.ensures ∙ ap (λ n. unnamed (n, c.in_ok-read.read)) c.start-start.ensures))) c.behind.ensures.answers))
