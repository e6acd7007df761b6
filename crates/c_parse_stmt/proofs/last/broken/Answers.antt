use Rattle.std.proofs.Common.{◌∙◌, ap, refl}
use Rattle.c_parse_base.specs.Laws.AnswerLaws.{answers_on, answers_by, answers_stop, answers_next, answers_made, passed}
use Rattle.c_ast.specs.declared.punctuator.Punctuator.TheVariants as mark
use Rattle.c_parse_base.specs.Reading.Words.{punct}
use Rattle.c_parse_stmt.specs.Reading.Nodes.{break_from}
use Rattle.c_parse_stmt.specs.Laws.ClauseCode.{broken_is}
use Rattle.c_parse_stmt.proofs.last.broken.Goals as goal

pub returns-in_err-end-clause-answers : goal.returns-in_err-end-clause-answers
returns-in_err-end-clause-answers c =
    answers_on _ c.from_residual.ensures.1
    (answers_by (broken_is c.args.cursor.now c.requires)
    (answers_stop _ (passed (punct mark.Semicolon) c.skip.ensures c.in_err-end.ensures)))

pub returns-clause-answers : goal.returns-clause-answers
returns-clause-answers c =
    answers_made (c.in_ok-broken.ensures ∙ ap (λ s. break_from s c.in_ok-end.end) c.start-start.ensures)
    (answers_by (broken_is c.args.cursor.now c.requires)
    (answers_next _ (passed (punct mark.Semicolon) c.skip.ensures c.in_ok-end.ensures) (record { is = refl })))
