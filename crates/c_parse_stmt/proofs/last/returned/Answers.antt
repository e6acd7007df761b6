use Rattle.std.proofs.Common.{◌-◌, ◌∙◌, ap, refl}
use Rattle.c_parse_base.specs.Laws.AnswerLaws.{answers_on, answers_by, answers_stop, answers_next, answers_made, passed}
use Rattle.c_ast.specs.declared.punctuator.Punctuator.TheVariants as mark
use Rattle.c_parse_stmt.specs.Reading.Nodes.{return_from}
use Rattle.c_parse_stmt.specs.Reading.Statements.{maybe}
use Rattle.c_parse_stmt.specs.Laws.ClauseCode.{returned_is}
use Rattle.c_parse_stmt.proofs.last.returned.Goals as goal

pub returns-in_err-read-clause-answers : goal.returns-in_err-read-clause-answers
returns-in_err-read-clause-answers c =
    answers_on _ c.from_residual.ensures.1
    (answers_by (returned_is c.args.depth c.args.cursor.now c.requires)
    (answers_stop _ (passed (maybe c.args.depth mark.Semicolon) c.skip.ensures c.in_err-read.ensures.answers)))

pub returns-clause-answers : goal.returns-clause-answers
returns-clause-answers c =
    answers_made (c.in_ok-returned.ensures ∙ ap (λ s. return_from s c.in_ok-read.read) c.start-start.ensures)
    (answers_by (returned_is c.args.depth c.args.cursor.now c.requires)
    (answers_next _ (passed (maybe c.args.depth mark.Semicolon) c.skip.ensures c.in_ok-read.ensures.answers) (record { is = refl })))
