use Rattle.std.proofs.Common.{sym}
use Rattle.c_parse_base.specs.Laws.AnswerLaws.{answers_by}
use Rattle.c_parse.specs.Laws.Code.{external_include, external_declared}
use Rattle.c_parse.proofs.parser.external.Goals as goal

pub returns-then-not-begins_declaration-clause-answers : goal.returns-then-not-begins_declaration-clause-answers
returns-then-not-begins_declaration-clause-answers c =
    answers_by (external_include c.args.depth c.args.cursor.now (sym c.if-not-begins_declaration.ensures)) c.include.ensures.answers

pub returns-clause-answers : goal.returns-clause-answers
returns-clause-answers c =
    answers_by (external_declared c.args.depth c.args.cursor.now (sym c.if-not-begins_declaration.ensures))
    c.declaration.ensures.answers
