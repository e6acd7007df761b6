use Rattle.std.proofs.Common.{◌-◌, sym}
use Rattle.c_parse_base.specs.Laws.AnswerLaws.{answers_by}
use Rattle.c_parse_stmt.specs.Laws.ClauseCode.{last_break, last_continue, last_simple}
use Rattle.c_parse_stmt.proofs.last.jump_or.Goals as goal

pub returns-then-sees_keyword-clause-answers : goal.returns-then-sees_keyword-clause-answers
returns-then-sees_keyword-clause-answers c =
    answers_by (last_break c.args.depth c.args.cursor.now (sym c.if-sees_keyword.ensures))
    c.broken.ensures.answers

pub returns-then-sees_keyword-2-clause-answers : goal.returns-then-sees_keyword-2-clause-answers
returns-then-sees_keyword-2-clause-answers c =
    answers_by (last_continue c.args.depth c.args.cursor.now (sym c.if-sees_keyword.ensures) (sym c.if-sees_keyword-2.ensures))
    c.continued.ensures.answers

pub returns-clause-answers : goal.returns-clause-answers
returns-clause-answers c =
    answers_by (last_simple c.args.depth c.args.cursor.now (sym c.if-sees_keyword.ensures) (sym c.if-sees_keyword-2.ensures))
    c.simple.ensures.answers
