use Rattle.std.proofs.Common.{◌-◌}
use Rattle.c_parse_base.specs.Laws.AnswerLaws.{answers_by}
use Rattle.c_parse_stmt.specs.Laws.ClauseCode.{last_inside, last_outside}
use Rattle.c_parse_stmt.proofs.last.last.Goals as goal

pub returns-then-in_loop-clause-answers : goal.returns-then-in_loop-clause-answers
returns-then-in_loop-clause-answers c =
    answers_by (last_inside c.args.depth c.args.in_loop c.args.cursor.now c.if-in_loop.true)
    c.jump_or.ensures.answers

pub returns-clause-answers : goal.returns-clause-answers
returns-clause-answers c =
    answers_by (last_outside c.args.depth c.args.in_loop c.args.cursor.now c.if-in_loop.false)
    c.simple.ensures.answers
