use Rattle.std.proofs.Common.{◌-◌}
use Rattle.c_parse_base.specs.Laws.AnswerLaws.{answers_by}
use Rattle.c_parse_stmt.specs.Laws.Code.{block_is}
use Rattle.c_parse_stmt.proofs.parser.block.Goals as goal

pub returns-clause-answers : goal.returns-clause-answers
returns-clause-answers c =
    answers_by (block_is c.args.depth c.args.cursor.now)
    c.block_in.ensures.answers
