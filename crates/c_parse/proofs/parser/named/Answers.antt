use Rattle.std.specs.Prelude.{◌+◌}
use Rattle.c_parse_base.specs.Laws.AnswerLaws.{answers_on, answers_by, answers_stop, answers_behind}
use Rattle.c_parse_decl.specs.Reading.Declarators.{starred}
use Rattle.c_parse.specs.Reading.Externals.{after_name}
use Rattle.c_parse.specs.Laws.Code.{named_is}
use Rattle.c_parse.proofs.parser.named.Goals as goal

pub returns-in_err-first-clause-answers : goal.returns-in_err-first-clause-answers
returns-in_err-first-clause-answers c =
    answers_on _ c.from_residual.ensures.1
    (answers_by (named_is c.args.depth c.args.base.now c.args.cursor.now) (answers_stop _ (answers_stop _ c.in_err-first.ensures.answers)))

pub returns-clause-answers : goal.returns-clause-answers
returns-clause-answers c =
    answers_by (named_is c.args.depth c.args.base.now c.args.cursor.now)
    (answers_behind (starred (c.args.depth + 1) c.args.base.now) (after_name c.args.depth c.args.base.now) _ c.in_ok-first.ensures.answers
    c.after_name.ensures.answers)
