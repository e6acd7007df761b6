use Rattle.c_parse_base.specs.Laws.AnswerLaws.{answers_on, answers_by, answers_stop, answers_behind}
use Rattle.c_parse_base.specs.Reading.TypeNames as types
use Rattle.c_parse_decl.specs.Reading.Objects.{named}
use Rattle.c_parse_decl.specs.Laws.Objects.Code.{local_is}
use Rattle.c_parse_decl.proofs.objects.parser.local.Goals as goal

pub returns-in_err-read-clause-answers : goal.returns-in_err-read-clause-answers
returns-in_err-read-clause-answers c =
    answers_on _ c.from_residual.ensures.1 (answers_by (local_is c.args.depth c.args.cursor.now)
    (answers_stop _ (answers_stop _ c.in_err-read.ensures.answers)))

pub returns-clause-answers : goal.returns-clause-answers
returns-clause-answers c =
    answers_by (local_is c.args.depth c.args.cursor.now)
    (answers_behind types.base (λ b. named c.args.depth b.ty) _ c.in_ok-read.ensures.answers c.named.ensures.answers)
