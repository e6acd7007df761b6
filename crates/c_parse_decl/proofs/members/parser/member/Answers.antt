use Rattle.c_parse_base.specs.Laws.AnswerLaws.{answers_on, answers_by, answers_stop, answers_behind}
use Rattle.c_parse_base.specs.Reading.TypeNames.{base}
use Rattle.c_parse_decl.specs.Reading.Members.{ended}
use Rattle.c_parse_decl.specs.Laws.Members.Code.{member_is}
use Rattle.c_parse_decl.proofs.members.parser.member.Goals as goal

pub returns-in_err-of-clause-answers : goal.returns-in_err-of-clause-answers
returns-in_err-of-clause-answers c =
    answers_on _ c.from_residual.ensures.1
    (answers_by (member_is c.args.depth c.args.before c.args.cursor.now) (answers_stop _ (answers_stop _ c.in_err-of.ensures.answers)))

pub returns-clause-answers : goal.returns-clause-answers
returns-clause-answers c =
    answers_by (member_is c.args.depth c.args.before c.args.cursor.now)
    (answers_behind base (λ b. ended c.args.depth b.ty c.args.before) _ c.in_ok-of.ensures.answers c.ended.ensures.answers)
