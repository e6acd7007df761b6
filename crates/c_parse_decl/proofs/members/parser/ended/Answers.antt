use Rattle.std.proofs.Common.{refl}
use Rattle.c_parse_base.specs.Laws.AnswerLaws.{answers_on, answers_by, answers_stop, answers_next}
use Rattle.c_parse_decl.specs.Laws.Members.Code.{ended_is}
use Rattle.c_parse_decl.proofs.members.parser.ended.Goals as goal

pub returns-in_err-read-clause-answers : goal.returns-in_err-read-clause-answers
returns-in_err-read-clause-answers c =
    answers_on _ c.from_residual.ensures.1
    (answers_by (ended_is c.args.depth c.args.of.now c.args.before c.args.cursor.now)
    (answers_stop _ (answers_stop _ c.in_err-read.ensures.answers)))

pub returns-in_err-expect-clause-answers : goal.returns-in_err-expect-clause-answers
returns-in_err-expect-clause-answers c =
    answers_on _ c.from_residual-in_err-expect.ensures.1
    (answers_by (ended_is c.args.depth c.args.of.now c.args.before c.args.cursor.now)
    (answers_stop _ (answers_next _ c.in_ok-read.ensures.answers (answers_stop _ c.in_err-expect.ensures))))

pub returns-clause-answers : goal.returns-clause-answers
returns-clause-answers c =
    answers_by (ended_is c.args.depth c.args.of.now c.args.before c.args.cursor.now)
    (answers_next _ (answers_next _ c.in_ok-read.ensures.answers (answers_next _ c.in_ok-expect.ensures (record { is = refl })))
    (record { is = refl }))
