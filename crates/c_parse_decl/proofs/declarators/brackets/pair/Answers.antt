use Rattle.std.proofs.Common.{◌+◌, arith, refl}
use Rattle.c_parse_base.specs.Laws.AnswerLaws.{answers_on, answers_by, answers_stop, answers_next, answers_made}
use Rattle.c_parse_decl.specs.Laws.Declarators.Code.{pair_is}
use Rattle.c_parse_decl.proofs.declarators.brackets.pair.Goals as goal

pub returns-in_err-expect-clause-answers : goal.returns-in_err-expect-clause-answers
returns-in_err-expect-clause-answers c =
    answers_on _ c.from_residual.ensures.1
    (answers_by (pair_is c.args.depth c.args.before (c.args.before.level + 1) c.args.cursor.now (omega arith))
    (answers_stop _ (answers_stop _ c.in_err-expect.ensures)))

pub returns-in_err-length-clause-answers : goal.returns-in_err-length-clause-answers
returns-in_err-length-clause-answers c =
    answers_on _ c.from_residual-in_err-length.ensures.1
    (answers_by (pair_is c.args.depth c.args.before (c.args.before.level + 1) c.args.cursor.now (omega arith))
    (answers_stop _ (answers_next _ c.in_ok-expect.ensures (answers_stop _ c.in_err-length.ensures.answers))))

pub returns-clause-answers : goal.returns-clause-answers
returns-clause-answers c =
    answers_made c.in_ok-with.ensures
    (answers_by (pair_is c.args.depth c.args.before (c.args.before.level + 1) c.args.cursor.now (omega arith))
    (answers_next _ (answers_next _ c.in_ok-expect.ensures (answers_next _ c.in_ok-length.ensures.answers (record { is = refl })))
    (record { is = refl })))
