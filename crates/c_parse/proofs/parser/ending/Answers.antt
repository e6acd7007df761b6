use Rattle.std.proofs.Common.{sym, refl}
use Rattle.c_parse_base.specs.Laws.AnswerLaws.{answers_on, answers_by, answers_stop, answers_next, answers_made}
use Rattle.c_parse.specs.Laws.Code.{ending_block, ending_bare}
use Rattle.c_parse.proofs.parser.ending.Goals as goal

pub returns-in_err-read-clause-answers : goal.returns-in_err-read-clause-answers
returns-in_err-read-clause-answers c =
    answers_on _ c.from_residual.ensures.1
    (answers_by (ending_block c.args.depth c.args.params.now c.args.cursor.now (sym c.if-sees_block.ensures))
    (answers_stop _ c.in_err-read.ensures.answers))

pub returns-then-sees_block-clause-answers : goal.returns-then-sees_block-clause-answers
returns-then-sees_block-clause-answers c =
    answers_made c.block-then-sees_block.ensures
    (answers_by (ending_block c.args.depth c.args.params.now c.args.cursor.now (sym c.if-sees_block.ensures))
    (answers_next _ c.in_ok-read.ensures.answers (record { is = refl })))

pub returns-in_err-place-clause-answers : goal.returns-in_err-place-clause-answers
returns-in_err-place-clause-answers c =
    answers_on _ c.from_residual-in_err-place.ensures.1
    (answers_by (ending_bare c.args.depth c.args.params.now c.args.cursor.now (sym c.if-sees_block.ensures))
    (answers_stop _ c.in_err-place.ensures))

pub returns-clause-answers : goal.returns-clause-answers
returns-clause-answers c =
    answers_by (ending_bare c.args.depth c.args.params.now c.args.cursor.now (sym c.if-sees_block.ensures))
    (answers_next _ c.in_ok-place.ensures (record { is = refl }))
