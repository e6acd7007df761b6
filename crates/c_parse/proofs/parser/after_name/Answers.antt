use Rattle.std.proofs.Common.{sym, refl}
use Rattle.c_parse_base.specs.Laws.AnswerLaws.{answers_on, answers_by, answers_stop, answers_next}
use Rattle.c_parse.specs.Laws.Code.{after_function, after_objects}
use Rattle.c_parse.proofs.parser.after_name.Goals as goal

pub returns-then-sees-clause-answers : goal.returns-then-sees-clause-answers
returns-then-sees-clause-answers c =
    answers_by (after_function c.args.depth c.args.base.now c.args.first c.args.cursor.now (sym c.if-sees.ensures))
    c.function.ensures.answers

pub returns-in_err-read-clause-answers : goal.returns-in_err-read-clause-answers
returns-in_err-read-clause-answers c =
    answers_on _ c.from_residual.ensures.1
    (answers_by (after_objects c.args.depth c.args.base.now c.args.first c.args.cursor.now (sym c.if-sees.ensures))
    (answers_stop _ c.in_err-read.ensures.answers))

pub returns-clause-answers : goal.returns-clause-answers
returns-clause-answers c =
    answers_by (after_objects c.args.depth c.args.base.now c.args.first c.args.cursor.now (sym c.if-sees.ensures))
    (answers_next _ c.in_ok-read.ensures.answers (record { is = refl }))
