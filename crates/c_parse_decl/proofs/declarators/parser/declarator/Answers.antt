use Rattle.std.proofs.Common.{arith, sym}
use Rattle.c_parse_base.specs.Laws.AnswerLaws.{answers_on, answers_by, answers_stop, answers_next}
use Rattle.c_parse_decl.specs.Laws.Declarators.Code.{declarator_is, no_brackets, brackets_deep, brackets_read}
use Rattle.c_parse_decl.proofs.declarators.parser.declarator.Goals as goal

pub returns-in_err-read-clause-answers : goal.returns-in_err-read-clause-answers
returns-in_err-read-clause-answers c =
    answers_on _ c.from_residual.ensures.1 (answers_by (declarator_is c.args.depth c.args.base.now c.args.cursor.now)
    (answers_stop _ c.in_err-read.ensures.answers))

pub returns-then-not-sees-clause-answers : goal.returns-then-not-sees-clause-answers
returns-then-not-sees-clause-answers c =
    answers_by (declarator_is c.args.depth c.args.base.now c.args.cursor.now)
    (answers_next _ c.in_ok-read.ensures.answers (record {
      is =
          no_brackets c.args.depth c.in_ok-read.read c.starred.new.cursor (sym c.if-not-sees.ensures);
    }))

pub returns-then-read-depth-clause-answers : goal.returns-then-read-depth-clause-answers
returns-then-read-depth-clause-answers c =
    answers_by (declarator_is c.args.depth c.args.base.now c.args.cursor.now)
    (answers_next _ c.in_ok-read.ensures.answers (record {
      is =
          brackets_deep c.args.depth c.in_ok-read.read c.starred.new.cursor (sym c.if-not-sees.ensures) (omega arith);
    }))

pub returns-clause-answers : goal.returns-clause-answers
returns-clause-answers c =
    answers_by (declarator_is c.args.depth c.args.base.now c.args.cursor.now)
    (answers_next _ c.in_ok-read.ensures.answers
    (answers_by (brackets_read c.args.depth c.in_ok-read.read c.starred.new.cursor (sym c.if-not-sees.ensures) (omega arith))
    c.bracketed.ensures.answers))
