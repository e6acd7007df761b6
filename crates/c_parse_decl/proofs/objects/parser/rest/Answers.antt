use Rattle.std.proofs.Common.{arith, sym}
use Rattle.c_parse_base.specs.Laws.AnswerLaws.{answers_on, answers_by, answers_stop, answers_behind}
use Rattle.c_parse_decl.specs.Reading.Declarators.{bracketed}
use Rattle.c_parse_decl.specs.Reading.Objects.{valued_rest}
use Rattle.c_parse_decl.specs.Laws.Objects.Code.{rest_plain, rest_deep, rest_brackets}
use Rattle.c_parse_decl.proofs.objects.parser.rest.Goals as goal

pub returns-then-not-sees-clause-answers : goal.returns-then-not-sees-clause-answers
returns-then-not-sees-clause-answers c = answers_by (rest_plain c.args.depth c.args.base.now c.args.first c.args.cursor.now
    (sym c.if-not-sees.ensures)) c.valued_rest.ensures.answers

pub returns-then-first-depth-clause-answers : goal.returns-then-first-depth-clause-answers
returns-then-first-depth-clause-answers c = record {
  is = rest_deep c.args.depth c.args.base.now c.args.first c.args.cursor.now
      (sym c.if-not-sees.ensures) (omega arith);
}

pub returns-in_err-declared-clause-answers : goal.returns-in_err-declared-clause-answers
returns-in_err-declared-clause-answers c =
    answers_on _ c.from_residual.ensures.1
    (answers_by (rest_brackets c.args.depth c.args.base.now c.args.first c.args.cursor.now (sym c.if-not-sees.ensures) (omega arith))
    (answers_stop _ (answers_stop _ c.in_err-declared.ensures.answers)))

pub returns-clause-answers : goal.returns-clause-answers
returns-clause-answers c =
    answers_by (rest_brackets c.args.depth c.args.base.now c.args.first c.args.cursor.now (sym c.if-not-sees.ensures) (omega arith))
    (answers_behind (bracketed c.args.depth c.args.first) (valued_rest c.args.depth c.args.base.now) _ c.in_ok-declared.ensures.answers
    c.valued_rest-2.ensures.answers)
