use Rattle.std.proofs.Common.{arith, sym, ◌∙◌, ap}
use Rattle.c_parse_base.specs.Laws.AnswerLaws.{answers_on, answers_by, answers_stop, answers_behind}
use Rattle.c_parse_decl.specs.Reading.Objects.{plain_of, one_object, value, ended}
use Rattle.c_parse_decl.specs.Laws.Objects.Code.{valued_rest_plain, valued_rest_deep, valued_rest_value}
use Rattle.c_parse_decl.proofs.objects.parser.valued_rest.Goals as goal

pub returns-then-not-sees-clause-answers : goal.returns-then-not-sees-clause-answers
returns-then-not-sees-clause-answers c =
    answers_by (valued_rest_plain c.args.depth c.args.base.now c.args.first c.args.cursor.now (sym c.if-not-sees.ensures)
    ∙ ap (λ a. ended c.args.depth c.args.base.now (one_object a) c.args.cursor.now) (sym c.plain.ensures)) c.ended.ensures.answers

pub returns-then-depth-lt2-clause-answers : goal.returns-then-depth-lt2-clause-answers
returns-then-depth-lt2-clause-answers c = record {
  is = valued_rest_deep c.args.depth c.args.base.now c.args.first c.args.cursor.now
      (sym c.if-not-sees.ensures) (omega arith);
}

pub returns-in_err-valued-clause-answers : goal.returns-in_err-valued-clause-answers
returns-in_err-valued-clause-answers c =
    answers_on _ c.from_residual.ensures.1
    (answers_by (valued_rest_value c.args.depth c.args.base.now c.args.first c.args.cursor.now (sym c.if-not-sees.ensures) (omega arith))
    (answers_stop _ (answers_stop _ c.in_err-valued.ensures.answers)))

pub returns-clause-answers : goal.returns-clause-answers
returns-clause-answers c =
    answers_by (valued_rest_value c.args.depth c.args.base.now c.args.first c.args.cursor.now (sym c.if-not-sees.ensures) (omega arith))
    (answers_behind (value c.args.depth (plain_of c.args.first))
    (λ b. ended c.args.depth c.args.base.now (one_object b)) _ c.in_ok-valued.ensures.answers c.ended-2.ensures.answers)
