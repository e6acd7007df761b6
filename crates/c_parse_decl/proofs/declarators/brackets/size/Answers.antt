use Rattle.std.proofs.Common.{◌-◌, ◌+◌, arith, sym, ◌∙◌, refl}
use Rattle.c_parse_base.specs.Laws.AnswerLaws.{answers_on, answers_by, answers_stop, answers_next}
use Rattle.c_parse_decl.specs.Laws.Declarators.Code.{size_none, size_deep, size_some, unsized_is, sized_is}
use Rattle.c_parse_decl.proofs.declarators.brackets.size.Goals as goal

pub returns-in_err-right-clause-answers : goal.returns-in_err-right-clause-answers
returns-in_err-right-clause-answers c =
    answers_on _ c.from_residual.ensures.1
    (answers_by (size_none c.args.depth c.args.level c.args.cursor.now (sym c.if-not-begins_expression.ensures)
    ∙ unsized_is c.args.cursor.now) (answers_stop _ c.in_err-right.ensures))

pub returns-then-not-begins_expression-clause-answers : goal.returns-then-not-begins_expression-clause-answers
returns-then-not-begins_expression-clause-answers c =
    answers_by (size_none c.args.depth c.args.level c.args.cursor.now (sym c.if-not-begins_expression.ensures)
    ∙ unsized_is c.args.cursor.now)
    (answers_next _ c.in_ok-right.ensures (record { is = refl }))

pub returns-then-level-depth-clause-answers : goal.returns-then-level-depth-clause-answers
returns-then-level-depth-clause-answers c = record {
  is = size_deep c.args.depth c.args.level c.args.cursor.now
      (sym c.if-not-begins_expression.ensures) (omega arith);
}

pub returns-in_err-length-clause-answers : goal.returns-in_err-length-clause-answers
returns-in_err-length-clause-answers c =
    answers_on _ c.from_residual-in_err-length.ensures.1
    (answers_by (size_some c.args.depth c.args.level c.args.cursor.now (sym c.if-not-begins_expression.ensures) (omega arith)
    ∙ sized_is c.args.depth c.args.level (c.args.depth - (c.args.level + 1)) c.args.cursor.now (omega arith))
    (answers_stop _ (answers_stop _ c.in_err-length.ensures.answers)))

pub returns-in_err-right-2-clause-answers : goal.returns-in_err-right-2-clause-answers
returns-in_err-right-2-clause-answers c =
    answers_on _ c.from_residual-in_err-right-2.ensures.1
    (answers_by (size_some c.args.depth c.args.level c.args.cursor.now (sym c.if-not-begins_expression.ensures) (omega arith)
    ∙ sized_is c.args.depth c.args.level (c.args.depth - (c.args.level + 1)) c.args.cursor.now (omega arith))
    (answers_stop _ (answers_next _ c.in_ok-length.ensures.answers (answers_stop _ c.in_err-right-2.ensures))))

pub returns-clause-answers : goal.returns-clause-answers
returns-clause-answers c =
    answers_by (size_some c.args.depth c.args.level c.args.cursor.now (sym c.if-not-begins_expression.ensures) (omega arith)
    ∙ sized_is c.args.depth c.args.level (c.args.depth - (c.args.level + 1)) c.args.cursor.now (omega arith))
    (answers_next _ (answers_next _ c.in_ok-length.ensures.answers (answers_next _ c.in_ok-right-2.ensures (record { is = refl })))
    (record { is = refl }))
