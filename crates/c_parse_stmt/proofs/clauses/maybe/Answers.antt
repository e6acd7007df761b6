use Rattle.std.proofs.Common.{◌-◌, arith, sym, refl}
use Rattle.c_parse_base.specs.Laws.AnswerLaws.{answers_on, answers_by, answers_stop, answers_next, answers_made}
use Rattle.c_parse_stmt.specs.Laws.ClauseCode.{maybe_none, maybe_deep, maybe_some}
use Rattle.c_parse_stmt.proofs.clauses.maybe.Goals as goal

pub returns-in_err-place-clause-answers : goal.returns-in_err-place-clause-answers
returns-in_err-place-clause-answers c =
    answers_on _ c.from_residual.ensures.1
    (answers_by (maybe_none c.args.depth c.args.mark c.args.cursor.now (sym c.if-not-begins_expression.ensures))
    (answers_stop _ c.in_err-place.ensures))

pub returns-then-not-begins_expression-clause-answers : goal.returns-then-not-begins_expression-clause-answers
returns-then-not-begins_expression-clause-answers c =
    answers_made c.left_out.ensures
    (answers_by (maybe_none c.args.depth c.args.mark c.args.cursor.now (sym c.if-not-begins_expression.ensures))
    (answers_next _ c.in_ok-place.ensures (record { is = refl })))

pub returns-then-depth-eq0-clause-answers : goal.returns-then-depth-eq0-clause-answers
returns-then-depth-eq0-clause-answers c =
    record { is = maybe_deep c.args.depth c.args.mark c.args.cursor.now (sym c.if-not-begins_expression.ensures) (omega arith) }

pub returns-in_err-inner-clause-answers : goal.returns-in_err-inner-clause-answers
returns-in_err-inner-clause-answers c =
    answers_on _ c.from_residual-in_err-inner.ensures.1
    (answers_by (maybe_some c.args.depth c.args.mark c.args.cursor.now (sym c.if-not-begins_expression.ensures) (omega arith))
    (answers_stop _ (answers_stop _ c.in_err-inner.ensures.answers)))

pub returns-in_err-place-2-clause-answers : goal.returns-in_err-place-2-clause-answers
returns-in_err-place-2-clause-answers c =
    answers_on _ c.from_residual-in_err-place-2.ensures.1
    (answers_by (maybe_some c.args.depth c.args.mark c.args.cursor.now (sym c.if-not-begins_expression.ensures) (omega arith))
    (answers_stop _ (answers_next _ c.in_ok-inner.ensures.answers (answers_stop _ c.in_err-place-2.ensures))))

pub returns-clause-answers : goal.returns-clause-answers
returns-clause-answers c =
    answers_made c.written.ensures
    (answers_by (maybe_some c.args.depth c.args.mark c.args.cursor.now (sym c.if-not-begins_expression.ensures) (omega arith))
    (answers_next _ (answers_next _ c.in_ok-inner.ensures.answers (answers_next _ c.in_ok-place-2.ensures (record { is = refl })))
    (record { is = refl })))
