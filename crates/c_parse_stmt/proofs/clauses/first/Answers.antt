use Rattle.std.proofs.Common.{◌-◌, arith, sym, refl}
use Rattle.c_parse_base.specs.Laws.AnswerLaws.{answers_on, answers_by, answers_stop, answers_next, answers_made}
use Rattle.c_parse_stmt.specs.Laws.ClauseCode.{first_other, first_deep, first_declared}
use Rattle.c_parse_stmt.proofs.clauses.first.Goals as goal

pub returns-in_err-read-clause-answers : goal.returns-in_err-read-clause-answers
returns-in_err-read-clause-answers c =
    answers_on _ c.from_residual.ensures.1
    (answers_by (first_other c.args.depth c.args.cursor.now (sym c.if-not-begins_type.ensures))
    (answers_stop _ c.in_err-read.ensures.answers))

pub returns-then-not-begins_type-clause-answers : goal.returns-then-not-begins_type-clause-answers
returns-then-not-begins_type-clause-answers c =
    answers_made c.first_expression.ensures
    (answers_by (first_other c.args.depth c.args.cursor.now (sym c.if-not-begins_type.ensures))
    (answers_next _ c.in_ok-read.ensures.answers (record { is = refl })))

pub returns-then-depth-eq0-clause-answers : goal.returns-then-depth-eq0-clause-answers
returns-then-depth-eq0-clause-answers c =
    record { is = first_deep c.args.depth c.args.cursor.now (sym c.if-not-begins_type.ensures) (omega arith) }

pub returns-in_err-read-2-clause-answers : goal.returns-in_err-read-2-clause-answers
returns-in_err-read-2-clause-answers c =
    answers_on _ c.from_residual-in_err-read-2.ensures.1
    (answers_by (first_declared c.args.depth c.args.cursor.now (sym c.if-not-begins_type.ensures) (omega arith))
    (answers_stop _ c.in_err-read-2.ensures.answers))

pub returns-clause-answers : goal.returns-clause-answers
returns-clause-answers c =
    answers_made c.first_local.ensures
    (answers_by (first_declared c.args.depth c.args.cursor.now (sym c.if-not-begins_type.ensures) (omega arith))
    (answers_next _ c.in_ok-read-2.ensures.answers (record { is = refl })))
