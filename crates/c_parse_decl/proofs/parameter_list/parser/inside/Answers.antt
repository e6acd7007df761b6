use Rattle.std.proofs.Common.{sym, refl}
use Rattle.c_parse_base.specs.Laws.AnswerLaws.{answers_on, answers_by, answers_stop, answers_next, answers_made}
use Rattle.c_parse_decl.specs.Laws.Parameters.Code.{inside_nothing, inside_listed}
use Rattle.c_parse_decl.proofs.parameter_list.parser.inside.Goals as goal

pub returns-in_err-right-clause-answers : goal.returns-in_err-right-clause-answers
returns-in_err-right-clause-answers c =
    answers_on _ c.from_residual.ensures.1
    (answers_by (inside_nothing c.args.depth c.args.cursor.now (sym c.if-not-begins_type.ensures)) (answers_stop _ c.in_err-right.ensures))

pub returns-then-not-begins_type-clause-answers : goal.returns-then-not-begins_type-clause-answers
returns-then-not-begins_type-clause-answers c =
    answers_made c.none.ensures
    (answers_by (inside_nothing c.args.depth c.args.cursor.now (sym c.if-not-begins_type.ensures))
    (answers_next _ c.in_ok-right.ensures (record { is = refl })))

pub returns-in_err-read-clause-answers : goal.returns-in_err-read-clause-answers
returns-in_err-read-clause-answers c =
    answers_on _ c.from_residual-in_err-read.ensures.1
    (answers_by (inside_listed c.args.depth c.args.cursor.now (sym c.if-not-begins_type.ensures))
    (answers_stop _ (answers_stop _ c.in_err-read.ensures.answers)))

pub returns-in_err-right-2-clause-answers : goal.returns-in_err-right-2-clause-answers
returns-in_err-right-2-clause-answers c =
    answers_on _ c.from_residual-in_err-right-2.ensures.1
    (answers_by (inside_listed c.args.depth c.args.cursor.now (sym c.if-not-begins_type.ensures))
    (answers_stop _ (answers_next _ c.in_ok-read.ensures.answers (answers_stop _ c.in_err-right-2.ensures))))

pub returns-clause-answers : goal.returns-clause-answers
returns-clause-answers c =
    answers_made c.closed.ensures
    (answers_by (inside_listed c.args.depth c.args.cursor.now (sym c.if-not-begins_type.ensures))
    (answers_next _ (answers_next _ c.in_ok-read.ensures.answers
    (answers_next _ c.in_ok-right-2.ensures (record { is = refl }))) (record { is = refl })))
