use Rattle.std.proofs.Common.{sym, refl}
use Rattle.c_parse_base.specs.Laws.AnswerLaws.{answers_on, answers_by, answers_stop, answers_next, answers_made}
use Rattle.c_parse_decl.specs.Laws.Parameters.Code.{name_some}
use Rattle.c_parse_decl.proofs.parameter_list.parameter.with_name.Goals as goal

pub returns-in_err-name-clause-answers : goal.returns-in_err-name-clause-answers
returns-in_err-name-clause-answers c =
    answers_on _ c.from_residual.ensures.1 (answers_by (name_some c.args.read c.args.cursor.now (sym c.if-not-sees_name.ensures))
    (answers_stop _ c.in_err-name.ensures))

pub returns-clause-answers : goal.returns-clause-answers
returns-clause-answers c =
    answers_made c.named.ensures
    (answers_by (name_some c.args.read c.args.cursor.now (sym c.if-not-sees_name.ensures))
    (answers_next _ c.in_ok-name.ensures (record { is = refl })))
