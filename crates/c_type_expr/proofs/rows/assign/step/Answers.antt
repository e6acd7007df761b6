use Rattle.std.proofs.Common.{rules, sym, ◌∙◌, ap, ◌∷◌, []}
use Rattle.c_type_expr.specs.Faults.{rule}
use Rattle.c_type_base.specs.Known.{is_changeable}
use Rattle.c_type_expr.specs.Operators.{Points, sort_of, complete_target}
use Rattle.c_type_expr.specs.Expressions.{stepped, step_row}
use Rattle.c_type_expr.specs.Sorted.{sort_seen}
use Rattle.c_type_expr.specs.Laws.RowLaws.{row_by, ruled_at}
use Rattle.c_type_expr.proofs.rows.assign.step.Goals as goal

pub returns-in_ok-stepped-in-Points : goal.returns-in_ok-stepped-in-Points
returns-in_ok-stepped-in-Points c =
    let t = c.in-Points.target.now in
    row_by (step_row c.args.step c.args.span c.args.e) (sort_of c.args.e) (Points t) _ _ _
    (sym c.operand_of.ensures ∙ ap sort_seen c.in-Points.is)
    (ruled_at c.args.span (λ env. rule 11 (is_changeable c.args.e) ∷ complete_target env.structs t ∷ [])
    (λ env. stepped c.args.step c.args.span c.args.e)
    _ _ _ (rw (← c.is_changeable-changeable.ensures) c.ask_then_target.ensures) (search rules))
