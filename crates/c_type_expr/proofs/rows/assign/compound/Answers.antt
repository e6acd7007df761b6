use Rattle.std.proofs.Common.{rules, sym, ◌∙◌, ap, ◌∷◌, [], Some}
use Rattle.c_type_expr.specs.Faults.{rule}
use Rattle.c_type_base.specs.Known.{is_changeable}
use Rattle.c_type_expr.specs.Operators.{Integer, Points, sort_of, complete_target}
use Rattle.c_type_expr.specs.Expressions.{assigned, compound_row, moves}
use Rattle.c_type_expr.specs.Sorted.{sort_seen}
use Rattle.c_type_expr.specs.Laws.RowLaws.{row_two, ruled_at}
use Rattle.c_type_expr.proofs.rows.assign.compound.Goals as goal

pub returns-in_ok-assigned-in-Integer-operand_of-2 : goal.returns-in_ok-assigned-in-Integer-operand_of-2
returns-in_ok-assigned-in-Integer-operand_of-2 c =
    let t = c.in-Points.target.now in
    row_two (compound_row c.args.operator c.args.span c.args.a c.args.b) (sort_of c.args.a) (Points t) (sort_of c.args.b)
    (Integer c.in-Integer-operand_of-2.field-0)
    _ _ _ (sym c.operand_of.ensures ∙ ap sort_seen c.in-Points.is) (sym c.operand_of-in-Points.ensures ∙
    ap sort_seen c.in-Integer-operand_of-2.is)
    (ruled_at c.args.span (λ env. rule 11 (is_changeable c.args.a) ∷ rule 12 (moves c.args.operator) ∷ complete_target env.structs t ∷ [])
    (λ env. assigned (Some c.args.operator) c.args.span c.args.a c.args.b)
    _ _ _ (rw (← c.is_changeable-changeable.ensures, ← c.moves.ensures) c.ask_moved.ensures) (search rules))
