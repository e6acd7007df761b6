use Rattle.std.proofs.Common.{rules, sym, ◌∙◌, ap, ◌∷◌, []}
use Rattle.c_ast.specs.declared.operator.BinaryOperator.TheVariants as binary
use Rattle.c_type_base.specs.declared.expr.TNode.TheVariants as node
use Rattle.c_type_expr.specs.Faults.{rule}
use Rattle.c_type_base.specs.Sizes.{size}
use Rattle.c_type_base.specs.Arithmetic.{negated}
use Rattle.c_type_base.specs.Types.{same_type}
use Rattle.c_type_base.specs.Constants.{moved}
use Rattle.c_type_expr.specs.Operators.{Integer, Points, sort_of, complete_target, pointer_moved, difference, distance}
use Rattle.c_type_expr.specs.Sorted.{sort_seen}
use Rattle.c_type_expr.specs.Laws.RowLaws.{row_two, ruled_at}
use Rattle.c_type_expr.proofs.rows.additive.difference.Goals as goal

pub returns-in_ok-pointer_moved-in-Integer-operand_of-2 : goal.returns-in_ok-pointer_moved-in-Integer-operand_of-2
returns-in_ok-pointer_moved-in-Integer-operand_of-2 c =
    let t = c.in-Points.target.now in
    row_two (difference c.args.span c.args.a c.args.b) (sort_of c.args.a) (Points t) (sort_of c.args.b)
    (Integer c.in-Integer-operand_of-2.field-0)
    _ _ _ (sym c.operand_of.ensures ∙ ap sort_seen c.in-Points.is) (sym c.operand_of-in-Points.ensures ∙
    ap sort_seen c.in-Integer-operand_of-2.is)
    (ruled_at c.args.span (λ env. complete_target env.structs t ∷ [])
    (λ env. pointer_moved c.args.span c.args.a.tree.ty (moved negated (size env.structs t) c.args.a.fixed c.args.b.constant)
    (node.Binary binary.Subtract c.args.a.tree c.args.b.tree))
    _ _ _ c.ask_target.ensures (search rules))

pub returns-in_ok-distance-in-Points-operand_of : goal.returns-in_ok-distance-in-Points-operand_of
returns-in_ok-distance-in-Points-operand_of c =
    let t = c.in-Points.target.now in
    let u = c.in-Points-operand_of.other.now in
    row_two (difference c.args.span c.args.a c.args.b) (sort_of c.args.a) (Points t) (sort_of c.args.b) (Points u)
    _ _ _ (sym c.operand_of.ensures ∙ ap sort_seen c.in-Points.is) (sym c.operand_of-in-Points.ensures ∙
    ap sort_seen c.in-Points-operand_of.is)
    (ruled_at c.args.span (λ env. rule 12 (same_type t u) ∷ complete_target env.structs t ∷ [])
    (λ env. distance c.args.span c.args.a c.args.b)
    _ _ _ (rw (← c.same_type.ensures) c.ask_then_target.ensures) (search rules))
