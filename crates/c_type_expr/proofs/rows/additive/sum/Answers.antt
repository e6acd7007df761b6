use Rattle.std.proofs.Common.{rules, sym, ◌∙◌, ap, ◌∷◌, []}
use Rattle.c_ast.specs.declared.operator.BinaryOperator.TheVariants as binary
use Rattle.c_type_base.specs.declared.expr.TNode.TheVariants as node
use Rattle.c_type_base.specs.Sizes.{size}
use Rattle.c_type_base.specs.Constants.{moved, forward}
use Rattle.c_type_expr.specs.Operators.{Integer, Points, sort_of, complete_target, pointer_moved, sum}
use Rattle.c_type_expr.specs.Sorted.{sort_seen}
use Rattle.c_type_expr.specs.Laws.RowLaws.{row_two, ruled_at}
use Rattle.c_type_expr.proofs.rows.additive.sum.Goals as goal

pub returns-in_ok-pointer_moved-in-Points-operand_of : goal.returns-in_ok-pointer_moved-in-Points-operand_of
returns-in_ok-pointer_moved-in-Points-operand_of c =
    let t = c.in-Points-operand_of.target.now in
    row_two (sum c.args.span c.args.a c.args.b) (sort_of c.args.a) (Integer c.in-Integer.s) (sort_of c.args.b) (Points t)
    _ _ _ (sym c.operand_of.ensures ∙ ap sort_seen c.in-Integer.is) (sym c.operand_of-in-Integer.ensures ∙
    ap sort_seen c.in-Points-operand_of.is)
    (ruled_at c.args.span (λ env. complete_target env.structs t ∷ [])
    (λ env. pointer_moved c.args.span c.args.b.tree.ty (moved forward (size env.structs t) c.args.b.fixed c.args.a.constant)
    (node.Binary binary.Add c.args.a.tree c.args.b.tree))
    _ _ _ c.ask_target.ensures (search rules))

pub returns-in_ok-pointer_moved-in-Integer-operand_of-2 : goal.returns-in_ok-pointer_moved-in-Integer-operand_of-2
returns-in_ok-pointer_moved-in-Integer-operand_of-2 c =
    let t = c.in-Points.target.now in
    row_two (sum c.args.span c.args.a c.args.b) (sort_of c.args.a) (Points t) (sort_of c.args.b) (Integer c.in-Integer-operand_of-2.field-0)
    _ _ _ (sym c.operand_of.ensures ∙ ap sort_seen c.in-Points.is) (sym c.operand_of-in-Points.ensures ∙
    ap sort_seen c.in-Integer-operand_of-2.is)
    (ruled_at c.args.span (λ env. complete_target env.structs t ∷ [])
    (λ env. pointer_moved c.args.span c.args.a.tree.ty (moved forward (size env.structs t) c.args.a.fixed c.args.b.constant)
    (node.Binary binary.Add c.args.a.tree c.args.b.tree))
    _ _ _ c.ask_target-in-Integer-operand_of-2.ensures (search rules))
