use Rattle.std.proofs.Common.{rules, sym, ◌∙◌, ap, ◌∷◌, []}
use Rattle.c_type_base.specs.declared.expr.TNode.TheVariants as node
use Rattle.c_type_base.specs.Known.{texpr, designates}
use Rattle.c_type_expr.specs.Operators.{Integer, Points, sort_of, complete_target}
use Rattle.c_type_expr.specs.Postfix.{index_row, index_fixed}
use Rattle.c_type_expr.specs.Sorted.{sort_seen}
use Rattle.c_type_expr.specs.Laws.RowLaws.{row_two, ruled_at}
use Rattle.c_type_expr.proofs.rows.postfix.index.Goals as goal

pub returns-in_ok-tree-in-Integer-operand_of : goal.returns-in_ok-tree-in-Integer-operand_of
returns-in_ok-tree-in-Integer-operand_of c =
    let t = c.in-Points.target.now in
    row_two (index_row c.args.span c.args.a c.args.i) (sort_of c.args.a) (Points t) (sort_of c.args.i)
    (Integer c.in-Integer-operand_of.field-0)
    _ _ _ (sym c.operand_of.ensures ∙ ap sort_seen c.in-Points.is) (sym c.operand_of-in-Points.ensures ∙
    ap sort_seen c.in-Integer-operand_of.is)
    (ruled_at c.args.span (λ env. complete_target env.structs t ∷ [])
    (λ env. designates (texpr c.args.span t (node.Index c.args.a.tree c.args.i.tree)) (index_fixed env.structs t c.args.a c.args.i))
    _ _ _ c.ask_target.ensures (search rules))

pub returns-in_ok-tree-in-Points-operand_of : goal.returns-in_ok-tree-in-Points-operand_of
returns-in_ok-tree-in-Points-operand_of c =
    let t = c.in-Points-operand_of.target.now in
    row_two (index_row c.args.span c.args.a c.args.i) (sort_of c.args.a) (Integer c.in-Integer.field-0) (sort_of c.args.i) (Points t)
    _ _ _ (sym c.operand_of.ensures ∙ ap sort_seen c.in-Integer.is) (sym c.operand_of-in-Integer.ensures ∙
    ap sort_seen c.in-Points-operand_of.is)
    (ruled_at c.args.span (λ env. complete_target env.structs t ∷ [])
    (λ env. designates (texpr c.args.span t (node.Index c.args.a.tree c.args.i.tree)) (index_fixed env.structs t c.args.i c.args.a))
    _ _ _ c.ask_target-in-Points-operand_of.ensures (search rules))
