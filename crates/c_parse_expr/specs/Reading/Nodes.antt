-- Expressions made of their parts.
use Rattle.std.specs.Prelude.{Bool, true, false, Option, ℕ, suc, max, List, [], ◌∷◌, ◌++◌}
use Rattle.c_ast.specs.declared.token.Span.{Span}
use Rattle.c_ast.specs.declared.expr.Expr.{Expr}
use Rattle.c_ast.specs.Tree.{NodeLayer, expr}
use Rattle.c_ast.specs.declared.expr.CType.TheOpen.{Node-F}
use Rattle.c_ast.specs.declared.expr.Node.{out-Node, Node}
use Rattle.c_ast.specs.declared.operator.AssignOperator.{AssignOperator}
use Rattle.c_ast.specs.declared.expr.Node.TheVariants as node
use Rattle.c_ast.specs.declared.operator.UnaryOperator.{UnaryOperator}
use Rattle.c_ast.specs.declared.operator.BinaryOperator.{BinaryOperator}
use Rattle.c_ast.specs.declared.operator.Step.{Step}
use Rattle.c_parse_base.specs.Reading.Spans.{join_spans}
use Rattle.c_parse_base.specs.declared.type_read.TypeRead.{TypeRead}
use Rattle.c_parse_expr.specs.declared.measured.Measured.{Measured}
use Rattle.c_parse_expr.specs.declared.suffix.Arguments.{Arguments}
use Rattle.c_parse_expr.specs.declared.suffix.Suffix.{Suffix}
use Rattle.c_parse_expr.specs.declared.suffix.Suffix.TheVariants as suffix

-- the expression from one byte to another
abbrev pub from_to : ℕ → ℕ → Node → Expr
from_to start end n = expr (record { start = start; end = end }) n

-- the bytes of adjacent texts, and where they stand
abbrev pub Quoted : Type 0
Quoted = List ℕ × Span

abbrev pub text_of : Quoted → Measured
text_of q = record { tree = expr q.1 (node.Text q.0); height = 0 }

-- a text and the next one
abbrev pub joined : Quoted → Quoted → Quoted
joined a q = (a.0 ++ q.0, join_spans a.1 q.1)

abbrev pub paren_of : Span → Measured × Span → Measured
paren_of l c = record { tree = from_to l.start c.1.end (node.Paren c.0.tree); height = suc c.0.height }

abbrev pub one_argument : Measured → Arguments
one_argument e = record { trees = e.tree ∷ []; height = e.height }

abbrev pub more_arguments : Arguments → Measured → Arguments
more_arguments a e = record { trees = a.trees ++ e.tree ∷ []; height = max a.height e.height }

abbrev pub no_arguments : Arguments
no_arguments = record { trees = []; height = 0 }

-- where what follows an operand ends
abbrev pub end_behind : Suffix → ℕ
end_behind (suffix.Index i place) = place.end
end_behind (suffix.Call a place) = place.end
end_behind (suffix.Member n) = n.place.end
end_behind (suffix.Arrow n) = n.place.end
end_behind (suffix.Step s place) = place.end

-- the levels of the expressions in it
abbrev pub height_behind : Suffix → ℕ
height_behind (suffix.Index i place) = i.height
height_behind (suffix.Call a place) = a.height
height_behind (suffix.Member n) = 0
height_behind (suffix.Arrow n) = 0
height_behind (suffix.Step s place) = 0

-- the operand with it
abbrev pub node_behind : Expr → Suffix → Node
node_behind e (suffix.Index i place) = node.Index e i.tree
node_behind e (suffix.Call a place) = node.Call e a.trees
node_behind e (suffix.Member n) = node.Member e n.name
node_behind e (suffix.Arrow n) = node.Arrow e n.name
node_behind e (suffix.Step s place) = node.Step s e

abbrev pub applied : Measured → Suffix → Measured
applied a s = record {
  tree = from_to a.tree.span.start (end_behind s) (node_behind a.tree s);
  height = suc (max a.height (height_behind s));
}

-- `++` or `--` before an operand
abbrev pub step_of : (Step × Span) × Measured → Measured
step_of c = record { tree = from_to c.0.1.start c.1.tree.span.end (node.Step c.0.0 c.1.tree); height = suc c.1.height }

abbrev pub unary_of : (UnaryOperator × Span) × Measured → Measured
unary_of c = record { tree = from_to c.0.1.start c.1.tree.span.end (node.Unary c.0.0 c.1.tree); height = suc c.1.height }

-- `sizeof` before an operand
abbrev pub size_of : Span → Measured → Measured
size_of place a = record { tree = from_to place.start a.tree.span.end (node.SizeofExpr a.tree); height = suc a.height }

-- `sizeof ( type )`
abbrev pub size_name_of : Span → TypeRead × Span → Measured
size_name_of place c = record { tree = from_to place.start c.1.end (node.SizeofName c.0.ty); height = c.0.height }

-- `( type )` before an operand
abbrev pub cast_of : Span → TypeRead × (Span × Measured) → Measured
cast_of l c = record {
  tree = from_to l.start c.1.1.tree.span.end (node.Cast c.0.ty c.1.1.tree);
  height = max c.0.height (suc c.1.1.height);
}

abbrev pub binary_of : Measured → BinaryOperator × Measured → Measured
binary_of a c = record {
  tree = from_to a.tree.span.start c.1.tree.span.end (node.Binary c.0 a.tree c.1.tree);
  height = suc (max a.height c.1.height);
}

-- `expr : cond`, behind the `?`
abbrev pub choice_of : Measured → Measured × (Span × Measured) → Measured
choice_of c p = record {
  tree = from_to c.tree.span.start p.1.1.tree.span.end (node.Cond c.tree p.0.tree p.1.1.tree);
  height = suc (max c.height (max p.0.height p.1.1.height));
}

abbrev pub assign_of : Measured → (Option AssignOperator) × Measured → Measured
assign_of a c = record {
  tree = from_to a.tree.span.start c.1.tree.span.end (node.Assign c.0 a.tree c.1.tree);
  height = suc (max a.height c.1.height);
}

-- a node that is no cast, operation, choice or assignment: where an expression may be assigned to
abbrev pub assignable_node : NodeLayer → Bool
assignable_node (Node-F.Binary o a b) = false
assignable_node (Node-F.Assign o a b) = false
assignable_node (Node-F.Cond a b c) = false
assignable_node (Node-F.Cast t a) = false
assignable_node _ = true

abbrev pub assignable : Measured → Bool
assignable a = assignable_node (out-Node a.tree.node)
