-- Expressions and types declare no local, and break rules of the numbers 9 to 19 alone.
use Rattle.std.proofs.Common.{◌≡◌, refl, sym, subst, List, [], ◌∷◌, map, length, Some, None}
use Rattle.c_ast.specs.Tree.{TypeLayer, NodeLayer, expr}
use Rattle.c_ast.specs.Laws.Opened.{given_trees}
use Rattle.c_ast.specs.declared.token.Span.{Span}
use Rattle.c_ast.specs.declared.expr.CType.{CType, roll-CType, map-CType}
use Rattle.c_ast.specs.declared.expr.CType.TheOpen.{CType-F, Node-F, Expr-F}
use Rattle.c_ast.specs.declared.expr.CType.TheFolds.{ind-CType, ind-Expr, fold-Node, fold-roll-Node, fold_out-Expr}
use Rattle.c_ast.specs.declared.expr.Expr.{Expr, roll-Expr, map-Expr}
use Rattle.c_ast.specs.declared.expr.Node.{Node, roll-Node, map-Node}
use Rattle.c_type_base.specs.declared.known.Known.{Known}
use Rattle.c_type_base.specs.declared.known.Written.{Written}
use Rattle.c_type_base.specs.Known.{value}
use Rattle.c_type_base.specs.Types.{struct_of, target_of}
use Rattle.c_type_expr.specs.Environment.{in_scopes, tag_number}
use Rattle.c_type_expr.specs.Outcomes.{Judged, sure, both, each, on}
use Rattle.c_type_expr.specs.Operators.{sort_of, binary_judged, cond_judged}
use Rattle.c_type_expr.specs.Said.{Said, NodeSaid, pointer_to, judged_length, array_of, type_step, whole, meaning_of}
use Rattle.c_type_expr.specs.Postfix.{member_row, struct_pointed, function_in, meaning_by, argument, call}
use Rattle.c_type_expr.specs.Laws.SaidLaws.{written-void, written-int, written-struct, written-pointer, written-array, written-open}
use Rattle.c_type_expr.specs.Expressions.{in_parentheses, sizeof_row, sizeof_type, cast_row, unary_row, assign_row, step_row, conditional}
use Rattle.c_type_expr.specs.Expressions.{cast_judged, index_of, arrow_of, node_step, expr_step, expression, written, judged_value}
use Rattle.c_types.specs.Laws.QuietRows.{Quiet, at_once, rules_quiet, both_quiet, AllQuiet, each_quiet, on_quiet, binary_quiet, cond_quiet}
use Rattle.c_types.specs.Laws.QuietRows.{
  unary_quiet,
  assign_quiet,
  step_quiet,
  index_quiet,
  member_quiet,
  arrow_quiet,
  name_quiet,
  call_by_quiet,
}
use Rattle.c_types.specs.Laws.QuietRows.{pointer_quiet, array_quiet, tag_quiet, whole_quiet, length_quiet, none, some}

-- what is said of a node, which has no span
abbrev node_said : Node → NodeSaid
node_said = fold-Node (Span → Judged Written) NodeSaid Said type_step node_step expr_step

abbrev TypeQuiet : CType → Type 0
TypeQuiet t = (span : Span) → Quiet (written t span)

abbrev NodeQuiet : Node → Type 0
NodeQuiet n = (span : Span) → Quiet ((node_said n).judged span)

abbrev ExprQuiet : Expr → Type 0
ExprQuiet e = Quiet (expression e).judged

abbrev TypeWith : Type 0
TypeWith = (t : CType) × TypeQuiet t

abbrev NodeWith : Type 0
NodeWith = (n : Node) × NodeQuiet n

abbrev ExprWith : Type 0
ExprWith = (e : Expr) × ExprQuiet e

types_with : CType-F TypeWith NodeWith ExprWith → TypeLayer
types_with = map-CType TypeWith NodeWith ExprWith CType Node Expr (λ e. e.0) (λ e. e.0) (λ e. e.0)

nodes_with : Node-F TypeWith NodeWith ExprWith → NodeLayer
nodes_with = map-Node TypeWith NodeWith ExprWith CType Node Expr (λ e. e.0) (λ e. e.0) (λ e. e.0)

exprs_with : Expr-F TypeWith NodeWith ExprWith → Expr-F CType Node Expr
exprs_with = map-Expr TypeWith NodeWith ExprWith CType Node Expr (λ e. e.0) (λ e. e.0) (λ e. e.0)

-- by what is said of one level
type_by : (d : TypeLayer) (s : CType-F (Span → Judged Written) NodeSaid Said) → written (roll-CType d) ≡ type_step s →
    ((span : Span) → Quiet (type_step s span)) → TypeQuiet (roll-CType d)
type_by d s is quiet span = subst (λ (w : Span → Judged Written). Quiet (w span)) (sym is) (quiet span)

abbrev said_at : NodeLayer → NodeSaid
said_at d = node_step (map-Node CType Node Expr (Span → Judged Written) NodeSaid Said written node_said expression d)

level : (d : NodeLayer) → ((span : Span) → Quiet ((said_at d).judged span)) → NodeQuiet (roll-Node d)
level d quiet span =
    subst (λ (n : NodeSaid). Quiet (n.judged span))
    (sym (fold-roll-Node (Span → Judged Written) NodeSaid Said type_step node_step expr_step d)) (quiet span)

type_row : (y : CType-F TypeWith NodeWith ExprWith) → TypeQuiet (roll-CType (types_with y))
unfolding types_with given_trees
type_row CType-F.Void = type_by CType-F.Void CType-F.Void written-void (λ span env. at_once _ refl refl)
type_row (CType-F.Int t) = type_by (CType-F.Int t) (CType-F.Int t) (written-int t) (λ span env. at_once _ refl refl)
type_row (CType-F.Struct tag) = type_by (CType-F.Struct tag) (CType-F.Struct tag) (written-struct tag)
    (λ span env. tag_quiet span (length env.structs) (tag_number env.structs tag) env)
type_row (CType-F.Pointer t) = type_by (CType-F.Pointer t.0) (CType-F.Pointer (written t.0)) (written-pointer t.0)
    (λ span. on_quiet (written t.0 span) (pointer_to span) (t.1 span) (pointer_quiet span))
type_row (CType-F.Array t None) = type_by (CType-F.Array t.0 None) (CType-F.Array (written t.0) None) (written-open t.0)
    (λ span. on_quiet (written t.0 span) (array_of span None) (t.1 span) (array_quiet span None))
type_row (CType-F.Array t (Some e)) =
    type_by (CType-F.Array t.0 (Some e.0)) (CType-F.Array (written t.0) (Some (expression e.0))) (written-array t.0 e.0)
    (λ span. on_quiet (both (judged_length (expression e.0)) (written t.0 span)) (λ (n, element). array_of span (Some n) element)
    (both_quiet (judged_length (expression e.0)) (written t.0 span) (length_quiet (expression e.0) e.1) (t.1 span))
    (λ v. array_quiet span (Some v.0) v.1))

arguments_quiet : (es : List ExprWith) → AllQuiet (map argument (map expression (map (λ e. e.0) es)))
arguments_quiet [] = none
arguments_quiet (e ∷ es) =
    some (on_quiet (expression e.0).judged (λ k. sure (value k)) e.1 (λ k env. at_once _ refl refl)) (arguments_quiet es)

one_row : (e : ExprWith) (f : Span → Known → Judged Known) → ((span : Span) (k : Known) → Quiet (f span k)) →
    (span : Span) → Quiet (on (expression e.0).judged (f span))
one_row e f next span = on_quiet (expression e.0).judged (f span) e.1 (next span)

two_rows : (a b : ExprWith) (f : Span → Known × Known → Judged Known) → ((span : Span) (v : Known × Known) → Quiet (f span v)) →
    (span : Span) → Quiet (on (both (expression a.0).judged (expression b.0).judged) (f span))
two_rows a b f next span =
    on_quiet (both (expression a.0).judged (expression b.0).judged) (f span)
    (both_quiet (expression a.0).judged (expression b.0).judged a.1 b.1) (next span)

conditional_quiet : (c a b : ExprWith) (span : Span) → Quiet (conditional (expression c.0) (expression a.0) (expression b.0) span)
conditional_quiet c a b span =
    let arms = both (expression a.0).judged (expression b.0).judged in
    on_quiet (both (expression c.0).judged arms) (λ (x, y). cond_judged span (value x) (value y.0) (value y.1))
    (both_quiet (expression c.0).judged arms c.1 (both_quiet (expression a.0).judged (expression b.0).judged a.1 b.1))
    (λ v. cond_quiet span (value v.0) (value v.1.0) (value v.1.1) (sort_of (value v.0)))

named_quiet : (t : TypeWith) (span : Span) → Quiet (on (written t.0 span) (whole span))
named_quiet t span = on_quiet (written t.0 span) (whole span) (t.1 span) (whole_quiet span)

cast_quiet : (t : TypeWith) (e : ExprWith) (span : Span) → Quiet (cast_judged (written t.0) (expression e.0) span)
cast_quiet t e span =
    on_quiet (both (on (written t.0 span) (whole span)) (expression e.0).judged) (λ (t, k). cast_row span t (value k))
    (both_quiet (on (written t.0 span) (whole span)) (expression e.0).judged (named_quiet t span) e.1) (λ v env. search (rules_quiet))

call_quiet : (f : ExprWith) (es : List ExprWith) (span : Span) →
    Quiet (call (expression f.0) (map expression (map (λ e. e.0) es)) span)
call_quiet f es span env =
    let arguments = map argument (map expression (map (λ e. e.0) es)) in
    call_by_quiet span (function_in (meaning_by (expression f.0).name env)) (expression f.0).judged (each arguments) f.1
    (each_quiet arguments (arguments_quiet es)) env

node_row : (y : Node-F TypeWith NodeWith ExprWith) → NodeQuiet (roll-Node (nodes_with y))
unfolding nodes_with given_trees
node_row (Node-F.Constant n t) = level (Node-F.Constant n t) (λ span env. at_once _ refl refl)
node_row (Node-F.Text bytes) = level (Node-F.Text bytes) (λ span env. search (rules_quiet))
node_row (Node-F.Variable name) = level (Node-F.Variable name) (λ span env. name_quiet span (meaning_of (in_scopes name env.scopes)) env)
node_row (Node-F.Paren e) = level (Node-F.Paren e.0)
    (one_row e (λ span k. sure (in_parentheses span k)) (λ span k env. at_once _ refl refl))
node_row (Node-F.Unary o e) = level (Node-F.Unary o e.0) (one_row e (unary_row o) (unary_quiet o))
node_row (Node-F.Binary o a b) = level (Node-F.Binary o a.0 b.0)
    (two_rows a b (λ span (x, y). binary_judged o span (value x) (value y))
    (λ span v. binary_quiet o span (value v.0) (value v.1) (sort_of (value v.0)) (sort_of (value v.1))))
node_row (Node-F.Assign o a b) = level (Node-F.Assign o a.0 b.0)
    (two_rows a b (λ span (x, y). assign_row o span x y) (λ span v. assign_quiet o span v.0 v.1))
node_row (Node-F.Cond c a b) = level (Node-F.Cond c.0 a.0 b.0) (conditional_quiet c a b)
node_row (Node-F.Cast t e) = level (Node-F.Cast t.0 e.0) (cast_quiet t e)
node_row (Node-F.SizeofExpr e) = level (Node-F.SizeofExpr e.0) (one_row e sizeof_row (λ span k env. search (rules_quiet)))
node_row (Node-F.SizeofName t) = level (Node-F.SizeofName t.0)
    (λ span. on_quiet (on (written t.0 span) (whole span)) (sizeof_type span) (named_quiet t span) (λ v env. search (rules_quiet)))
node_row (Node-F.Call f es) = level (Node-F.Call f.0 (map (λ e. e.0) es)) (call_quiet f es)
node_row (Node-F.Index a b) = level (Node-F.Index a.0 b.0)
    (two_rows a b (λ span (x, y). index_of span x y)
    (λ span v. index_quiet span (value v.0) (value v.1) (sort_of (value v.0)) (sort_of (value v.1))))
node_row (Node-F.Member e name) = level (Node-F.Member e.0 name)
    (one_row e (λ span k. member_row span k name (struct_of k.tree.ty)) (λ span k. member_quiet span k name (struct_of k.tree.ty)))
node_row (Node-F.Arrow e name) = level (Node-F.Arrow e.0 name)
    (one_row e (λ span k. arrow_of span k name)
    (λ span k. arrow_quiet span (value k) name (struct_pointed (target_of (value k).tree.ty))))
node_row (Node-F.Step s e) = level (Node-F.Step s e.0)
    (one_row e (λ span k. step_row s span k (sort_of k)) (λ span k. step_quiet s span k (sort_of k)))

expr_row : (span : Span) (n : Node) → NodeQuiet n → ExprQuiet (expr span n)
unfolding given_trees
expr_row span n quiet =
    subst (λ (s : Said). Quiet s.judged)
    (sym (fold_out-Expr (Span → Judged Written) NodeSaid Said type_step node_step expr_step (expr span n))) (quiet span)

types_quiet : (x : TypeLayer) (y : CType-F TypeWith NodeWith ExprWith) → types_with y ≡ x → TypeQuiet (roll-CType x)
types_quiet x y is = subst (λ x. TypeQuiet (roll-CType x)) is (type_row y)

nodes_quiet : (x : NodeLayer) (y : Node-F TypeWith NodeWith ExprWith) → nodes_with y ≡ x → NodeQuiet (roll-Node x)
nodes_quiet x y is = subst (λ x. NodeQuiet (roll-Node x)) is (node_row y)

exprs_quiet : (x : Expr-F CType Node Expr) (y : Expr-F TypeWith NodeWith ExprWith) → exprs_with y ≡ x → ExprQuiet (roll-Expr x)
unfolding exprs_with given_trees
exprs_quiet x y is = subst (λ x. ExprQuiet (roll-Expr x)) is (expr_row y.span y.node.0 y.node.1)

-- an expression declares no local
pub expression_quiet : (e : Expr) → Quiet (expression e).judged
unfolding types_with nodes_with exprs_with
expression_quiet = ind-Expr TypeQuiet NodeQuiet ExprQuiet types_quiet nodes_quiet exprs_quiet

-- nor does a type
pub written_quiet : (t : CType) (span : Span) → Quiet (written t span)
unfolding types_with nodes_with exprs_with
written_quiet = ind-CType TypeQuiet NodeQuiet ExprQuiet types_quiet nodes_quiet exprs_quiet

pub value_quiet : (e : Expr) → Quiet (judged_value e)
value_quiet e = on_quiet (expression e).judged (λ k. sure (value k)) (expression_quiet e) (λ k env. at_once _ refl refl)
