-- The expressions that the type checker knows are covered where they are plain, if the constants in the source fit (this project's own).
use Rattle.std.specs.Prelude.{◌≡◌, ℕ, Bool, true, ◌&&◌, List, [], ◌∷◌, map, Option, Some, None, refl}
use Rattle.std.specs.List.{AllByRecursion}
use Rattle.std.proofs.Common.{sym, subst, ◌∙◌}
use Rattle.c_ast.specs.Laws.Opened.{given_trees}
use Rattle.c_ast.specs.Tree.{TypeLayer, NodeLayer, expr}
use Rattle.c_ast.specs.declared.token.Span.{Span}
use Rattle.c_ast.specs.declared.int_type.IntType.{IntType}
use Rattle.c_ast.specs.declared.int_type.IntType.TheVariants as int
use Rattle.c_ast.specs.declared.operator.AssignOperator.{AssignOperator}
use Rattle.c_ast.specs.declared.operator.BinaryOperator.{BinaryOperator}
use Rattle.c_ast.specs.declared.operator.Step.{Step}
use Rattle.c_ast.specs.declared.operator.UnaryOperator.{UnaryOperator}
use Rattle.c_ast.specs.declared.expr.CType.{CType, roll-CType, map-CType}
use Rattle.c_ast.specs.declared.expr.CType.TheOpen.{CType-F, Node-F, Expr-F}
use Rattle.c_ast.specs.declared.expr.CType.TheFolds.{fold-Node, fold-roll-Node, fold_out-Expr, ind-Expr}
use Rattle.c_ast.specs.declared.expr.Expr.{Expr, roll-Expr, map-Expr}
use Rattle.c_ast.specs.declared.expr.Node.{Node, roll-Node, map-Node}
use Rattle.c_type_base.specs.Known.{value}
use Rattle.c_type_base.specs.Types.{struct_of, target_of}
use Rattle.c_type_base.specs.declared.known.Written.{Written}
use Rattle.c_type_base.specs.declared.ty.Ty.{Ty}
use Rattle.c_type_base.specs.declared.ty.Ty.TheVariants as ty
use Rattle.c_type_expr.specs.Environment.{in_scopes}
use Rattle.c_type_expr.specs.Expressions.{unary_row, cast_row, assign_row, step_row, in_parentheses, sizeof_row, sizeof_type, index_of}
use Rattle.c_type_expr.specs.Expressions.{arrow_of, node_step, expr_step, expression, written, judged_value}
use Rattle.c_type_expr.specs.Operators.{sort_of, binary_judged, cond_judged}
use Rattle.c_type_expr.specs.Outcomes.{Judged, sure, both, each, on}
use Rattle.c_type_expr.specs.Postfix.{member_row, call_row, not_called_row, function_in, call_by, meaning_by, argument}
use Rattle.c_type_expr.specs.Postfix.{struct_pointed}
use Rattle.c_type_expr.specs.Said.{Said, NodeSaid, type_step, whole, constant_known, eof_value, name_row, meaning_of}
use Rattle.c_type_expr.specs.declared.scopes.Called.{Called}
use Rattle.c_type_expr.specs.declared.scopes.Meaning.{Meaning}
use Rattle.c_type_expr.specs.declared.scopes.Meaning.TheVariants as means
use Rattle.c_type_expr.specs.declared.scopes.Place.{Place}
use Rattle.c_type_expr.specs.declared.scopes.Place.TheVariants as place
use Rattle.c_type_expr.specs.Environment.{node_at}
use Rattle.c_type_base.specs.Known.{texpr}
use Rattle.code_follows.specs.Leaves.{value_leaves}
use Rattle.well_typed_covered.specs.Always.{Always}
use Rattle.well_typed_covered.specs.Constants.{all_fit, type_fits, node_fits, expr_fits, constants_fit, constants_fit_node}
use Rattle.well_typed_covered.specs.Constants.{constants_fit_type}
use Rattle.well_typed_covered.specs.Laws.Always.{always-any, always-sure, always-on, always-both, always-each}
use Rattle.well_typed_covered.specs.Laws.Known.{KnownCovers, value-covers}
use Rattle.well_typed_covered.specs.Laws.Operators.{binary-always, cond-always}
use Rattle.well_typed_covered.specs.Laws.Rows.{unary-always, cast-always, sizeof-always, sizeof-type-always, assign-always, step-always}
use Rattle.well_typed_covered.specs.Laws.Rows.{index-always, member-always, arrow-always, call-always}
use Rattle.well_typed_covered.specs.Laws.Trees.{Covers, constant-covers, text-covers, local-covers, global-covers, extern-covers}
use Rattle.well_typed_covered.specs.Laws.Trees.{paren-covers}
use Rattle.well_typed_covered.specs.Laws.Trees.{first-of, second-of}

abbrev TypeSaid : Type 0
TypeSaid = Span → Judged Written

abbrev NodeAlways : NodeSaid → Type 0
NodeAlways n = (span : Span) → Always KnownCovers (n.judged span)

abbrev SaidAlways : Said → Type 0
SaidAlways e = Always KnownCovers e.judged

-- ---- names, constants and texts

constant_always : (n : ℕ) (t : IntType) → node_fits (Node-F.Constant n t) ≡ true → NodeAlways (node_step (Node-F.Constant n t))
constant_always n t fits span = always-sure (constant_known span n t) (constant-covers span (ty.Int t) n t fits)

place_covers : (span : Span) (t : Ty) (p : Place) → Covers value_leaves (texpr span t (node_at p))
place_covers span t (place.Local n) = local-covers span t n
place_covers span t (place.Global n) = global-covers span t n
place_covers span t (place.Extern n) = extern-covers span t n

name_always : (span : Span) (o : Option Meaning) → Always KnownCovers (name_row span o)
name_always span None = record { known = λ env. tt }
name_always span (Some (means.Object p (Some t))) = record { known = λ env. place_covers span t p }
name_always span (Some (means.Object p None)) = record { known = λ env. tt }
name_always span (Some (means.Function callee signature)) = record { known = λ env. tt }
name_always span (Some means.Eof) = record { known = λ env. constant-covers span (ty.Int int.Int) eof_value int.Int refl }

variable_always : (name : List ℕ) → NodeAlways (node_step (Node-F.Variable name))
variable_always name span = record { known = λ env. (name_always span (meaning_of (in_scopes name env.scopes))).known env }

text_always : (bytes : List ℕ) → NodeAlways (node_step (Node-F.Text bytes))
text_always bytes span = record { known = λ env. text-covers span _ env.texts }

-- ---- operators

paren_always : (e : Said) → SaidAlways e → NodeAlways (node_step (Node-F.Paren e))
paren_always e of_e span = always-on e.judged (λ k. sure (in_parentheses span k)) of_e
    (λ k known. always-sure (in_parentheses span k) (paren-covers span k.tree.ty k.tree known))

unary_always : (o : UnaryOperator) (e : Said) → SaidAlways e → NodeAlways (node_step (Node-F.Unary o e))
unary_always o e of_e span = always-on e.judged (unary_row o span) of_e (λ k known. unary-always o span k known)

binary_always : (o : BinaryOperator) (a b : Said) → SaidAlways a → SaidAlways b → NodeAlways (node_step (Node-F.Binary o a b))
binary_always o a b of_a of_b span = always-on (both a.judged b.judged) (λ (x, y). binary_judged o span (value x) (value y))
    (always-both a.judged b.judged of_a of_b)
    (λ v known. binary-always span (value v.0) (value v.1) (value-covers v.0 known.0) (value-covers v.1 known.1) o)

assign_always : (o : Option AssignOperator) (a b : Said) → SaidAlways a → SaidAlways b → NodeAlways (node_step (Node-F.Assign o a b))
assign_always o a b of_a of_b span = always-on (both a.judged b.judged) (λ (x, y). assign_row o span x y)
    (always-both a.judged b.judged of_a of_b) (λ v known. assign-always o span v.0 v.1 known.0 known.1)

cond_always : (c a b : Said) → SaidAlways c → SaidAlways a → SaidAlways b → NodeAlways (node_step (Node-F.Cond c a b))
cond_always c a b of_c of_a of_b span =
    always-on (both c.judged (both a.judged b.judged)) (λ (x, y). cond_judged span (value x) (value y.0) (value y.1))
    (always-both c.judged (both a.judged b.judged) of_c (always-both a.judged b.judged of_a of_b))
    (λ v known. cond-always span (value v.1.0) (value v.1.1) (value-covers v.1.0 known.1.0) (value-covers v.1.1 known.1.1) (value v.0)
    (value-covers v.0 known.0))

cast_always : (t : TypeSaid) (e : Said) → SaidAlways e → NodeAlways (node_step (Node-F.Cast t e))
cast_always t e of_e span = always-on (both (on (t span) (whole span)) e.judged) (λ (t, k). cast_row span t (value k))
    (always-both (on (t span) (whole span)) e.judged (always-any (on (t span) (whole span))) of_e)
    (λ v known. cast-always span v.0 (value v.1) (value-covers v.1 known.1))

sizeof_always : (e : Said) → NodeAlways (node_step (Node-F.SizeofExpr e))
sizeof_always e span = always-on e.judged (sizeof_row span) (always-any e.judged) (λ k any. sizeof-always span k)

sizeof_name_always : (t : TypeSaid) → NodeAlways (node_step (Node-F.SizeofName t))
sizeof_name_always t span = always-on (on (t span) (whole span)) (sizeof_type span) (always-any (on (t span) (whole span)))
    (λ t any. sizeof-type-always span t)

index_always : (a i : Said) → SaidAlways a → SaidAlways i → NodeAlways (node_step (Node-F.Index a i))
index_always a i of_a of_i span = always-on (both a.judged i.judged) (λ (x, y). index_of span x y)
    (always-both a.judged i.judged of_a of_i) (λ v known. index-always span v.0 v.1 known.0 known.1)

member_always : (e : Said) (name : List ℕ) → NodeAlways (node_step (Node-F.Member e name))
member_always e name span = always-on e.judged (λ k. member_row span k name (struct_of k.tree.ty)) (always-any e.judged)
    (λ k any. member-always span k name (struct_of k.tree.ty))

arrow_always : (e : Said) (name : List ℕ) → NodeAlways (node_step (Node-F.Arrow e name))
arrow_always e name span = always-on e.judged (λ k. arrow_of span k name) (always-any e.judged)
    (λ k any. arrow-always span (value k) name (struct_pointed (target_of (value k).tree.ty)))

step_always : (o : Step) (e : Said) → SaidAlways e → NodeAlways (node_step (Node-F.Step o e))
step_always o e of_e span =
    always-on e.judged (λ k. step_row o span k (sort_of k)) of_e (λ k known. step-always o span k known (sort_of k))

-- ---- calls

argument_always : (e : Said) → SaidAlways e → Always KnownCovers (argument e)
argument_always e of_e = always-on e.judged (λ k. sure (value k)) of_e (λ k known. always-sure (value k) (value-covers k known))

arguments_always : (es : List Said) → AllByRecursion SaidAlways es → AllByRecursion (Always KnownCovers) (map argument es)
arguments_always [] all = tt
arguments_always (e ∷ es) all = (argument_always e all.0, arguments_always es all.1)

call_by_always : (span : Span) (o : Option Called) (f : Said) (es : List Said) → AllByRecursion SaidAlways es →
    Always KnownCovers (call_by span o f.judged (each (map argument es)))
call_by_always span None f es all = always-on (both f.judged (each (map argument es))) (λ (k, ks). not_called_row span k ks)
    (always-any (both f.judged (each (map argument es)))) (λ v any. record { known = λ env. tt })
call_by_always span (Some called) f es all = always-on (each (map argument es)) (call_row span called.callee called.signature)
    (always-each (map argument es) (arguments_always es all)) (λ ks known. call-always span called.callee called.signature ks known)

call_always : (f : Said) (es : List Said) → AllByRecursion SaidAlways es → NodeAlways (node_step (Node-F.Call f es))
call_always f es all span =
    record { known = λ env. (call_by_always span (function_in (meaning_by f.name env)) f es all).known env }

-- ---- all of them

abbrev said_node : Node → NodeSaid
said_node = fold-Node TypeSaid NodeSaid Said type_step node_step expr_step

-- where its constants fit
abbrev ExprFine : Expr → Type 0
ExprFine e = constants_fit e ≡ true → SaidAlways (expression e)

abbrev NodeFine : Node → Type 0
NodeFine n = constants_fit_node n ≡ true → NodeAlways (said_node n)

abbrev TypeFine : CType → Type 0
TypeFine t = Unit {0}

abbrev WithType : Type 0
WithType = (t : CType) × TypeFine t

abbrev WithNode : Type 0
WithNode = (n : Node) × NodeFine n

abbrev WithExpr : Type 0
WithExpr = (e : Expr) × ExprFine e

types_with : CType-F WithType WithNode WithExpr → TypeLayer
types_with = map-CType WithType WithNode WithExpr CType Node Expr (λ e. e.0) (λ e. e.0) (λ e. e.0)

nodes_with : Node-F WithType WithNode WithExpr → NodeLayer
nodes_with = map-Node WithType WithNode WithExpr CType Node Expr (λ e. e.0) (λ e. e.0) (λ e. e.0)

exprs_with : Expr-F WithType WithNode WithExpr → Expr-F CType Node Expr
exprs_with = map-Expr WithType WithNode WithExpr CType Node Expr (λ e. e.0) (λ e. e.0) (λ e. e.0)

abbrev LayerFits : NodeLayer → Type 0
LayerFits d = node_fits (map-Node CType Node Expr Bool Bool Bool constants_fit_type constants_fit_node constants_fit d) ≡ true

node_is : (d : NodeLayer) →
    (LayerFits d → NodeAlways (node_step (map-Node CType Node Expr TypeSaid NodeSaid Said written said_node expression d))) →
    NodeFine (roll-Node d)
node_is d always fits =
    subst NodeAlways (sym (fold-roll-Node TypeSaid NodeSaid Said type_step node_step expr_step d))
    (always (sym (fold-roll-Node Bool Bool Bool type_fits node_fits expr_fits d) ∙ fits))

abbrev exprs_of : List WithExpr → List Expr
exprs_of es = map (λ e. e.0) es

each_always : (es : List WithExpr) → all_fit (map constants_fit (exprs_of es)) ≡ true →
    AllByRecursion SaidAlways (map expression (exprs_of es))
each_always [] fit = tt
each_always (e ∷ es) fit = (
  e.1 (first-of (constants_fit e.0) (all_fit (map constants_fit (exprs_of es))) fit),
  each_always es (second-of (constants_fit e.0) (all_fit (map constants_fit (exprs_of es))) fit),
)

-- two parts
first_fine : (a b : WithExpr) → (constants_fit a.0 && constants_fit b.0) ≡ true → SaidAlways (expression a.0)
first_fine a b fit = a.1 (first-of (constants_fit a.0) (constants_fit b.0) fit)

second_fine : (a b : WithExpr) → (constants_fit a.0 && constants_fit b.0) ≡ true → SaidAlways (expression b.0)
second_fine a b fit = b.1 (second-of (constants_fit a.0) (constants_fit b.0) fit)

node_fine : (y : Node-F WithType WithNode WithExpr) → NodeFine (roll-Node (nodes_with y))
unfolding nodes_with
node_fine (Node-F.Constant n t) = node_is (Node-F.Constant n t) (constant_always n t)
node_fine (Node-F.Text bytes) = node_is (Node-F.Text bytes) (λ fit. text_always bytes)
node_fine (Node-F.Variable name) = node_is (Node-F.Variable name) (λ fit. variable_always name)
node_fine (Node-F.Paren e) = node_is (Node-F.Paren e.0) (λ fit. paren_always (expression e.0) (e.1 fit))
node_fine (Node-F.Unary o e) = node_is (Node-F.Unary o e.0) (λ fit. unary_always o (expression e.0) (e.1 fit))
node_fine (Node-F.Binary o a b) = node_is (Node-F.Binary o a.0 b.0)
    (λ fit. binary_always o (expression a.0) (expression b.0) (first_fine a b fit) (second_fine a b fit))
node_fine (Node-F.Assign o a b) = node_is (Node-F.Assign o a.0 b.0)
    (λ fit. assign_always o (expression a.0) (expression b.0) (first_fine a b fit) (second_fine a b fit))
node_fine (Node-F.Cond c a b) = node_is (Node-F.Cond c.0 a.0 b.0) (λ fit.
    let arms = second-of (constants_fit c.0) (constants_fit a.0 && constants_fit b.0) fit in
    cond_always (expression c.0) (expression a.0) (expression b.0)
    (c.1 (first-of (constants_fit c.0) (constants_fit a.0 && constants_fit b.0) fit)) (first_fine a b arms) (second_fine a b arms))
node_fine (Node-F.Cast t e) = node_is (Node-F.Cast t.0 e.0)
    (λ fit. cast_always (written t.0) (expression e.0) (e.1 (second-of (constants_fit_type t.0) (constants_fit e.0) fit)))
node_fine (Node-F.SizeofExpr e) = node_is (Node-F.SizeofExpr e.0) (λ fit. sizeof_always (expression e.0))
node_fine (Node-F.SizeofName t) = node_is (Node-F.SizeofName t.0) (λ fit. sizeof_name_always (written t.0))
node_fine (Node-F.Call f es) = node_is (Node-F.Call f.0 (exprs_of es)) (λ fit.
    call_always (expression f.0) (map expression (exprs_of es))
    (each_always es (second-of (constants_fit f.0) (all_fit (map constants_fit (exprs_of es))) fit)))
node_fine (Node-F.Index a i) = node_is (Node-F.Index a.0 i.0)
    (λ fit. index_always (expression a.0) (expression i.0) (first_fine a i fit) (second_fine a i fit))
node_fine (Node-F.Member e name) = node_is (Node-F.Member e.0 name) (λ fit. member_always (expression e.0) name)
node_fine (Node-F.Arrow e name) = node_is (Node-F.Arrow e.0 name) (λ fit. arrow_always (expression e.0) name)
node_fine (Node-F.Step o e) = node_is (Node-F.Step o e.0) (λ fit. step_always o (expression e.0) (e.1 fit))

said_by : (span : Span) (n : Node) → expression (expr span n) ≡ expr_step (record { span = span; node = said_node n })
unfolding given_trees
said_by span n = fold_out-Expr TypeSaid NodeSaid Said type_step node_step expr_step (expr span n)

fits_by : (span : Span) (n : Node) → constants_fit (expr span n) ≡ constants_fit_node n
unfolding given_trees
fits_by span n = fold_out-Expr Bool Bool Bool type_fits node_fits expr_fits (expr span n)

expr_fine : (span : Span) (n : Node) → NodeFine n → ExprFine (expr span n)
expr_fine span n always fits = subst SaidAlways (sym (said_by span n)) (always (sym (fits_by span n) ∙ fits) span)

types_fine : (x : TypeLayer) (y : CType-F WithType WithNode WithExpr) → types_with y ≡ x → TypeFine (roll-CType x)
types_fine x y is = tt

nodes_fine : (x : NodeLayer) (y : Node-F WithType WithNode WithExpr) → nodes_with y ≡ x → NodeFine (roll-Node x)
nodes_fine x y is = subst (λ x. NodeFine (roll-Node x)) is (node_fine y)

exprs_fine : (x : Expr-F CType Node Expr) (y : Expr-F WithType WithNode WithExpr) → exprs_with y ≡ x → ExprFine (roll-Expr x)
unfolding exprs_with given_trees
exprs_fine x y is = subst (λ x. ExprFine (roll-Expr x)) is (expr_fine y.span y.node.0 y.node.1)

-- What is known of an expression, wherever it stands, is covered where it is plain, if its constants fit.
pub expression-covered : (e : Expr) → constants_fit e ≡ true → Always KnownCovers (expression e).judged
unfolding types_with nodes_with exprs_with
expression-covered = ind-Expr TypeFine NodeFine ExprFine types_fine nodes_fine exprs_fine

-- So is its value.
pub value-covered : (e : Expr) → constants_fit e ≡ true → Always KnownCovers (judged_value e)
value-covered e fits = always-on (expression e).judged (λ k. sure (value k)) (expression-covered e fits)
    (λ k known. always-sure (value k) (value-covers k known))
