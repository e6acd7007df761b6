-- A tree without spans has none to lose.
use Rattle.std.specs.Prelude.{◌≡◌, List, [], ◌∷◌, map, Option, Some, None, refl}
use Rattle.std.proofs.Common.{sym, ◌∙◌, ap, subst}
use Rattle.c_ast.specs.Laws.Opened.{given_trees}
use Rattle.c_ast.specs.Tree.{TypeLayer, NodeLayer, StmtLayer, ItemLayer, expr}
use Rattle.c_ast.specs.declared.token.Span.{Span}
use Rattle.c_ast.specs.declared.expr.CType.{CType, roll-CType, map-CType}
use Rattle.c_ast.specs.declared.expr.CType.TheOpen.{CType-F, Node-F, Expr-F}
use Rattle.c_ast.specs.declared.expr.CType.TheFolds.{ind-CType, ind-Expr}
use Rattle.c_ast.specs.declared.expr.Expr.{Expr, roll-Expr, map-Expr}
use Rattle.c_ast.specs.declared.expr.Node.{Node, roll-Node, map-Node}
use Rattle.c_ast.specs.declared.declaration.Init.{Init, roll-Init, map-Init}
use Rattle.c_ast.specs.declared.declaration.Init.TheVariants as init
use Rattle.c_ast.specs.declared.declaration.Init.TheOpen.{Init-F}
use Rattle.c_ast.specs.declared.declaration.Init.TheFolds.{ind-Init}
use Rattle.c_ast.specs.declared.declaration.Decl.{Decl}
use Rattle.c_ast.specs.declared.declaration.StructDecl.{StructDecl}
use Rattle.c_ast.specs.declared.statement.Stmt.{Stmt, roll-Stmt, map-Stmt}
use Rattle.c_ast.specs.declared.statement.Stmt.TheVariants as stmt
use Rattle.c_ast.specs.declared.statement.Item.{Item, roll-Item, map-Item}
use Rattle.c_ast.specs.declared.statement.Item.TheVariants as item
use Rattle.c_ast.specs.declared.statement.Item.TheOpen.{Item-F, Stmt-F}
use Rattle.c_ast.specs.declared.statement.Item.TheFolds.{ind-Stmt}
use Rattle.c_ast.specs.declared.program.Program.{Program}
use Rattle.c_ast.specs.declared.program.Function.{Function}
use Rattle.c_ast.specs.declared.program.External.{External}
use Rattle.c_ast.specs.declared.program.External.TheVariants as external
use Rattle.c_print.specs.Spans.{no_span, option_map, bare, bare_node, bare_type, bare_init, bare_decl, bare_struct, bare_item, bare_stmt}
use Rattle.c_print.specs.Spans.{bare_item_step, bare_stmt_step, bare_function, bare_external, bare_program}
use Rattle.c_print.specs.Laws.BareLaws.{bare_in_type, bare_in_node, bare_in_stmt, bare_in_item, type_bare, node_bare, expr_cleared_bare}
use Rattle.c_print.specs.Laws.BareLaws.{one_bare, list_bare, stmt_bare, item_bare}

-- to do it twice is to do it once
abbrev pub Settles : {A : Type 0} → (A → A) → A → Type 0
Settles f a = f (f a) ≡ f a

abbrev With : {A : Type 0} → (A → A) → Type 0
With {A} f = (a : A) × Settles f a

settled : {A : Type 0} (f : A → A) (es : List (With f)) → map f (map f (map (λ e. e.0) es)) ≡ map f (map (λ e. e.0) es)
settled f [] = refl
settled f (e ∷ es) = λ i. e.1 i ∷ settled f es i

settle : {A : Type 0} (f : A → A) → ((a : A) → Settles f a) → (xs : List A) → map f (map f xs) ≡ map f xs
settle f h [] = refl
settle f h (x ∷ xs) = λ i. h x i ∷ settle f h xs i

settle_option : {A : Type 0} (f : A → A) → ((a : A) → Settles f a) → (a : Option A) → option_map f (option_map f a) ≡ option_map f a
settle_option f h None = refl
settle_option f h (Some a) = λ i. Some (h a i)

-- ---- types and expressions

type_twice : (d : TypeLayer) → bare_in_type (bare_in_type d) ≡ bare_in_type d → Settles bare_type (roll-CType d)
type_twice d e = ap bare_type (type_bare d) ∙ type_bare (bare_in_type d) ∙ ap roll-CType e ∙ sym (type_bare d)

node_twice : (d : NodeLayer) → bare_in_node (bare_in_node d) ≡ bare_in_node d → Settles bare_node (roll-Node d)
node_twice d e = ap bare_node (node_bare d) ∙ node_bare (bare_in_node d) ∙ ap roll-Node e ∙ sym (node_bare d)

types_with : CType-F (With bare_type) (With bare_node) (With bare) → TypeLayer
types_with = map-CType (With bare_type) (With bare_node) (With bare) CType Node Expr (λ e. e.0) (λ e. e.0) (λ e. e.0)

nodes_with : Node-F (With bare_type) (With bare_node) (With bare) → NodeLayer
nodes_with = map-Node (With bare_type) (With bare_node) (With bare) CType Node Expr (λ e. e.0) (λ e. e.0) (λ e. e.0)

type_step : (y : CType-F (With bare_type) (With bare_node) (With bare)) →
    bare_in_type (bare_in_type (types_with y)) ≡ bare_in_type (types_with y)
unfolding types_with
type_step CType-F.Void = refl
type_step (CType-F.Int ty) = refl
type_step (CType-F.Struct tag) = refl
type_step (CType-F.Pointer t) = λ i. CType-F.Pointer (t.1 i)
type_step (CType-F.Array t None) = λ i. CType-F.Array (t.1 i) None
type_step (CType-F.Array t (Some e)) = λ i. CType-F.Array (t.1 i) (Some (e.1 i))

node_step : (y : Node-F (With bare_type) (With bare_node) (With bare)) →
    bare_in_node (bare_in_node (nodes_with y)) ≡ bare_in_node (nodes_with y)
unfolding nodes_with
node_step (Node-F.Constant value ty) = refl
node_step (Node-F.Text bytes) = refl
node_step (Node-F.Variable n) = refl
node_step (Node-F.Paren e) = λ i. Node-F.Paren (e.1 i)
node_step (Node-F.Unary o e) = λ i. Node-F.Unary o (e.1 i)
node_step (Node-F.Binary o a b) = λ i. Node-F.Binary o (a.1 i) (b.1 i)
node_step (Node-F.Assign o a b) = λ i. Node-F.Assign o (a.1 i) (b.1 i)
node_step (Node-F.Cond a b c) = λ i. Node-F.Cond (a.1 i) (b.1 i) (c.1 i)
node_step (Node-F.Cast t e) = λ i. Node-F.Cast (t.1 i) (e.1 i)
node_step (Node-F.SizeofExpr e) = λ i. Node-F.SizeofExpr (e.1 i)
node_step (Node-F.SizeofName t) = λ i. Node-F.SizeofName (t.1 i)
node_step (Node-F.Call e es) = λ i. Node-F.Call (e.1 i) (settled bare es i)
node_step (Node-F.Index a b) = λ i. Node-F.Index (a.1 i) (b.1 i)
node_step (Node-F.Member e n) = λ i. Node-F.Member (e.1 i) n
node_step (Node-F.Arrow e n) = λ i. Node-F.Arrow (e.1 i) n
node_step (Node-F.Step s e) = λ i. Node-F.Step s (e.1 i)

types_settle : (x : TypeLayer) (y : CType-F (With bare_type) (With bare_node) (With bare)) → types_with y ≡ x →
    Settles bare_type (roll-CType x)
types_settle x y is = subst (λ x. Settles bare_type (roll-CType x)) is (type_twice (types_with y) (type_step y))

nodes_settle : (x : NodeLayer) (y : Node-F (With bare_type) (With bare_node) (With bare)) → nodes_with y ≡ x →
    Settles bare_node (roll-Node x)
nodes_settle x y is = subst (λ x. Settles bare_node (roll-Node x)) is (node_twice (nodes_with y) (node_step y))

expr_settles : (s : Span) (n : Node) → Settles bare_node n → Settles bare (expr s n)
expr_settles s n e = ap bare (expr_cleared_bare s n) ∙ expr_cleared_bare no_span (bare_node n) ∙ ap (expr no_span) e
    ∙ sym (expr_cleared_bare s n)

exprs_with : Expr-F (With bare_type) (With bare_node) (With bare) → Expr-F CType Node Expr
exprs_with = map-Expr (With bare_type) (With bare_node) (With bare) CType Node Expr (λ e. e.0) (λ e. e.0) (λ e. e.0)

exprs_settle : (x : Expr-F CType Node Expr) (y : Expr-F (With bare_type) (With bare_node) (With bare)) → exprs_with y ≡ x →
    Settles bare (roll-Expr x)
unfolding exprs_with given_trees
exprs_settle x y is = subst (λ x. Settles bare (roll-Expr x)) is (expr_settles y.span y.node.0 y.node.1)

pub bare_twice : (e : Expr) → Settles bare e
unfolding types_with nodes_with exprs_with
bare_twice = ind-Expr (Settles bare_type) (Settles bare_node) (Settles bare) types_settle nodes_settle exprs_settle

type_bare_twice : (ty : CType) → Settles bare_type ty
unfolding types_with nodes_with exprs_with
type_bare_twice = ind-CType (Settles bare_type) (Settles bare_node) (Settles bare) types_settle nodes_settle exprs_settle

-- ---- declarations

inits_with : Init-F (With bare_init) → Init-F Init
inits_with = map-Init (With bare_init) Init (λ e. e.0)

init_step : (y : Init-F (With bare_init)) → Settles bare_init (roll-Init (inits_with y))
unfolding inits_with given_trees
init_step (Init-F.One e) = ap bare_init (one_bare e) ∙ one_bare (bare e) ∙ ap init.One (bare_twice e) ∙ sym (one_bare e)
init_step (Init-F.List is s) =
    let js : List Init = map (λ e. e.0) is in
    ap bare_init (list_bare js s) ∙ list_bare (map bare_init js) no_span ∙ ap (λ is. init.List is no_span) (settled bare_init is)
    ∙ sym (list_bare js s)

inits_settle : (x : Init-F Init) (y : Init-F (With bare_init)) → inits_with y ≡ x → Settles bare_init (roll-Init x)
inits_settle x y is = subst (λ x. Settles bare_init (roll-Init x)) is (init_step y)

init_twice : (i : Init) → Settles bare_init i
unfolding inits_with
init_twice = ind-Init (Settles bare_init) inits_settle

decl_twice : (d : Decl) → Settles bare_decl d
decl_twice d = λ i. record {
  name = d.name;
  ty = type_bare_twice d.ty i;
  init = settle_option bare_init init_twice d.init i;
  span = no_span;
}

struct_twice : (d : StructDecl) → Settles bare_struct d
struct_twice d = λ i. record {
  name = d.name;
  members = settle_option (map bare_decl) (settle bare_decl decl_twice) d.members i;
  span = no_span;
}

-- ---- statements

items_with : Item-F (With bare_item) (With bare_stmt) → ItemLayer
items_with = map-Item (With bare_item) (With bare_stmt) Item Stmt (λ e. e.0) (λ e. e.0)

stmts_with : Stmt-F (With bare_item) (With bare_stmt) → StmtLayer
stmts_with = map-Stmt (With bare_item) (With bare_stmt) Item Stmt (λ e. e.0) (λ e. e.0)

-- by what one level is without spans
item_made : (d c : ItemLayer) → bare_item_step (bare_in_item d) ≡ roll-Item c →
    bare_item_step (bare_in_item c) ≡ bare_item_step (bare_in_item d) → Settles bare_item (roll-Item d)
item_made d c once twice = ap bare_item (item_bare d ∙ once) ∙ item_bare c ∙ twice ∙ sym (item_bare d)

stmt_made : (d c : StmtLayer) → bare_stmt_step (bare_in_stmt d) ≡ roll-Stmt c →
    bare_stmt_step (bare_in_stmt c) ≡ bare_stmt_step (bare_in_stmt d) → Settles bare_stmt (roll-Stmt d)
stmt_made d c once twice = ap bare_stmt (stmt_bare d ∙ once) ∙ stmt_bare c ∙ twice ∙ sym (stmt_bare d)

item_step : (y : Item-F (With bare_item) (With bare_stmt)) → Settles bare_item (roll-Item (items_with y))
unfolding items_with given_trees
item_step (Item-F.Local ds) = item_made (Item-F.Local ds) (Item-F.Local (map bare_decl ds)) refl
    (λ i. item.Local (settle bare_decl decl_twice ds i))
item_step (Item-F.Stmt s) = item_made (Item-F.Stmt s.0) (Item-F.Stmt (bare_stmt s.0)) refl (λ i. item.Stmt (s.1 i))

maybe_twice : (e : Option Expr) → Settles (option_map bare) e
maybe_twice = settle_option bare bare_twice

stmt_step : (y : Stmt-F (With bare_item) (With bare_stmt)) → Settles bare_stmt (roll-Stmt (stmts_with y))
unfolding stmts_with given_trees
stmt_step (Stmt-F.Block is) = stmt_made (Stmt-F.Block (map (λ e. e.0) is)) (Stmt-F.Block (map bare_item (map (λ e. e.0) is))) refl
    (λ i. stmt.Block (settled bare_item is i))
stmt_step (Stmt-F.Expr e) = stmt_made (Stmt-F.Expr e) (Stmt-F.Expr (bare e)) refl (λ i. stmt.Expr (bare_twice e i))
stmt_step Stmt-F.Empty = stmt_made Stmt-F.Empty Stmt-F.Empty refl refl
stmt_step (Stmt-F.If e s None) = stmt_made (Stmt-F.If e s.0 None) (Stmt-F.If (bare e) (bare_stmt s.0) None) refl
    (λ i. stmt.If (bare_twice e i) (s.1 i) None)
stmt_step (Stmt-F.If e s (Some o)) =
    stmt_made (Stmt-F.If e s.0 (Some o.0)) (Stmt-F.If (bare e) (bare_stmt s.0) (Some (bare_stmt o.0))) refl
    (λ i. stmt.If (bare_twice e i) (s.1 i) (Some (o.1 i)))
stmt_step (Stmt-F.While e s) = stmt_made (Stmt-F.While e s.0) (Stmt-F.While (bare e) (bare_stmt s.0)) refl
    (λ i. stmt.While (bare_twice e i) (s.1 i))
stmt_step (Stmt-F.DoWhile s e) = stmt_made (Stmt-F.DoWhile s.0 e) (Stmt-F.DoWhile (bare_stmt s.0) (bare e)) refl
    (λ i. stmt.DoWhile (s.1 i) (bare_twice e i))
stmt_step (Stmt-F.For ds e c d s) =
    stmt_made (Stmt-F.For ds e c d s.0) (Stmt-F.For (map bare_decl ds) (option_map bare e) (option_map bare c) (option_map bare d)
    (bare_stmt s.0)) refl
    (λ i. stmt.For (settle bare_decl decl_twice ds i) (maybe_twice e i) (maybe_twice c i) (maybe_twice d i) (s.1 i))
stmt_step (Stmt-F.Return e z) = stmt_made (Stmt-F.Return e z) (Stmt-F.Return (option_map bare e) no_span) refl
    (λ i. stmt.Return (maybe_twice e i) no_span)
stmt_step (Stmt-F.Break z) = stmt_made (Stmt-F.Break z) (Stmt-F.Break no_span) refl refl
stmt_step (Stmt-F.Continue z) = stmt_made (Stmt-F.Continue z) (Stmt-F.Continue no_span) refl refl

items_settle : (x : ItemLayer) (y : Item-F (With bare_item) (With bare_stmt)) → items_with y ≡ x → Settles bare_item (roll-Item x)
items_settle x y is = subst (λ x. Settles bare_item (roll-Item x)) is (item_step y)

stmts_settle : (x : StmtLayer) (y : Stmt-F (With bare_item) (With bare_stmt)) → stmts_with y ≡ x → Settles bare_stmt (roll-Stmt x)
stmts_settle x y is = subst (λ x. Settles bare_stmt (roll-Stmt x)) is (stmt_step y)

stmt_twice : (s : Stmt) → Settles bare_stmt s
unfolding items_with stmts_with
stmt_twice = ind-Stmt (Settles bare_item) (Settles bare_stmt) items_settle stmts_settle

-- ---- programs

function_twice : (f : Function) → Settles bare_function f
function_twice f = λ i. record {
  storage = f.storage;
  name = f.name;
  result = type_bare_twice f.result i;
  params = settle bare_decl decl_twice f.params i;
  body = settle_option bare_stmt stmt_twice f.body i;
  span = no_span;
}

external_twice : (e : External) → Settles bare_external e
external_twice external.Include = refl
external_twice (external.Struct d) = λ i. external.Struct (struct_twice d i)
external_twice (external.Objects c ds) = λ i. external.Objects c (settle bare_decl decl_twice ds i)
external_twice (external.Function f) = λ i. external.Function (function_twice f i)

pub program_twice : (p : Program) → Settles bare_program p
program_twice p = λ i. record { items = settle bare_external external_twice p.items i }
