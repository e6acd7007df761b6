-- What a tree made of its parts is without spans.
use Rattle.std.specs.Prelude.{◌≡◌, List, [], ◌∷◌, map, Option, Some, None, refl}
use Rattle.std.proofs.Common.{sym, ◌∙◌, ap, subst}
use Rattle.c_ast.specs.Laws.Opened.{given_trees}
use Rattle.c_ast.specs.Tree.{TypeLayer, NodeLayer, StmtLayer, ItemLayer, expr}
use Rattle.c_ast.specs.declared.token.Span.{Span}
use Rattle.c_ast.specs.declared.expr.CType.{CType, roll-CType, out-CType, roll-out-CType, map-CType}
use Rattle.c_ast.specs.declared.expr.CType.TheVariants as type
use Rattle.c_ast.specs.declared.expr.CType.TheOpen.{CType-F}
use Rattle.c_ast.specs.declared.expr.CType.TheFolds.{fold-roll-CType, fold-roll-Node, fold_out-Expr}
use Rattle.c_ast.specs.declared.expr.Expr.{Expr}
use Rattle.c_ast.specs.declared.expr.Node.{Node, roll-Node, map-Node}
use Rattle.c_ast.specs.declared.declaration.Init.{Init}
use Rattle.c_ast.specs.declared.declaration.Init.TheVariants as init
use Rattle.c_ast.specs.declared.declaration.Init.TheOpen.{Init-F}
use Rattle.c_ast.specs.declared.declaration.Init.TheFolds.{fold-roll-Init}
use Rattle.c_ast.specs.declared.statement.Stmt.{Stmt, roll-Stmt, map-Stmt}
use Rattle.c_ast.specs.declared.statement.Item.{Item, roll-Item, map-Item}
use Rattle.c_ast.specs.declared.statement.Item.TheFolds.{fold-roll-Item, fold-roll-Stmt}
use Rattle.c_grammar.specs.Declarators.{arrays}
use Rattle.c_print.specs.Spans.{no_span, option_map, expr_cleared, bare, bare_node, bare_type, bare_init_step, bare_init, bare_item_step}
use Rattle.c_print.specs.Spans.{bare_stmt_step, bare_stmt, bare_item}

-- one level, with parts without spans
abbrev pub bare_in_type : TypeLayer → TypeLayer
bare_in_type = map-CType CType Node Expr CType Node Expr bare_type bare_node bare

abbrev pub bare_in_node : NodeLayer → NodeLayer
bare_in_node = map-Node CType Node Expr CType Node Expr bare_type bare_node bare

abbrev pub bare_in_stmt : StmtLayer → StmtLayer
bare_in_stmt = map-Stmt Item Stmt Item Stmt bare_item bare_stmt

abbrev pub bare_in_item : ItemLayer → ItemLayer
bare_in_item = map-Item Item Stmt Item Stmt bare_item bare_stmt

pub type_bare : (d : TypeLayer) → bare_type (roll-CType d) ≡ roll-CType (bare_in_type d)
type_bare = fold-roll-CType CType Node Expr roll-CType roll-Node expr_cleared

pub node_bare : (d : NodeLayer) → bare_node (roll-Node d) ≡ roll-Node (bare_in_node d)
node_bare = fold-roll-Node CType Node Expr roll-CType roll-Node expr_cleared

pub expr_cleared_bare : (s : Span) (n : Node) → bare (expr s n) ≡ expr no_span (bare_node n)
unfolding given_trees
expr_cleared_bare s n = fold_out-Expr CType Node Expr roll-CType roll-Node expr_cleared (expr s n)

pub expr_bare : (s : Span) (d : NodeLayer) → bare (expr s (roll-Node d)) ≡ expr no_span (roll-Node (bare_in_node d))
expr_bare s d = expr_cleared_bare s (roll-Node d) ∙ ap (expr no_span) (node_bare d)

pub one_bare : (e : Expr) → bare_init (init.One e) ≡ init.One (bare e)
unfolding given_trees
one_bare e = fold-roll-Init Init bare_init_step (Init-F.One e)

pub list_bare : (is : List Init) (s : Span) → bare_init (init.List is s) ≡ init.List (map bare_init is) no_span
unfolding given_trees
list_bare is s = fold-roll-Init Init bare_init_step (Init-F.List is s)

pub stmt_bare : (d : StmtLayer) → bare_stmt (roll-Stmt d) ≡ bare_stmt_step (bare_in_stmt d)
stmt_bare = fold-roll-Stmt Item Stmt bare_item_step bare_stmt_step

pub item_bare : (d : ItemLayer) → bare_item (roll-Item d) ≡ bare_item_step (bare_in_item d)
item_bare = fold-roll-Item Item Stmt bare_item_step bare_stmt_step

-- ---- arrays

abbrev pub bare_length : Option Expr → Option Expr
bare_length = option_map bare

array_bare : (ty : CType) (size : Option Expr) → bare_type (type.Array ty size) ≡ type.Array (bare_type ty) (bare_length size)
unfolding given_trees
array_bare ty None = type_bare (CType-F.Array ty None)
array_bare ty (Some e) = type_bare (CType-F.Array ty (Some e))

-- what the lengths of an array add to a type
pub arrays_bare : (ty : CType) (sizes : List (Option Expr)) → bare_type (arrays ty sizes) ≡ arrays (bare_type ty) (map bare_length sizes)
unfolding arrays
arrays_bare ty [] = refl
arrays_bare ty (size ∷ sizes) = array_bare (arrays ty sizes) size ∙ ap (λ t. type.Array t (bare_length size)) (arrays_bare ty sizes)

-- lengths that are alike add what is alike
pub arrays_alike : (ty : CType) (ls ms : List (Option Expr)) → map bare_length ls ≡ map bare_length ms →
    bare_type (arrays ty ls) ≡ bare_type (arrays ty ms)
arrays_alike ty ls ms e = arrays_bare ty ls ∙ ap (arrays (bare_type ty)) e ∙ sym (arrays_bare ty ms)

-- ---- `void`

-- a type that is `void` without spans is `void`
void_made : (d : TypeLayer) → roll-CType (bare_in_type d) ≡ type.Void → roll-CType d ≡ type.Void
unfolding given_trees
void_made CType-F.Void is = refl
void_made (CType-F.Int ty) is = let e : CType-F.Int ty ≡ CType-F.Void = ap out-CType is in cc
void_made (CType-F.Struct tag) is = let e : CType-F.Struct tag ≡ CType-F.Void = ap out-CType is in cc
void_made (CType-F.Pointer t) is = let e : CType-F.Pointer (bare_type t) ≡ CType-F.Void = ap out-CType is in cc
void_made (CType-F.Array t None) is = let e : CType-F.Array (bare_type t) None ≡ CType-F.Void = ap out-CType is in cc
void_made (CType-F.Array t (Some e)) is = let e : CType-F.Array (bare_type t) (Some (bare e)) ≡ CType-F.Void = ap out-CType is in cc

pub bare_void : (ty : CType) → bare_type ty ≡ type.Void → ty ≡ type.Void
bare_void ty =
    let P : CType → Type 0 = λ t. bare_type t ≡ type.Void → t ≡ type.Void in
    subst P (roll-out-CType ty) (λ e. void_made (out-CType ty) (sym (type_bare (out-CType ty)) ∙ e))

pub void_bare : bare_type type.Void ≡ type.Void
unfolding given_trees
void_bare = type_bare CType-F.Void
