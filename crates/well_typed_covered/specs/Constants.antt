-- Expressions whose constants are values of their types (ISO C11 6.4.4.1 paragraph 5): as the text of a file gives them, and as the type
-- checker takes them.
use Rattle.std.specs.Prelude.{Bool, true, ◌&&◌, nat_eq, List, [], ◌∷◌, Option, Some, None}
use Rattle.c_ast.specs.declared.expr.CType.TheOpen.{CType-F, Node-F, Expr-F}
use Rattle.c_ast.specs.declared.expr.CType.TheFolds.{fold-CType, fold-Node, fold-Expr}
use Rattle.c_ast.specs.declared.expr.CType.{CType}
use Rattle.c_ast.specs.declared.expr.Expr.{Expr}
use Rattle.c_ast.specs.declared.expr.Node.{Node}
use Rattle.c_ast.specs.declared.declaration.Decl.{Decl}
use Rattle.c_ast.specs.declared.declaration.Init.{Init}
use Rattle.c_ast.specs.declared.declaration.Init.TheFolds.{fold-Init}
use Rattle.c_ast.specs.declared.declaration.Init.TheOpen.{Init-F}
use Rattle.c_ast.specs.declared.program.External.{External}
use Rattle.c_ast.specs.declared.program.External.TheVariants as external
use Rattle.c_ast.specs.declared.program.Program.{Program}
use Rattle.c_ast.specs.declared.statement.Item.{Item}
use Rattle.c_ast.specs.declared.statement.Item.TheFolds.{fold-Item, fold-Stmt}
use Rattle.c_ast.specs.declared.statement.Item.TheOpen.{Item-F, Stmt-F}
use Rattle.c_ast.specs.declared.statement.Stmt.{Stmt}
use Rattle.c_type_base.specs.Conversions.{wrap}

abbrev pub all_fit : List Bool → Bool
all_fit [] = true
all_fit (e ∷ es) = e && all_fit es

-- the lengths of a type
abbrev pub type_fits : CType-F Bool Bool Bool → Bool
type_fits (CType-F.Pointer t) = t
type_fits (CType-F.Array t None) = t
type_fits (CType-F.Array t (Some e)) = t && e
type_fits _ = true

abbrev pub node_fits : Node-F Bool Bool Bool → Bool
node_fits (Node-F.Constant n t) = nat_eq n (wrap t n)
node_fits (Node-F.Text bytes) = true
node_fits (Node-F.Variable name) = true
node_fits (Node-F.Paren e) = e
node_fits (Node-F.Unary o e) = e
node_fits (Node-F.Binary o a b) = a && b
node_fits (Node-F.Assign o a b) = a && b
node_fits (Node-F.Cond c a b) = c && (a && b)
node_fits (Node-F.Cast t e) = t && e
node_fits (Node-F.SizeofExpr e) = e
node_fits (Node-F.SizeofName t) = t
node_fits (Node-F.Call f es) = f && all_fit es
node_fits (Node-F.Index a i) = a && i
node_fits (Node-F.Member e name) = e
node_fits (Node-F.Arrow e name) = e
node_fits (Node-F.Step o e) = e

abbrev pub expr_fits : Expr-F Bool Bool Bool → Bool
expr_fits e = e.node

-- each constant in an expression is a value of its type
abbrev pub constants_fit : Expr → Bool
constants_fit = fold-Expr Bool Bool Bool type_fits node_fits expr_fits

abbrev pub constants_fit_node : Node → Bool
constants_fit_node = fold-Node Bool Bool Bool type_fits node_fits expr_fits

abbrev pub constants_fit_type : CType → Bool
constants_fit_type = fold-CType Bool Bool Bool type_fits node_fits expr_fits

-- ---- the parts of a program

abbrev pub fits_if : {A : Type 0} → (A → Bool) → Option A → Bool
fits_if test None = true
fits_if test (Some a) = test a

abbrev pub init_fits : Init-F Bool → Bool
init_fits (Init-F.One e) = constants_fit e
init_fits (Init-F.List is span) = all_fit is

abbrev pub constants_fit_init : Init → Bool
constants_fit_init = fold-Init Bool init_fits

-- those of its initialiser
abbrev pub constants_fit_decl : Decl → Bool
constants_fit_decl d = fits_if constants_fit_init d.init

abbrev pub constants_fit_decls : List Decl → Bool
constants_fit_decls [] = true
constants_fit_decls (d ∷ ds) = constants_fit_decl d && constants_fit_decls ds

abbrev pub part_fits : Option Bool → Bool
part_fits None = true
part_fits (Some b) = b

abbrev pub stmt_fits : Stmt-F Bool Bool → Bool
stmt_fits (Stmt-F.Block is) = all_fit is
stmt_fits (Stmt-F.Expr e) = constants_fit e
stmt_fits Stmt-F.Empty = true
stmt_fits (Stmt-F.If e s o) = constants_fit e && (s && part_fits o)
stmt_fits (Stmt-F.While e s) = constants_fit e && s
stmt_fits (Stmt-F.DoWhile s e) = s && constants_fit e
stmt_fits (Stmt-F.For ds first c next s) =
    constants_fit_decls ds && (fits_if constants_fit first && (fits_if constants_fit c && (fits_if constants_fit next && s)))
stmt_fits (Stmt-F.Return e span) = fits_if constants_fit e
stmt_fits (Stmt-F.Break span) = true
stmt_fits (Stmt-F.Continue span) = true

abbrev pub item_fits : Item-F Bool Bool → Bool
item_fits (Item-F.Local ds) = constants_fit_decls ds
item_fits (Item-F.Stmt s) = s

abbrev pub constants_fit_stmt : Stmt → Bool
constants_fit_stmt = fold-Stmt Bool Bool item_fits stmt_fits

abbrev pub constants_fit_item : Item → Bool
constants_fit_item = fold-Item Bool Bool item_fits stmt_fits

-- those of a function's body
abbrev pub constants_fit_part : External → Bool
constants_fit_part (external.Function f) = fits_if constants_fit_stmt f.body
constants_fit_part _ = true

abbrev pub constants_fit_parts : List External → Bool
constants_fit_parts [] = true
constants_fit_parts (e ∷ es) = constants_fit_part e && constants_fit_parts es

-- each constant in the functions of a file is a value of its type
abbrev pub constants_fit_in : Program → Bool
constants_fit_in p = constants_fit_parts p.items
