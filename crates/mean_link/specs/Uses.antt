-- Which externs a typed tree refers to, by their numbers and in the order of the tree: those that it names or calls where it runs (after
-- ISO C11 6.9 paragraph 5). What stands below `sizeof` does not run. One that is referred to more than once stands there as often.
use Rattle.std.specs.Prelude.{ℕ, List, [], ◌∷◌, ◌++◌, map, Option, Some, None}
use Rattle.c_type_base.specs.declared.expr.Callee.{Callee}
use Rattle.c_type_base.specs.declared.expr.Callee.TheVariants as callee
use Rattle.c_type_base.specs.declared.expr.TExpr.{TExpr}
use Rattle.c_type_base.specs.declared.expr.TNode.{TNode}
use Rattle.c_type_base.specs.declared.expr.TNode.TheOpen.{TNode-F, TExpr-F}
use Rattle.c_type_base.specs.declared.expr.TNode.TheFolds.{fold-TNode, fold-TExpr}
use Rattle.c_type_base.specs.declared.statement.TInit.{TInit}
use Rattle.c_type_base.specs.declared.statement.TInit.TheOpen.{TInit-F}
use Rattle.c_type_base.specs.declared.statement.TInit.TheFolds.{fold-TInit}
use Rattle.c_type_base.specs.declared.statement.TDecl.{TDecl}
use Rattle.c_type_base.specs.declared.statement.TItem.{TItem}
use Rattle.c_type_base.specs.declared.statement.TStmt.{TStmt}
use Rattle.c_type_base.specs.declared.statement.TItem.TheOpen.{TItem-F, TStmt-F}
use Rattle.c_type_base.specs.declared.statement.TItem.TheFolds.{fold-TItem, fold-TStmt}
use Rattle.c_type_base.specs.declared.typed.GlobalInfo.{GlobalInfo}
use Rattle.c_type_base.specs.declared.typed.InitPiece.{InitPiece}
use Rattle.c_type_base.specs.declared.typed.InitValue.{InitValue}
use Rattle.c_type_base.specs.declared.typed.InitValue.TheVariants as initial
use Rattle.c_type_base.specs.declared.typed.TFunction.{TFunction}
use Rattle.c_type_base.specs.declared.typed.Target.{Target}
use Rattle.c_type_base.specs.declared.typed.Target.TheVariants as target
use Rattle.c_type_base.specs.declared.typed.Typed.{Typed}

-- one after another
abbrev pub joined : List (List ℕ) → List ℕ
joined [] = []
joined (ks ∷ more) = ks ++ joined more

-- ---- expressions

abbrev pub callee_uses : Callee → List ℕ
callee_uses (callee.Extern k) = k ∷ []
callee_uses _ = []

-- those of a node, by those of its parts
abbrev pub node_step : TNode-F (List ℕ) (List ℕ) → List ℕ
node_step (TNode-F.Constant n t) = []
node_step (TNode-F.Text number) = []
node_step (TNode-F.Local k) = []
node_step (TNode-F.Global number) = []
node_step (TNode-F.Extern k) = k ∷ []
node_step (TNode-F.Paren e) = e
node_step (TNode-F.Unary o e) = e
node_step (TNode-F.Binary o a b) = a ++ b
node_step (TNode-F.Assign o a b) = a ++ b
node_step (TNode-F.Cond c a b) = c ++ (a ++ b)
node_step (TNode-F.Cast t e) = e
node_step (TNode-F.SizeofExpr e) = []
node_step (TNode-F.SizeofName t) = []
node_step (TNode-F.Call f es) = callee_uses f ++ joined es
node_step (TNode-F.Index a i) = a ++ i
node_step (TNode-F.Member e number) = e
node_step (TNode-F.Arrow e number) = e
node_step (TNode-F.Step s e) = e
node_step (TNode-F.Read e) = e
node_step (TNode-F.Decay e) = e
node_step (TNode-F.Convert e) = e

abbrev pub expr_step : TExpr-F (List ℕ) (List ℕ) → List ℕ
expr_step e = e.node

abbrev pub expr_uses : TExpr → List ℕ
expr_uses = fold-TExpr (List ℕ) (List ℕ) node_step expr_step

abbrev pub node_uses : TNode → List ℕ
node_uses = fold-TNode (List ℕ) (List ℕ) node_step expr_step

abbrev pub maybe_uses : Option TExpr → List ℕ
maybe_uses None = []
maybe_uses (Some e) = expr_uses e

-- ---- initialisers and statements

abbrev pub init_step : TInit-F (List ℕ) → List ℕ
init_step (TInit-F.One e) = expr_uses e
init_step (TInit-F.List is span) = joined is

abbrev pub init_uses : TInit → List ℕ
init_uses = fold-TInit (List ℕ) init_step

abbrev pub maybe_init_uses : Option TInit → List ℕ
maybe_init_uses None = []
maybe_init_uses (Some i) = init_uses i

abbrev pub decl_uses : TDecl → List ℕ
decl_uses d = maybe_init_uses d.init

abbrev pub item_step : TItem-F (List ℕ) (List ℕ) → List ℕ
item_step (TItem-F.Local ds) = joined (map decl_uses ds)
item_step (TItem-F.Stmt s) = s

abbrev pub stmt_step : TStmt-F (List ℕ) (List ℕ) → List ℕ
stmt_step (TStmt-F.Block is) = joined is
stmt_step (TStmt-F.Expr e) = expr_uses e
stmt_step TStmt-F.Empty = []
stmt_step (TStmt-F.If e s None) = expr_uses e ++ s
stmt_step (TStmt-F.If e s (Some o)) = expr_uses e ++ (s ++ o)
stmt_step (TStmt-F.While e s) = expr_uses e ++ s
stmt_step (TStmt-F.DoWhile s e) = s ++ expr_uses e
stmt_step (TStmt-F.For ds a c n s) = joined (map decl_uses ds) ++ (maybe_uses a ++ (maybe_uses c ++ (maybe_uses n ++ s)))
stmt_step (TStmt-F.Return e span) = maybe_uses e
stmt_step (TStmt-F.Break span) = []
stmt_step (TStmt-F.Continue span) = []

abbrev pub stmt_uses : TStmt → List ℕ
stmt_uses = fold-TStmt (List ℕ) (List ℕ) item_step stmt_step

abbrev pub item_uses : TItem → List ℕ
item_uses = fold-TItem (List ℕ) (List ℕ) item_step stmt_step

-- ---- a file

abbrev pub target_uses : Target → List ℕ
target_uses (target.Extern k) = k ∷ []
target_uses _ = []

abbrev pub value_uses : InitValue → List ℕ
value_uses (initial.Number n bytes) = []
value_uses (initial.Address t offset) = target_uses t

abbrev pub piece_uses : InitPiece → List ℕ
piece_uses piece = value_uses piece.value

-- an object refers to what its first bytes point to
abbrev pub object_uses : GlobalInfo → List ℕ
object_uses g = joined (map piece_uses g.init)

abbrev pub function_uses : TFunction → List ℕ
function_uses f = stmt_uses f.body

-- those of a file: of its objects, and of its functions
abbrev pub file_uses : Typed → List ℕ
file_uses u = joined (map object_uses u.globals) ++ joined (map function_uses u.functions)
