-- How many steps of the machine a unit of work takes at most (this project's own), by the files that a program is made of: what the largest
-- frame and the largest copy cost.
use Rattle.std.specs.Prelude.{ℕ, ◌+◌, ◌*◌, ◌/◌, max, List, [], ◌∷◌, map, slice_get, Option, Some, None, if◌then◌else◌}
use Rattle.c_type_base.specs.declared.ty.Ty.{Ty}
use Rattle.c_type_base.specs.declared.expr.TExpr.{TExpr}
use Rattle.c_type_base.specs.declared.expr.TNode.TheOpen.{TNode-F, TExpr-F}
use Rattle.c_type_base.specs.declared.expr.TNode.TheFolds.{fold-TExpr}
use Rattle.c_type_base.specs.declared.statement.TInit.{TInit}
use Rattle.c_type_base.specs.declared.statement.TInit.TheOpen.{TInit-F}
use Rattle.c_type_base.specs.declared.statement.TInit.TheFolds.{fold-TInit}
use Rattle.c_type_base.specs.declared.statement.TDecl.{TDecl}
use Rattle.c_type_base.specs.declared.statement.TItem.TheOpen.{TItem-F, TStmt-F}
use Rattle.c_type_base.specs.declared.statement.TItem.TheFolds.{fold-TStmt}
use Rattle.c_type_base.specs.declared.typed.StructInfo.{StructInfo}
use Rattle.c_type_base.specs.declared.typed.LocalInfo.{LocalInfo}
use Rattle.c_type_base.specs.declared.typed.TFunction.{TFunction}
use Rattle.c_type_base.specs.declared.typed.Typed.{Typed}
use Rattle.c_type_base.specs.Sizes.{size}
use Rattle.c_type_base.specs.Types.{is_struct}
use Rattle.frame_layout.specs.StatementNeeds.{most}
use Rattle.frame_layout.specs.Frames.{frame}

-- ---- the largest struct that is assigned in an expression

abbrev pub struct_bytes : List StructInfo → Ty → ℕ
struct_bytes structs t = (if is_struct t then size structs t else 0)

-- by the type of an expression
abbrev pub Copies : Type 0
Copies = Ty → ℕ

abbrev pub node_copies : List StructInfo → TNode-F Copies ℕ → Copies
node_copies structs (TNode-F.Constant n t) = λ ty. 0
node_copies structs (TNode-F.Text number) = λ ty. 0
node_copies structs (TNode-F.Local k) = λ ty. 0
node_copies structs (TNode-F.Global number) = λ ty. 0
node_copies structs (TNode-F.Extern number) = λ ty. 0
node_copies structs (TNode-F.Paren e) = λ ty. e
node_copies structs (TNode-F.Unary o e) = λ ty. e
node_copies structs (TNode-F.Binary o a b) = λ ty. max a b
node_copies structs (TNode-F.Assign o a b) = λ ty. max (struct_bytes structs ty) (max a b)
node_copies structs (TNode-F.Cond c a b) = λ ty. max c (max a b)
node_copies structs (TNode-F.Cast t e) = λ ty. e
node_copies structs (TNode-F.SizeofExpr e) = λ ty. 0
node_copies structs (TNode-F.SizeofName t) = λ ty. 0
node_copies structs (TNode-F.Call callee arguments) = λ ty. most arguments
node_copies structs (TNode-F.Index a i) = λ ty. max a i
node_copies structs (TNode-F.Member e number) = λ ty. e
node_copies structs (TNode-F.Arrow e number) = λ ty. e
node_copies structs (TNode-F.Step s e) = λ ty. e
node_copies structs (TNode-F.Read e) = λ ty. e
node_copies structs (TNode-F.Decay e) = λ ty. e
node_copies structs (TNode-F.Convert e) = λ ty. e

abbrev pub expr_copies : TExpr-F Copies ℕ → ℕ
expr_copies e = e.node e.ty

abbrev pub copies : List StructInfo → TExpr → ℕ
copies structs = fold-TExpr Copies ℕ (node_copies structs) expr_copies

-- ---- of a statement, with the largest local that is initialised

abbrev pub maybe_copies : List StructInfo → Option TExpr → ℕ
maybe_copies structs None = 0
maybe_copies structs (Some e) = copies structs e

abbrev pub init_step : List StructInfo → TInit-F ℕ → ℕ
init_step structs (TInit-F.One e) = copies structs e
init_step structs (TInit-F.List is span) = most is

abbrev pub init_copies : List StructInfo → TInit → ℕ
init_copies structs = fold-TInit ℕ (init_step structs)

abbrev pub bytes_of_local : List StructInfo → Option LocalInfo → ℕ
bytes_of_local structs None = 0
bytes_of_local structs (Some l) = size structs l.ty

abbrev pub initialised : List StructInfo → Option LocalInfo → Option TInit → ℕ
initialised structs l None = 0
initialised structs l (Some i) = max (bytes_of_local structs l) (init_copies structs i)

abbrev pub decl_copies : List StructInfo → List LocalInfo → TDecl → ℕ
decl_copies structs locals d = initialised structs (slice_get locals d.local) d.init

abbrev pub item_step : List StructInfo → List LocalInfo → TItem-F ℕ ℕ → ℕ
item_step structs locals (TItem-F.Local ds) = most (map (decl_copies structs locals) ds)
item_step structs locals (TItem-F.Stmt s) = s

abbrev pub stmt_step : List StructInfo → List LocalInfo → TStmt-F ℕ ℕ → ℕ
stmt_step structs locals (TStmt-F.Block is) = most is
stmt_step structs locals (TStmt-F.Expr e) = copies structs e
stmt_step structs locals TStmt-F.Empty = 0
stmt_step structs locals (TStmt-F.If e s None) = max (copies structs e) s
stmt_step structs locals (TStmt-F.If e s (Some o)) = max (copies structs e) (max s o)
stmt_step structs locals (TStmt-F.While e s) = max (copies structs e) s
stmt_step structs locals (TStmt-F.DoWhile s e) = max s (copies structs e)
stmt_step structs locals (TStmt-F.For ds a c n s) =
    max (max (most (map (decl_copies structs locals) ds)) (maybe_copies structs a))
    (max (max (maybe_copies structs c) (maybe_copies structs n)) s)
stmt_step structs locals (TStmt-F.Return e span) = maybe_copies structs e
stmt_step structs locals (TStmt-F.Break span) = 0
stmt_step structs locals (TStmt-F.Continue span) = 0

-- the bytes of the largest struct that a function assigns or local that it initialises
abbrev pub function_copies : List StructInfo → TFunction → ℕ
function_copies structs f = fold-TStmt ℕ ℕ (item_step structs f.locals) (stmt_step structs f.locals) f.body

-- ---- of all files

abbrev pub most_of : (List StructInfo → TFunction → ℕ) → List Typed → ℕ
most_of by [] = 0
most_of by (u ∷ us) = max (most (map (by u.structs) u.functions)) (most_of by us)

-- the granules of a function's frame
abbrev pub granules : List StructInfo → TFunction → ℕ
granules structs f = (frame structs f).bytes / 16

-- the steps that a unit of work takes at most
abbrev pub per : List Typed → ℕ
per units = 96 + 6 * most_of granules units + 8 * most_of function_copies units
