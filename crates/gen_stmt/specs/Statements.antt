-- The code of a statement (this project's own). Lists in braces, and initialisers of arrays and structs, have no code yet.
use Rattle.std.specs.Prelude.{ℕ, suc, List, [], ◌∷◌, ◌++◌, map, Option, Some, None, slice_get}
use Rattle.c_type_base.specs.declared.ty.Ty.{Ty}
use Rattle.c_type_base.specs.declared.expr.TExpr.{TExpr}
use Rattle.c_type_base.specs.declared.statement.TDecl.{TDecl}
use Rattle.c_type_base.specs.declared.statement.TInit.{TInit, out-TInit}
use Rattle.c_type_base.specs.declared.statement.TInit.TheOpen.{TInit-F}
use Rattle.c_type_base.specs.declared.statement.TStmt.{TStmt}
use Rattle.c_type_base.specs.declared.statement.TItem.{TItem}
use Rattle.c_type_base.specs.declared.statement.TItem.TheOpen.{TItem-F, TStmt-F}
use Rattle.c_type_base.specs.declared.statement.TItem.TheFolds.{fold-TItem, fold-TStmt}
use Rattle.c_type_base.specs.declared.typed.StructInfo.{StructInfo}
use Rattle.a64_code.specs.declared.instr.Instr.TheVariants.{Nop}
use Rattle.a64_code.specs.declared.instr.Reg.{Reg}
use Rattle.a64_laws.specs.Constants.{constant_moves}
use Rattle.block_meaning.specs.Statements.{local_of}
use Rattle.frame_layout.specs.declared.frame.Frame.{Frame}
use Rattle.sym_code.specs.declared.item.SymItem.TheVariants as item
use Rattle.gen_base.specs.Accesses.{OnStack, Behind, store_scalar, reached}
use Rattle.gen_base.specs.Code.{Code, nothing, only, plain, in_turn, labelled}
use Rattle.gen_base.specs.Registers.{scratch, returned, move}
use Rattle.gen_expr.specs.Expressions.{expression_code}
use Rattle.gen_stmt.specs.Scopes.{range, enter, leave}
use Rattle.gen_stmt.specs.Loops.{result, Around, Emits, inside, jump_out, while_code, do_code, for_code}

-- ---- expressions

-- the value of an expression of a statement: no temp is in use there
abbrev pub value : List StructInfo → Frame → TExpr → Code
value structs f e = expression_code structs f e 0 result

abbrev pub maybe_value : List StructInfo → Frame → Option TExpr → Code
maybe_value structs f None = nothing
maybe_value structs f (Some e) = value structs f e

abbrev pub condition : List StructInfo → Frame → Option TExpr → Option Code
condition structs f None = None
condition structs f (Some e) = Some (value structs f e)

-- ---- declarations

-- a register is stored in a local: through its place where it is out of reach from SP
abbrev pub store_local : ℕ → Ty → Option ℕ → Reg → Code
store_local k ty (Some start) r = plain (store_scalar ty (OnStack start) r ∷ [])
store_local k ty None r = in_turn (only (item.SlotAddress k scratch) ∷ plain (store_scalar ty (Behind scratch) r ∷ []) ∷ [])

-- an initialiser spends a unit of work first
abbrev pub one_init : List StructInfo → Frame → ℕ → TExpr → Code
one_init structs f k e =
    in_turn (plain (Nop ∷ []) ∷ value structs f e ∷ store_local k e.ty (reached e.ty (slice_get f.slots k)) result ∷ [])

abbrev pub init_code : List StructInfo → Frame → ℕ → TInit-F TInit → Code
init_code structs f k (TInit-F.One e) = one_init structs f k e
init_code structs f k (TInit-F.List is span) = nothing

abbrev pub maybe_init : List StructInfo → Frame → ℕ → Option TInit → Code
maybe_init structs f k None = nothing
maybe_init structs f k (Some i) = init_code structs f k (out-TInit i)

abbrev pub declaration : List StructInfo → Frame → TDecl → Code
declaration structs f d = maybe_init structs f d.local d.init

abbrev pub declarations : List StructInfo → Frame → List TDecl → Code
declarations structs f ds = in_turn (map (declaration structs f) ds)

-- ---- scopes

-- a scope that declares a local is entered and left
abbrev pub scope : Frame → List ℕ → Emits → Emits
scope f [] body around = body around
scope f (k ∷ ks) body around = in_turn (
    enter f (k ∷ ks) ∷ body (inside around (range k ks)) ∷ leave f (Some (range k ks)) ∷ [])

-- ---- parts of a block

pub record ItemCode : Type 0 where
  -- the locals that it declares, but for those of inner scopes
  pub declares : List ℕ
  pub code : Emits

abbrev pub declared : List ItemCode → List ℕ
declared [] = []
declared (i ∷ is) = i.declares ++ declared is

abbrev pub item_codes : Around → List ItemCode → List Code
item_codes around [] = []
item_codes around (i ∷ is) = i.code around ∷ item_codes around is

abbrev pub items : List ItemCode → Emits
items is around = in_turn (item_codes around is)

abbrev pub item_code : List StructInfo → Frame → TItem-F ItemCode Emits → ItemCode
item_code structs f (TItem-F.Local ds) = record { declares = map local_of ds; code = λ around. declarations structs f ds }
item_code structs f (TItem-F.Stmt s) = record { declares = []; code = s }

-- ---- statements

-- a statement where the value is not 0
abbrev pub branch : Emits → Emits
branch s around = labelled (λ l. in_turn (only (item.JumpIfZero result l) ∷ s around ∷ only (item.Label l) ∷ []))

-- and another where it is 0
abbrev pub branches : Emits → Emits → Emits
branches s other around = labelled (λ l. in_turn (
    only (item.JumpIfZero result l) ∷ s around ∷ only (item.Jump (suc l)) ∷
    only (item.Label l) ∷ other around ∷ only (item.Label (suc l)) ∷ []))

abbrev pub if_code : Code → Emits → Option Emits → Emits
if_code c s None around = in_turn (c ∷ branch s around ∷ [])
if_code c s (Some other) around = in_turn (c ∷ branches s other around ∷ [])

-- what comes first in a `for`, and then its loop
abbrev pub for_parts : List StructInfo → Frame → List TDecl → Option TExpr → Code → Code
for_parts structs f ds first loop = in_turn (declarations structs f ds ∷ maybe_value structs f first ∷ loop ∷ [])

-- what it declares is in a scope round the loop
abbrev pub for_scope : List StructInfo → Frame → List TDecl → Option TExpr → Code → Emits
for_scope structs f ds first loop = scope f (map local_of ds) (λ around. for_parts structs f ds first loop)

abbrev pub return_code : List StructInfo → Frame → Option TExpr → Code
return_code structs f None = in_turn (plain (constant_moves returned 0) ∷ only item.Leave ∷ [])
return_code structs f (Some e) = in_turn (value structs f e ∷ plain (move result returned ∷ []) ∷ only item.Leave ∷ [])

abbrev pub stmt_code : List StructInfo → Frame → TStmt-F ItemCode Emits → Emits
stmt_code structs f (TStmt-F.Block is) = scope f (declared is) (items is)
stmt_code structs f (TStmt-F.Expr e) = λ around. value structs f e
stmt_code structs f TStmt-F.Empty = λ around. nothing
stmt_code structs f (TStmt-F.If e s other) = if_code (value structs f e) s other
stmt_code structs f (TStmt-F.While e s) = λ around. while_code (value structs f e) s
stmt_code structs f (TStmt-F.DoWhile s e) = λ around. do_code s (value structs f e)
stmt_code structs f (TStmt-F.For ds first e next s) =
    for_scope structs f ds first (for_code (condition structs f e) (maybe_value structs f next) s)
stmt_code structs f (TStmt-F.Return e span) = λ around. return_code structs f e
stmt_code structs f (TStmt-F.Break span) = λ around. jump_out f around.opened around.broke
stmt_code structs f (TStmt-F.Continue span) = λ around. jump_out f around.opened around.continued

-- in a file with these structs and in a function with this frame
abbrev pub statement_code : List StructInfo → Frame → TStmt → Emits
statement_code structs f = fold-TStmt ItemCode Emits (item_code structs f) (stmt_code structs f)

abbrev pub coded_item : List StructInfo → Frame → TItem → ItemCode
coded_item structs f = fold-TItem ItemCode Emits (item_code structs f) (stmt_code structs f)

-- the parts of a function's body, whose outermost scope is that of the call
abbrev pub body_code : List StructInfo → Frame → List TItem → Emits
body_code structs f is = items (map (coded_item structs f) is)
