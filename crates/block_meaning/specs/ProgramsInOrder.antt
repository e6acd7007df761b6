-- When typed files are in order together as a program (ISO C11 5.1.2.2.1, 6.7.9, 6.9). Such a program has a meaning (law `has_meaning`).
use Rattle.std.specs.Prelude.{◌≡◌, ◌<◌, ℕ, true, ◌+◌, ◌||◌, List, [], ◌∷◌, ◌++◌, take, length, codes, slice_get, Some}
use Rattle.std.specs.List.{All}
use Rattle.c_type_base.specs.declared.typed.Typed.{Typed}
use Rattle.c_type_base.specs.declared.typed.GlobalInfo.{GlobalInfo}
use Rattle.c_type_base.specs.declared.typed.InitPiece.{InitPiece}
use Rattle.c_type_base.specs.declared.typed.InitValue.{InitValue}
use Rattle.c_type_base.specs.declared.typed.InitValue.TheVariants as initial
use Rattle.c_type_base.specs.declared.typed.Target.{Target}
use Rattle.c_type_base.specs.declared.typed.Target.TheVariants as target
use Rattle.c_type_base.specs.declared.typed.LocalInfo.{LocalInfo}
use Rattle.c_type_base.specs.declared.typed.TFunction.{TFunction}
use Rattle.c_type_base.specs.declared.statement.TItem.{TItem}
use Rattle.c_type_base.specs.declared.statement.TItem.TheOpen.{TStmt-F}
use Rattle.c_type_base.specs.declared.statement.TStmt.{out-TStmt}
use Rattle.c_type_base.specs.Layout.{LaidOut}
use Rattle.c_type_base.specs.Types.{is_scalar, is_void}
use Rattle.block_meaning.specs.ExpressionsInOrder.{Scope}
use Rattle.block_meaning.specs.Linkage.{AFunction, defined, function_named}
use Rattle.block_meaning.specs.Meaning.{frame_bytes}
use Rattle.block_meaning.specs.Running.{Function, Program}
use Rattle.block_meaning.specs.Statements.{declared}
use Rattle.block_meaning.specs.StatementsInOrder.{Items}

-- ---- functions

-- the numbers of some locals, of which the first has a number
abbrev pub numbered : ℕ → List LocalInfo → List ℕ
numbered k [] = []
numbered k (l ∷ ls) = k ∷ numbered (k + 1) ls

-- the outermost scope of a function: its parameters, and some locals
abbrev pub body_scope : Program → ℕ → TFunction → List ℕ → Scope
body_scope program unit f ks =
    record { program = program; unit = unit; function = f; locals = ks ++ numbered 0 (take f.params f.locals) }

pub record FunctionInOrder (program : Program) (unit : ℕ) (f : TFunction) : Type 0 where
  pub result : (is_void f.result || is_scalar f.result) ≡ true
  pub items : List TItem
  pub body_is : out-TStmt f.body ≡ TStmt-F.Block items
  pub body : Items (body_scope program unit f (declared items)) items

-- ---- objects

-- what an address is of is there; a name may be defined by another file
abbrev pub TargetInOrder : Typed → Target → Type 0
TargetInOrder u (target.Global k) = k < length u.globals
TargetInOrder u (target.Extern k) = k < length u.externs
TargetInOrder u (target.Text k) = k < length u.texts

abbrev pub InitInOrder : Typed → InitValue → Type 0
InitInOrder u (initial.Number n bytes) = Unit {0}
InitInOrder u (initial.Address t offset) = TargetInOrder u t

abbrev pub PieceInOrder : Typed → InitPiece → Type 0
PieceInOrder u p = InitInOrder u p.value

abbrev pub ObjectInOrder : Typed → GlobalInfo → Type 0
ObjectInOrder u g = All (PieceInOrder u) g.init

-- ---- programs

-- a file among those of a program
pub record FileInOrder (program : Program) (unit : ℕ) (u : Typed) : Type 0 where
  pub structs : LaidOut u.structs
  pub objects : All (ObjectInOrder u) u.globals
  pub functions : (k : ℕ) (f : TFunction) → slice_get u.functions k ≡ Some f → FunctionInOrder program unit f

-- a function `main` without parameters, which some file defines
pub record MainInOrder (units : List Typed) : Type 0 where
  pub name : Function
  pub defined_is : defined units (codes "main") ≡ Some (AFunction name)
  pub function : TFunction
  pub function_is : function_named units name ≡ Some function
  pub without_parameters : function.params ≡ 0

-- each function has a frame
pub record HasFrame (program : Program) (f : Function) : Type 0 where
  pub bytes : ℕ
  pub is : frame_bytes program f ≡ Some bytes

pub record InOrder (program : Program) : Type 0 where
  pub files : (unit : ℕ) (u : Typed) → slice_get program.units unit ≡ Some u → FileInOrder program unit u
  pub frames : (f : Function) (g : TFunction) → function_named program.units f ≡ Some g → HasFrame program f
  pub main : MainInOrder program.units
