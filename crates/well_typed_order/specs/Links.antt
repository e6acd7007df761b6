-- What the names of several typed files stand for together, as the meaning of a program asks it (ISO C11 5.1.2.2.1, 6.9 paragraph 5): some
-- file defines `main`, a function, and each name that a function uses where it runs and its file does not define is defined by some file.
use Rattle.std.specs.Prelude.{◌≡◌, ℕ, List, codes, slice_get, length, Some}
use Rattle.c_type_base.specs.declared.statement.TStmt.{out-TStmt}
use Rattle.c_type_base.specs.declared.typed.ExternInfo.{ExternInfo}
use Rattle.c_type_base.specs.declared.typed.TFunction.{TFunction}
use Rattle.c_type_base.specs.declared.typed.Typed.{Typed}
use Rattle.block_meaning.specs.ExpressionsInOrder.{IsDefined}
use Rattle.block_meaning.specs.Linkage.{AFunction, defined, extern_at}
use Rattle.block_meaning.specs.Running.{Function, Program}
use Rattle.well_typed_order.specs.Uses.{StmtUses}

-- the externs that the functions of a file use are defined
abbrev pub UsedLinked : List Typed → ℕ → Typed → Type 0
UsedLinked units unit u = (number k : ℕ) (f : TFunction) (e : ExternInfo) → slice_get u.functions number ≡ Some f →
    StmtUses (out-TStmt f.body) k → extern_at units unit k ≡ Some e → IsDefined units e.name

pub record Links (units : List Typed) : Type 0 where
  pub main : Function
  pub main_is : defined units (codes "main") ≡ Some (AFunction main)
  pub used : (unit : ℕ) (u : Typed) → slice_get units unit ≡ Some u → UsedLinked units unit u

-- as many numbers of bytes as functions, for each file
abbrev pub Framed : Program → Type 0
Framed program = (unit : ℕ) (u : Typed) → slice_get program.units unit ≡ Some u →
    (frames : List ℕ) × (slice_get program.frames unit ≡ Some frames) × (length frames ≡ length u.functions)
