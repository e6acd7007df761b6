-- The states of an example: a function with one int in a safe slot has been called, and the int is 7.
use Rattle.std.specs.Prelude.{◌≡◌, ℕ, zero, suc, ◌-◌}
use Rattle.std.specs.Prelude.{true, false, nat_eq, if◌then◌else◌, List, [], ◌∷◌}
use Rattle.std.specs.Prelude.{slice_get, Option, Some, None}
use Rattle.std.proofs.Common.{arith, subst}
use Rattle.std.proofs.lemmas.Bool.Decides.{nat_tests}
use Rattle.mt_base.specs.Memory.{is_between}
use Rattle.c_ast.specs.declared.int_type.IntType.TheVariants as int
use Rattle.c_type_base.specs.declared.ty.Ty.TheVariants as ty
use Rattle.c_type_base.specs.declared.typed.LocalInfo.{LocalInfo}
use Rattle.c_type_base.specs.declared.typed.TFunction.{TFunction}
use Rattle.slot_safety.specs.declared.kind.Kind.TheVariants.{Safe}
use Rattle.frame_layout.specs.declared.frame.Slot.{Slot}
use Rattle.frame_layout.specs.Frames.{frame}
use Rattle.a64_code.specs.State.{State}
use Rattle.block_meaning.specs.declared.kind.Kind.TheVariants.{Code, Local}
use Rattle.block_meaning.specs.Blocks.{Block, null_block, block_of}
use Rattle.block_meaning.specs.Running.{Call, Program, Context, State as MeaningState}
use Rattle.block_meaning.specs.Values.{number_cells}
use Rattle.code_relation.specs.Calls.{stack_end}
use Rattle.code_relation.specs.Sites.{Given, site}
use Rattle.code_relation.proofs.Empty.{machine as empty}

-- the slot, behind the saved pair and the base word
abbrev pub slot : Slot
slot = record { start = 24; bytes = 4; kind = Safe; index = 0; inner = false }

-- the function: one local, an int, in a frame of two granules
pub record HasOneSlot (f : TFunction) : Type 0 where
  pub info : LocalInfo
  pub locals_are : f.locals ≡ info ∷ []
  pub int_is : info.ty ≡ ty.Int int.Int
  pub slots_are : (frame [] f).slots ≡ slot ∷ []
  pub bytes_are : (frame [] f).bytes ≡ 32

abbrev pub call : Call
call = record { number = 0; function = record { unit = 0; number = 0 }; place = 32 }

-- where the int starts
abbrev pub place : ℕ
place = stack_end - 8

abbrev pub machine : State
machine = record empty { sp = stack_end - 32; byte = λ a. (if nat_eq a place then 7 else 0) }

abbrev pub code_block : Block
code_block = block_of (Code 0 0) []

abbrev pub local_block : Block
local_block = block_of (Local 0 0) (number_cells 4 7)

abbrev pub blocks : List Block
blocks = null_block ∷ code_block ∷ local_block ∷ []

abbrev pub now : MeaningState
now = record { blocks = blocks; work = 5; input = []; output = []; calls = call ∷ [] }

abbrev pub program : TFunction → Program
program f = record {
  units = record { structs = []; globals = []; functions = f ∷ []; externs = []; texts = [] } ∷ [];
  frames = (32 ∷ []) ∷ [];
  stack = 1024;
}

abbrev pub given : TFunction → Given
given f = record { program = program f; loaded = machine; starts = λ number. site 0x10000000 0; first = 0 }

-- the block of the one local
abbrev pub block_of_number : ℕ → Option ℕ
block_of_number zero = Some 2
block_of_number (suc k) = None

abbrev pub here : TFunction → Context
here f = record { program = program f; unit = 0; open_calls = call ∷ []; local = block_of_number }

-- ---- the blocks

pub data Each : ℕ → Block → Type 0 where
  the_null : Each 0 null_block
  the_code : Each 1 code_block
  the_local : Each 2 local_block

pub each : (number : ℕ) (b : Block) → slice_get blocks number ≡ Some b → Each number b
each zero b is = subst (λ c. Each 0 c) (let e : null_block ≡ b = cc in e) the_null
each (suc zero) b is = subst (λ c. Each 1 c) (let e : code_block ≡ b = cc in e) the_code
each (suc (suc zero)) b is = subst (λ c. Each 2 c) (let e : local_block ≡ b = cc in e) the_local
each (suc (suc (suc number))) b is = absurd (cc)

pub nothing_between : (start a : ℕ) → is_between start 0 a ≡ true → ⊥
nothing_between start a has = grind (arith, nat_tests)
