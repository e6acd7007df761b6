-- Loads and stores of scalars, by their types (this project's own).
use Rattle.std.specs.Prelude.{ℕ, ◌*◌, ◌/◌, nat_lt, Bool, Option, Some, None, if◌then◌else◌}
use Rattle.c_ast.specs.declared.int_type.IntType.{IntType}
use Rattle.c_ast.specs.declared.int_type.IntType.TheVariants as int
use Rattle.c_type_base.specs.declared.ty.Ty.{Ty, out-Ty}
use Rattle.c_type_base.specs.declared.ty.Ty.TheOpen.{Ty-F}
use Rattle.c_type_base.specs.Types.{TyLayer, is_scalar}
use Rattle.a64_code.specs.declared.instr.Instr.{Instr}
use Rattle.a64_code.specs.declared.instr.Reg.{Reg}
use Rattle.a64_laws.specs.Forms.{Load, Whole, Word, Half, Byte, SignedWord, SignedHalf, SignedByte, load_size, load_instr, stack_pointer}
use Rattle.a64_laws.specs.Forms.{Store, StoreWhole, StoreWord, StoreHalf, StoreByte, store_size, store_instr}
use Rattle.frame_layout.specs.declared.frame.Slot.{Slot}
use Rattle.frame_layout.specs.WellFormed.{is_tagged_slot}

-- ---- by types

abbrev pub load_of_int : IntType → Load
load_of_int int.Char = Byte
load_of_int int.SignedChar = SignedByte
load_of_int int.UnsignedChar = Byte
load_of_int int.Short = SignedHalf
load_of_int int.UShort = Half
load_of_int int.Int = SignedWord
load_of_int int.UInt = Word
load_of_int int.Long = Whole
load_of_int int.ULong = Whole

abbrev pub load_of_level : TyLayer → Load
load_of_level (Ty-F.Int t) = load_of_int t
load_of_level _ = Whole

-- of an integer or a pointer
abbrev pub load_of : Ty → Load
load_of t = load_of_level (out-Ty t)

abbrev pub store_of_load : Load → Store
store_of_load Whole = StoreWhole
store_of_load Word = StoreWord
store_of_load Half = StoreHalf
store_of_load Byte = StoreByte
store_of_load SignedWord = StoreWord
store_of_load SignedHalf = StoreHalf
store_of_load SignedByte = StoreByte

abbrev pub store_of : Ty → Store
store_of t = store_of_load (load_of t)

-- ---- where a scalar stands

pub data Where : Type 0 where
  -- so many bytes above SP
  OnStack : ℕ → Where
  -- at the address in a register
  Behind : Reg → Where

abbrev pub load_from : Load → Where → Reg → Instr
load_from l (OnStack offset) r = load_instr l (offset / load_size l) stack_pointer r
load_from l (Behind p) r = load_instr l 0 p r

abbrev pub store_to : Store → Where → Reg → Instr
store_to w (OnStack offset) r = store_instr w (offset / store_size w) stack_pointer r
store_to w (Behind p) r = store_instr w 0 p r

-- a scalar of a type comes into a register, or is what a register has
abbrev pub load_scalar : Ty → Where → Reg → Instr
load_scalar t = load_from (load_of t)

abbrev pub store_scalar : Ty → Where → Reg → Instr
store_scalar t = store_to (store_of t)

-- the start of a safe slot that loads and stores of a scalar reach from SP
abbrev pub reached_slot : Ty → Slot → Option ℕ
reached_slot t s = if is_tagged_slot s then None else (if nat_lt s.start (4096 * load_size (load_of t)) then Some s.start else None)

abbrev pub reached_by : Bool → Ty → Option Slot → Option ℕ
reached_by scalar t None = None
reached_by scalar t (Some s) = if scalar then reached_slot t s else None

abbrev pub reached : Ty → Option Slot → Option ℕ
reached t s = reached_by (is_scalar t) t s
