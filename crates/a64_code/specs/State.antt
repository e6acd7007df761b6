-- The state that an instruction reads and changes: the registers, the flags and the memory of a process (Arm ARM, the
-- AArch64 application level programmers' model), with memory seen as functions of the address, and what the outside has.
use Rattle.std.specs.Prelude.{ℕ, zero, suc, ◌+◌, ◌%◌, ◌^◌, ◌==◌, Bool, true, false, not, ◌&&◌, nat_lt, if◌then◌else◌, List, length}
use Rattle.mt_base.specs.Memory.{Span, Extent, store_tag}
use Rattle.a64_alu.specs.declared.flags.Flags.{Flags}
pub use Rattle.a64_alu.specs.Width.{of_width}
use Rattle.a64_code.specs.declared.instr.Reg.{Reg}
use Rattle.a64_code.specs.Outside.{Outside}

-- The numbers have no bounds here; `IsInRange` says which they keep: those in registers are below 2 ^ 64, bytes below 2 ^ 8,
-- and tags and choices below 16.
pub record State : Type 0 where
  -- X0 to X30 by number
  pub register : ℕ → ℕ
  -- the stack pointer
  pub sp : ℕ
  -- the address of the instruction that comes next
  pub pc : ℕ
  -- N, Z, C and V of PSTATE
  pub flags : Flags
  -- the byte at an address, and the allocation tag of the granule with a number
  pub byte : ℕ → ℕ
  pub tag : ℕ → ℕ
  -- where memory is, with its rights, and the addresses that no access may touch; no step changes them
  pub regions : List Extent
  pub guard : Span
  -- the random tags, of which each IRG draws one, and how many were drawn, modulo the length of the list
  pub choices : List ℕ
  pub drawn : ℕ
  pub outside : Outside

-- ---- registers

-- a general register, where the number 31 reads as zero (`X[n]` of the Arm ARM)
abbrev pub general : State → Reg → ℕ
general s r = if nat_lt r.0 31 then s.register r.0 else 0

-- a general register, or the stack pointer where the number is 31 (`X[n]` and `SP[]`)
abbrev pub general_or_sp : State → Reg → ℕ
general_or_sp s r = if nat_lt r.0 31 then s.register r.0 else s.sp

-- the numbers with another one at a place
abbrev pub with_value : (ℕ → ℕ) → ℕ → ℕ → ℕ → ℕ
with_value f place value = λ i. if i == place then value else f i

-- the state with this number in a general register, where a write to the number 31 is dropped
abbrev pub with_general : Reg → ℕ → State → State
with_general r value s = if nat_lt r.0 31 then record s { register = with_value s.register r.0 value } else s

-- the state with this number in a general register, or in the stack pointer where the number is 31
abbrev pub with_general_or_sp : Reg → ℕ → State → State
with_general_or_sp r value s =
    if nat_lt r.0 31 then record s { register = with_value s.register r.0 value } else record s { sp = value }

-- the register of a field that takes the number 31 for the stack pointer, or of one that does not
abbrev pub operand : Bool → State → Reg → ℕ
operand true = general_or_sp
operand false = general

abbrev pub with_operand : Bool → Reg → ℕ → State → State
with_operand true = with_general_or_sp
with_operand false = with_general

-- the register of such a field is the stack pointer
abbrev pub is_sp : Bool → Reg → Bool
is_sp takes r = takes && not (nat_lt r.0 31)

-- ---- the other parts

-- the state with these flags
abbrev pub with_flags : Flags → State → State
with_flags flags s = record s { flags = flags }

-- the state with other bytes in memory
abbrev pub with_bytes : (ℕ → ℕ) → State → State
with_bytes byte s = record s { byte = byte }

-- the state with other tags in memory
abbrev pub with_tags : (ℕ → ℕ) → State → State
with_tags tag s = record s { tag = tag }

-- the tags of memory with this one at so many granules from an address on
abbrev pub tagged : ℕ → (ℕ → ℕ) → ℕ → ℕ → ℕ → ℕ
tagged zero tag at value = tag
tagged (suc granules) tag at value = tagged granules (store_tag tag at value) (at + 16) value

-- the state behind a choice that was drawn
abbrev pub with_choice_drawn : State → State
with_choice_drawn s = record s { drawn = (s.drawn + 1) % length s.choices }

-- the state with another outside
abbrev pub with_outside : Outside → State → State
with_outside outside s = record s { outside = outside }

-- ---- the next instruction

-- the state at this address
abbrev pub at_pc : ℕ → State → State
at_pc address s = record s { pc = address }

-- the state at the next instruction, four bytes on, modulo 2 ^ 64
abbrev pub advanced : State → State
advanced s = at_pc ((s.pc + 4) % 2 ^ 64) s
