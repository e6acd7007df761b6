-- The states that instructions lead to, and the kinds of loads and stores (this project's own).
use Rattle.std.specs.Prelude.{◌≡◌, ◌≢◌, ◌⊎◌, ℕ, ◌+◌, ◌%◌, ◌^◌, Bool, true, false, length, bit_and, bit_or, bit_xor}
use Rattle.mt_base.specs.Wrapping.{wrapping_add, wrapping_sub}
use Rattle.mt_base.specs.Granules.{granule_of}
use Rattle.mt_base.specs.Pointers.{tag_of, address_of}
use Rattle.mt_base.specs.Extension.{sign_extend}
use Rattle.a64_code.specs.declared.instr.Instr.{Instr}
use Rattle.a64_code.specs.declared.instr.Instr.TheVariants.{AddReg, SubReg, AndReg, OrrReg, EorReg, Lslv, Lsrv, Asrv, Udiv, Sdiv, Ldr}
use Rattle.a64_code.specs.declared.instr.Instr.TheVariants.{Str, Ldrb, Strb, Ldrh, Strh, Ldrsw, Ldrsb, Ldrsh}
use Rattle.a64_code.specs.declared.instr.Reg.{Reg}
use Rattle.a64_code.specs.Outside.{Outside}
use Rattle.a64_code.specs.State.{State, with_value}
use Rattle.a64_code.specs.Effect.{on_bits}
use Rattle.a64_alu.specs.declared.flags.Flags.{Flags}
use Rattle.a64_alu.specs.Dividing.{divide_unsigned, divide_signed}
use Rattle.a64_alu.specs.Shifting.{shift_left_by, shift_right_by, arithmetic_shift_right_by}

-- ---- registers

-- the stack pointer, in a field that takes the number 31 for it
abbrev pub stack_pointer : Reg
stack_pointer = record { 0 = 31 }

-- the number 31 elsewhere, which reads as zero
abbrev pub zero_register : Reg
zero_register = record { 0 = 31 }

-- X0, which a service reads and writes
abbrev pub x0 : Reg
x0 = record { 0 = 0 }

-- ---- states, as closed words: goals show them by name, and `Laws.Fields` says what each field is

-- PC at the next instruction, and all else as it was
unfoldable pub next : State → State
next s = record s { pc = (s.pc + 4) % 2 ^ 64 }

-- this number in one of X0 to X30, and PC at the next instruction
unfoldable pub puts_register : Reg → ℕ → State → State
puts_register r value s = record s { register = with_value s.register r.0 value; pc = (s.pc + 4) % 2 ^ 64 }

-- two numbers, where the second stays if both registers are one
unfoldable pub puts_registers : Reg → ℕ → Reg → ℕ → State → State
puts_registers r value q other s = record s { register = with_value (with_value s.register r.0 value) q.0 other; pc = (s.pc + 4) % 2 ^ 64 }

-- the same of SP, of the flags, of the bytes of memory and of its tags
unfoldable pub puts_sp : ℕ → State → State
puts_sp value s = record s { sp = value; pc = (s.pc + 4) % 2 ^ 64 }

unfoldable pub puts_flags : Flags → State → State
puts_flags flags s = record s { flags = flags; pc = (s.pc + 4) % 2 ^ 64 }

unfoldable pub puts_bytes : (ℕ → ℕ) → State → State
puts_bytes byte s = record s { byte = byte; pc = (s.pc + 4) % 2 ^ 64 }

unfoldable pub puts_tags : (ℕ → ℕ) → State → State
puts_tags tag s = record s { tag = tag; pc = (s.pc + 4) % 2 ^ 64 }

-- PC at an address, with nothing else changed or with the address behind the branch in X30
unfoldable pub puts_pc : ℕ → State → State
puts_pc address s = record s { pc = address }

unfoldable pub puts_link : ℕ → State → State
puts_link address s = record s { register = with_value s.register 30 ((s.pc + 4) % 2 ^ 64); pc = address }

-- other tags of memory, another outside, and a choice drawn, with PC left as it is
unfoldable pub with_tags : (ℕ → ℕ) → State → State
with_tags tag s = record s { tag = tag }

unfoldable pub with_outside : Outside → State → State
with_outside outside s = record s { outside = outside }

unfoldable pub draws_choice : State → State
draws_choice s = record s { drawn = (s.drawn + 1) % length s.choices }

-- ---- pointers and memory

-- the number is a pointer to this address with this tag; above the tag there may be anything
pub record Points (pointer at tag : ℕ) : Type 0 where
  pub is_at : address_of pointer ≡ at
  pub has_tag : tag_of pointer ≡ tag

-- the granules of the 16 bytes of a pair have this tag: that of the first byte and that of the last
pub record PairAgrees (s : State) (at tag : ℕ) : Type 0 where
  pub first : s.tag (granule_of at) ≡ tag
  pub last : s.tag (granule_of (at + 15)) ≡ tag

-- the first of them that has another tag has this one
abbrev pub PairDiffers : State → ℕ → ℕ → ℕ → Type 0
PairDiffers s at tag found =
    ((s.tag (granule_of at) ≡ found) × (found ≢ tag))
    ⊎ ((s.tag (granule_of at) ≡ tag) × (s.tag (granule_of (at + 15)) ≡ found) × (found ≢ tag))

-- regions and guard are the same in both states
pub record SameRegions (s t : State) : Type 0 where
  pub regions : t.regions ≡ s.regions
  pub guard : t.guard ≡ s.guard

-- ---- kinds of loads and stores

-- a load of 8, 4, 2 or 1 bytes with zeros above, or of 4, 2 or 1 with the sign above, into 64 bits
pub data Load : Type 0 where
  Whole : Load
  Word : Load
  Half : Load
  Byte : Load
  SignedWord : Load
  SignedHalf : Load
  SignedByte : Load

abbrev pub load_size : Load → ℕ
load_size Whole = 8
load_size Word = 4
load_size Half = 2
load_size Byte = 1
load_size SignedWord = 4
load_size SignedHalf = 2
load_size SignedByte = 1

-- the number in the register, of the number in memory
abbrev pub extended : Load → ℕ → ℕ
extended Whole value = value
extended Word value = value
extended Half value = value
extended Byte value = value
extended SignedWord value = sign_extend 32 64 value
extended SignedHalf value = sign_extend 16 64 value
extended SignedByte value = sign_extend 8 64 value

-- with an unsigned offset in units of that size, the base and the register
abbrev pub load_instr : Load → ℕ → Reg → Reg → Instr
load_instr Whole imm12 rn rt = Ldr true imm12 rn rt
load_instr Word imm12 rn rt = Ldr false imm12 rn rt
load_instr Half imm12 rn rt = Ldrh imm12 rn rt
load_instr Byte imm12 rn rt = Ldrb imm12 rn rt
load_instr SignedWord imm12 rn rt = Ldrsw imm12 rn rt
load_instr SignedHalf imm12 rn rt = Ldrsh imm12 rn rt
load_instr SignedByte imm12 rn rt = Ldrsb imm12 rn rt

-- a store of 8, 4, 2 or 1 bytes
pub data Store : Type 0 where
  StoreWhole : Store
  StoreWord : Store
  StoreHalf : Store
  StoreByte : Store

abbrev pub store_size : Store → ℕ
store_size StoreWhole = 8
store_size StoreWord = 4
store_size StoreHalf = 2
store_size StoreByte = 1

abbrev pub store_instr : Store → ℕ → Reg → Reg → Instr
store_instr StoreWhole imm12 rn rt = Str true imm12 rn rt
store_instr StoreWord imm12 rn rt = Str false imm12 rn rt
store_instr StoreHalf imm12 rn rt = Strh imm12 rn rt
store_instr StoreByte imm12 rn rt = Strb imm12 rn rt

-- ---- operations on two registers

pub data Operation : Type 0 where
  Add : Operation
  Sub : Operation
  And : Operation
  Or : Operation
  Xor : Operation
  ShiftLeft : Operation
  ShiftRight : Operation
  ShiftRightSigned : Operation
  DivideUnsigned : Operation
  DivideSigned : Operation

-- at either width, with the second operand, the first one and the register of the result
abbrev pub operation_instr : Operation → Bool → Reg → Reg → Reg → Instr
operation_instr Add wide rm rn rd = AddReg wide rm rn rd
operation_instr Sub wide rm rn rd = SubReg wide rm rn rd
operation_instr And wide rm rn rd = AndReg wide rm rn rd
operation_instr Or wide rm rn rd = OrrReg wide rm rn rd
operation_instr Xor wide rm rn rd = EorReg wide rm rn rd
operation_instr ShiftLeft wide rm rn rd = Lslv wide rm rn rd
operation_instr ShiftRight wide rm rn rd = Lsrv wide rm rn rd
operation_instr ShiftRightSigned wide rm rn rd = Asrv wide rm rn rd
operation_instr DivideUnsigned wide rm rn rd = Udiv wide rm rn rd
operation_instr DivideSigned wide rm rn rd = Sdiv wide rm rn rd

-- what it gives of two numbers of so many bits
abbrev pub result_of : Operation → ℕ → ℕ → ℕ → ℕ
result_of Add = wrapping_add
result_of Sub = wrapping_sub
result_of And = on_bits bit_and
result_of Or = on_bits bit_or
result_of Xor = on_bits bit_xor
result_of ShiftLeft = shift_left_by
result_of ShiftRight = shift_right_by
result_of ShiftRightSigned = arithmetic_shift_right_by
result_of DivideUnsigned = on_bits divide_unsigned
result_of DivideSigned = divide_signed
