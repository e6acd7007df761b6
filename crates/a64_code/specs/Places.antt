-- The places of fields. A register has five bits. Where it is the stack pointer by the number 31, the place says so.
use Rattle.std.specs.Prelude.{ℕ, Some, None}
use Rattle.a64_code.specs.declared.register.RegisterField.{RegisterField}
use Rattle.a64_code.specs.declared.register.RegisterField.TheVariants.{Rd, Rn, Rt}
use Rattle.a64_code.specs.Line.{FieldPlace, Number, Register}

-- a number from a bit on, of so many bits
abbrev number : ℕ → ℕ → FieldPlace
number low width = record { low = low; wide = width; narrow = width; held = Number; sp = None }

-- a number of so many bits in the form on 64 bits, and of so many in that on 32
abbrev number_by_width : ℕ → ℕ → ℕ → FieldPlace
number_by_width low wide narrow = record { low = low; wide = wide; narrow = narrow; held = Number; sp = None }

-- a register whose number 31 reads as zero
abbrev register : ℕ → FieldPlace
register low = record { low = low; wide = 5; narrow = 5; held = Register; sp = None }

-- a register whose number 31 is the stack pointer
abbrev register_or_sp : ℕ → RegisterField → FieldPlace
register_or_sp low field = record { low = low; wide = 5; narrow = 5; held = Register; sp = Some field }

-- the register that is written
abbrev pub rd : FieldPlace
rd = register 0

-- the same, or SP
abbrev pub rd_sp : FieldPlace
rd_sp = register_or_sp 0 Rd

-- the register that is loaded, stored or tested
abbrev pub rt : FieldPlace
rt = register 0

-- the same, or SP
abbrev pub rt_sp : FieldPlace
rt_sp = register_or_sp 0 Rt

-- the first register that is read
abbrev pub rn : FieldPlace
rn = register 5

-- the same or a base, or SP
abbrev pub rn_sp : FieldPlace
rn_sp = register_or_sp 5 Rn

-- the third register that is read
abbrev pub ra : FieldPlace
ra = register 10

-- the second register of a pair
abbrev pub rt2 : FieldPlace
rt2 = register 10

-- the second register that is read
abbrev pub rm : FieldPlace
rm = register 16

-- the place of a halfword, in halfwords
abbrev pub hw : FieldPlace
hw = number_by_width 21 2 1

-- the rotation of a bit-field move
abbrev pub immr : FieldPlace
immr = number_by_width 16 6 5

-- the last bit of a bit-field move
abbrev pub imms : FieldPlace
imms = number_by_width 10 6 5

-- whether a number is shifted by 12 bits
abbrev pub sh : FieldPlace
sh = number 22 1

-- the offset of a pair, signed, in 8 bytes
abbrev pub imm7 : FieldPlace
imm7 = number 15 7

-- a number, or an offset in units of what is loaded or stored
abbrev pub imm12 : FieldPlace
imm12 = number 10 12

-- a halfword, or the number of a service
abbrev pub imm16 : FieldPlace
imm16 = number 5 16

-- the distance of a branch on a condition, signed, in words
abbrev pub imm19 : FieldPlace
imm19 = number 5 19

-- the distance of a branch, signed, in words
abbrev pub imm26 : FieldPlace
imm26 = number 0 26

-- the lower two bits of a distance in pages
abbrev pub immlo : FieldPlace
immlo = number 29 2

-- the upper bits of a distance in pages, which is signed
abbrev pub immhi : FieldPlace
immhi = number 5 19

-- the condition of a selection
abbrev pub cond : FieldPlace
cond = number 12 4

-- the condition of a branch
abbrev pub branch_cond : FieldPlace
branch_cond = number 0 4

-- an offset in granules
abbrev pub uimm6 : FieldPlace
uimm6 = number 16 6

-- an offset in tags
abbrev pub uimm4 : FieldPlace
uimm4 = number 10 4

-- an offset in granules, signed
abbrev pub simm9 : FieldPlace
simm9 = number 12 9
