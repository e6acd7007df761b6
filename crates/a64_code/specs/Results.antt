-- Instructions that put the result of an operation into a register: what they read, and what they compute of it (`X[]`
-- and `SP[]` of the Arm ARM, and on the pages of SUBS, MOVK and CSINC).
-- Each takes `sp`, which says of a field whether the number 31 is the stack pointer there.
use Rattle.std.specs.Prelude.{ℕ, ◌+◌, ◌*◌, ◌/◌, ◌%◌, ◌^◌, Bool, if◌then◌else◌}
use Rattle.mt_base.specs.Wrapping.{wrapping_add}
use Rattle.a64_alu.specs.Width.{width}
use Rattle.a64_alu.specs.Adding.{subtract_with_flags}
use Rattle.a64_code.specs.declared.instr.Reg.{Reg}
use Rattle.a64_code.specs.declared.register.RegisterField.{RegisterField}
use Rattle.a64_code.specs.declared.register.RegisterField.TheVariants.{Rd, Rn, Rm, Ra}
use Rattle.a64_code.specs.State.{State, operand, of_width}
use Rattle.a64_code.specs.Shape.{Result, Shape, Puts, PutsWithFlags}

-- the number of an operand: all of its register, or the lower 32 bits (`X[n, datasize]`)
abbrev pub number : Bool → Bool → State → Reg → ℕ
number takes_sp wide s r = of_width wide (operand takes_sp s r)

-- a number for a register, where one of 32 bits clears the upper half
abbrev pub result_of : Bool → Bool → Reg → ℕ → Result
result_of takes_sp wide r value = record { takes_sp = takes_sp; register = r; value = of_width wide value }

-- the result goes into the register
abbrev pub puts : Bool → Bool → Reg → ℕ → Shape
puts takes_sp wide r value = Puts (result_of takes_sp wide r value)

-- Rd becomes the result of an operation on Rn and Rm, in so many bits
abbrev pub of_two : (RegisterField → Bool) → (ℕ → ℕ → ℕ → ℕ) → Bool → Reg → Reg → Reg → State → Shape
of_two sp operation wide rm rn rd s =
    puts (sp Rd) wide rd (operation (width wide) (number (sp Rn) wide s rn) (number (sp Rm) wide s rm))

-- Rd becomes the result of an operation on Rn and a number
abbrev pub of_number : (RegisterField → Bool) → (ℕ → ℕ → ℕ → ℕ) → Bool → ℕ → Reg → Reg → State → Shape
of_number sp operation wide immediate rn rd s = puts (sp Rd) wide rd (operation (width wide) (number (sp Rn) wide s rn) immediate)

-- Rd becomes the result of an operation on Rn, Rm and Ra
abbrev pub of_three : (RegisterField → Bool) → (ℕ → ℕ → ℕ → ℕ → ℕ) → Bool → Reg → Reg → Reg → Reg → State → Shape
of_three sp operation wide rm ra rn rd s =
    puts (sp Rd) wide rd (operation (width wide) (number (sp Rn) wide s rn) (number (sp Rm) wide s rm) (number (sp Ra) wide s ra))

-- an immediate of 12 bits, shifted by 12 where `sh` is 1
abbrev pub shifted_immediate : ℕ → ℕ → ℕ
shifted_immediate sh imm12 = imm12 * 2 ^ (12 * sh)

-- SUBS: Rd becomes the difference of two numbers, and the flags are those of the subtraction
abbrev pub subtracts : Bool → Bool → Reg → ℕ → ℕ → Shape
subtracts takes_sp wide rd x y =
    PutsWithFlags (subtract_with_flags (width wide) x y).1 (result_of takes_sp wide rd (subtract_with_flags (width wide) x y).0)

-- a number with the 16 bits from a place on replaced: what lies below, the new bits, and what lies above
abbrev pub with_halfword : ℕ → ℕ → ℕ → ℕ
with_halfword place bits value = value % 2 ^ place + bits * 2 ^ place + value / 2 ^ (place + 16) * 2 ^ (place + 16)

-- CSINC: one number where the condition holds, else the successor of the other
abbrev pub chosen_or_next : Bool → ℕ → ℕ → ℕ → ℕ
chosen_or_next holds k x y = if holds then x else wrapping_add k y 1
