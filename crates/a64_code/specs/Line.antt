-- The lines of the table of instructions.
use Rattle.std.specs.Prelude.{ℕ, Bool, true, false, Option, Some, None, List, [], ◌∷◌}
use Rattle.a64_code.specs.declared.instr.Instr.{Instr}
use Rattle.a64_code.specs.declared.instr.Reg.{Reg}
use Rattle.a64_code.specs.declared.register.RegisterField.{RegisterField}

-- What a field of an instruction is: a number, or a register.
pub data Held : Type 0 where
  Number : Held
  Register : Held

-- The values of such a field.
abbrev pub Value : Held → Type 0
Value Number = ℕ
Value Register = Reg

-- The place of a field: its lowest bit, its number of bits in the form on 64 bits and in that on 32, what it holds, and for a
-- register as which field the number 31 is the stack pointer.
pub record FieldPlace : Type 0 where
  pub low : ℕ
  pub wide : ℕ
  pub narrow : ℕ
  pub held : Held
  pub sp : Option RegisterField

-- An instruction, where the values of its fields are given.
abbrev pub Makes : List FieldPlace → Type 0
Makes [] = Instr
Makes (p ∷ ps) = Value p.held → Makes ps

-- The number for the form on 64 bits, or that for the form on 32 bits.
abbrev pub by_width : Bool → ℕ → ℕ → ℕ
by_width true x w = x
by_width false x w = w

-- A line: the base word of the form on 64 bits, or of the one form; that of the form on 32 bits, where there is one; the fields
-- from the highest bit down; and the instruction of a form (true for 64 bits) and of the fields' values.
pub record Line : Type 0 where
  pub base : ℕ
  pub narrow : Option ℕ
  pub places : List FieldPlace
  pub makes : Bool → Makes places

-- A line of two forms.
abbrev pub both : ℕ → ℕ → (ps : List FieldPlace) → (Bool → Makes ps) → Line
both x w ps makes = record { base = x; narrow = Some w; places = ps; makes = makes }

-- A line of one form.
abbrev pub one : ℕ → (ps : List FieldPlace) → Makes ps → Line
one x ps makes = record { base = x; narrow = None; places = ps; makes = λ _. makes }

-- Whether a line has a form on 32 bits.
abbrev pub has_narrow : Line → Bool
has_narrow l = elim l.narrow as (λ _. Bool) [ None ↦ false | Some w ↦ true ]
