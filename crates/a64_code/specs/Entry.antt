-- An instruction as the table has it: its row, and the values of its fields.
use Rattle.std.specs.Prelude.{ℕ, Bool, true, not, ◌||◌, Option, Some, None, List, [], ◌∷◌, ◌⊎◌}
use Rattle.std.proofs.Common.{inl, inr}
use Rattle.a64_code.specs.declared.instr.Instr.{Instr}
use Rattle.a64_code.specs.Line.{Held, Number, Register, Value, FieldPlace, Makes, Line, has_narrow}

-- A row of the table: a line in one of its forms. What has one form counts as wide.
pub record Form : Type 0 where
  pub line : Line
  pub wide : Bool

-- A line's row of a form.
abbrev pub form : Bool → Line → Form
form wide l = record { line = l; wide = not (has_narrow l) || wide }

-- A row with the values of its fields.
pub record Entry : Type 0 where
  pub form : Form
  pub values : List ℕ

-- The values of some fields.
abbrev pub Values : List FieldPlace → Type 0
Values [] = Unit {0}
Values (p ∷ ps) = Value p.held × Values ps

-- What an instruction of a line holds: its form, where the line has two, and its fields.
abbrev pub Given : Option ℕ → List FieldPlace → Type 0
Given (Some w) ps = Bool × Values ps
Given None ps = Values ps

-- What an instruction of one of some lines holds: which of the lines, and what that has.
abbrev pub Choice : List Line → Type 0
Choice [] = ⊥
Choice (l ∷ ls) = Given l.narrow l.places ⊎ Choice ls

-- A value as a number, where a register is its number.
abbrev pub number_of : (h : Held) → Value h → ℕ
number_of Number n = n
number_of Register r = r.0

-- The values in the order of the fields.
abbrev pub numbers : (ps : List FieldPlace) → Values ps → List ℕ
numbers [] v = []
numbers (p ∷ ps) v = number_of p.held v.0 ∷ numbers ps v.1

-- The row and the values of what an instruction of a line holds,
abbrev pub entry_of : (l : Line) (narrow : Option ℕ) → Given narrow l.places → Entry
entry_of l (Some w) g = record { form = form g.0 l; values = numbers l.places g.1 }
entry_of l None g = record { form = form true l; values = numbers l.places g }

-- and of what one of some lines holds.
abbrev pub entry_in : (ls : List Line) → Choice ls → Entry
entry_in [] c = absurd c
entry_in (l ∷ ls) (inl g) = entry_of l l.narrow g
entry_in (l ∷ ls) (inr c) = entry_in ls c

-- A value by its number.
abbrev pub value_of : (h : Held) → ℕ → Value h
value_of Number n = n
value_of Register n = record { 0 = n }

-- The instruction whose fields have these numbers, and zeros where numbers are wanting.
abbrev pub made_by : (ps : List FieldPlace) → Makes ps → List ℕ → Instr
made_by [] makes v = makes
made_by (p ∷ ps) makes [] = made_by ps (makes (value_of p.held 0)) []
made_by (p ∷ ps) makes (n ∷ v) = made_by ps (makes (value_of p.held n)) v

-- The instruction of a row.
abbrev pub made : Form → List ℕ → Instr
made f v = made_by f.line.places (f.line.makes f.wide) v
