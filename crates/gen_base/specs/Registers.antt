-- The registers of code, and moves between them (this project's own). A value comes into one of X9 to X15; X16 and X17 are scratch.
use Rattle.std.specs.Prelude.{ℕ, ◌%◌, true, List, [], ◌∷◌}
use Rattle.a64_code.specs.declared.instr.Instr.{Instr}
use Rattle.a64_code.specs.declared.instr.Instr.TheVariants.{Nop}
use Rattle.a64_code.specs.declared.instr.Reg.{Reg}
use Rattle.a64_laws.specs.Forms.{zero_register, Or, operation_instr}

-- the first operand
abbrev pub left : Reg
left = record { 0 = 16 }

-- a place in memory, a size, or a quotient
abbrev pub scratch : Reg
scratch = record { 0 = 17 }

-- the register of an argument, by its number: a call has eight at most
abbrev pub argument : ℕ → Reg
argument k = record { 0 = k % 8 }

-- where the value of a call comes back
abbrev pub returned : Reg
returned = argument 0

-- the number of a register into another one
abbrev pub move : Reg → Reg → Instr
move from into = operation_instr Or true from zero_register into

-- instructions of which there is one at least, for a unit of work that they pay
abbrev pub paying : List Instr → List Instr
paying [] = Nop ∷ []
paying (i ∷ is) = i ∷ is
