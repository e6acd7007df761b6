-- Values that wait for others in the temps of a frame: the words from 24 on (this project's own).
use Rattle.std.specs.Prelude.{ℕ, ◌+◌, ◌*◌, nat_lt, true, List, [], ◌∷◌, ◌++◌, if◌then◌else◌}
use Rattle.a64_code.specs.declared.instr.Instr.{Instr}
use Rattle.a64_code.specs.declared.instr.Instr.TheVariants.{Ldr, Str}
use Rattle.a64_code.specs.declared.instr.Reg.{Reg}
use Rattle.a64_laws.specs.Forms.{stack_pointer}
use Rattle.tag_plan.specs.Lists.{offset_from}
use Rattle.gen_base.specs.Registers.{left}

-- the offset of a temp from SP, in bytes
abbrev pub temp_offset : ℕ → ℕ
temp_offset t = 24 + 8 * t

-- a register is kept in a temp: beyond the reach of a store its address is made first
abbrev pub keep : ℕ → Reg → List Instr
keep t r =
    if nat_lt (3 + t) 4096 then Str true (3 + t) stack_pointer r ∷ []
    else offset_from stack_pointer (temp_offset t) left ++ Str true 0 left r ∷ []

-- what a temp keeps comes into a register
abbrev pub fetch : ℕ → Reg → List Instr
fetch t r =
    if nat_lt (3 + t) 4096 then Ldr true (3 + t) stack_pointer r ∷ []
    else offset_from stack_pointer (temp_offset t) r ++ Ldr true 0 r r ∷ []
