-- Where register 31 is the stack pointer. Elsewhere it reads as zero, and what is written to it is dropped. (Arm ARM,
-- C1.2.5 and the pages of C6.2)
use Rattle.std.specs.Prelude.{Bool, true, false, ◌||◌, Option, Some, List, [], ◌∷◌}
use Rattle.a64_code.specs.declared.instr.Instr.{Instr}
use Rattle.a64_code.specs.declared.register.RegisterField.{RegisterField}
use Rattle.a64_code.specs.declared.register.RegisterField.TheVariants.{Rd, Rn, Rt}
use Rattle.a64_code.specs.Line.{FieldPlace}
use Rattle.a64_code.specs.Table.{entry}

-- Whether a mark is that of this field. No other field than these three is the stack pointer anywhere.
abbrev pub is_sp : Option RegisterField → RegisterField → Bool
is_sp (Some Rd) Rd = true
is_sp (Some Rn) Rn = true
is_sp (Some Rt) Rt = true
is_sp _ _ = false

-- Whether one of some fields is marked so.
abbrev pub any_sp : RegisterField → List FieldPlace → Bool
any_sp field [] = false
any_sp field (p ∷ ps) = is_sp p.sp field || any_sp field ps

-- Whether the table marks this field of an instruction.
abbrev pub takes_sp : Instr → RegisterField → Bool
takes_sp instr field = any_sp field (entry instr).form.line.places
