-- What each instruction does: the operation on its page of the Arm ARM, C6.2. The fields are taken to be within their
-- widths, as those of a word are: of others MOVZ and MOVK make a number that may not fit a register (`MoveFits`).
use Rattle.std.specs.Prelude.{ℕ, ◌+◌, ◌*◌, ◌^◌, ◌==◌, Bool, not, bit_and, bit_or, bit_xor, true}
use Rattle.mt_base.specs.Wrapping.{wrapping_add, wrapping_sub}
use Rattle.mt_base.specs.Extension.{sign_extend}
use Rattle.a64_alu.specs.Width.{width, invert}
use Rattle.a64_alu.specs.Condition.{condition_holds}
use Rattle.a64_alu.specs.Bitfield.{bitfield_unsigned, bitfield_signed}
use Rattle.a64_alu.specs.Dividing.{divide_unsigned, divide_signed}
use Rattle.a64_alu.specs.Multiplying.{multiply_add, multiply_sub}
use Rattle.a64_alu.specs.Shifting.{shift_left_by, shift_right_by, arithmetic_shift_right_by}
use Rattle.a64_code.specs.declared.instr.Instr.{Instr}
use Rattle.a64_code.specs.declared.instr.Instr.TheVariants.{Movz, Movk, Movn, AddImm, SubImm, SubsImm, AddReg, SubReg, SubsReg, AndReg}
use Rattle.a64_code.specs.declared.instr.Instr.TheVariants.{OrrReg, EorReg, Lslv, Lsrv, Asrv, Udiv, Sdiv, Madd, Msub, Sbfm, Ubfm, Csinc}
use Rattle.a64_code.specs.declared.instr.Instr.TheVariants.{Cbz, Cbnz, Ldr, Str, Ldrb, Strb, Ldrh, Strh, Ldrsw, Ldrsb, Ldrsh, Stp, Ldp, B}
use Rattle.a64_code.specs.declared.instr.Instr.TheVariants.{Bl, BCond, Adrp, Ret, Nop, Svc, Addg, Subg, Irg, Stg, Stzg, St2g, Stz2g, Ldg}
use Rattle.a64_code.specs.declared.register.RegisterField.{RegisterField}
use Rattle.a64_code.specs.declared.register.RegisterField.TheVariants.{Rd, Rn, Rm, Rt}
use Rattle.a64_code.specs.StackPointer.{takes_sp}
use Rattle.a64_code.specs.State.{State, general}
use Rattle.a64_code.specs.Stepped.{Stepped}
use Rattle.a64_code.specs.Shape.{Shape, GoesOn, Branches, BranchesWithLink, Serves, link_register, done}
use Rattle.a64_code.specs.Results.{number, puts, of_two, of_number, of_three, shifted_immediate, subtracts, with_halfword, chosen_or_next}
use Rattle.a64_code.specs.Branches.{target, page_target}
use Rattle.a64_code.specs.LoadsAndStores.{register_bytes, loads, stores, loads_pair, stores_pair}
use Rattle.a64_code.specs.TagInstructions.{steps_tag, inserts_tag, stores_tag, clears, loads_tag}

-- an operation that is the same on any number of bits, and a number left as it is
abbrev pub on_bits : (ℕ → ℕ → ℕ) → ℕ → ℕ → ℕ → ℕ
on_bits operation k x y = operation x y

abbrev pub as_it_is : ℕ → ℕ
as_it_is value = value

-- the shape of an instruction's effect, where `sp` says of each of its fields whether the number 31 is the stack pointer there
abbrev pub shape_with : (RegisterField → Bool) → Instr → State → Shape
-- moves of an immediate
shape_with sp (Movz wide hw imm16 rd) s = puts (sp Rd) wide rd (imm16 * 2 ^ (16 * hw))
shape_with sp (Movk wide hw imm16 rd) s = puts (sp Rd) wide rd (with_halfword (16 * hw) imm16 (number (sp Rd) wide s rd))
shape_with sp (Movn wide hw imm16 rd) s = puts (sp Rd) wide rd (invert (width wide) (imm16 * 2 ^ (16 * hw)))
-- addition and subtraction (`AddWithCarry`)
shape_with sp (AddImm wide sh imm12 rn rd) s = of_number sp wrapping_add wide (shifted_immediate sh imm12) rn rd s
shape_with sp (SubImm wide sh imm12 rn rd) s = of_number sp wrapping_sub wide (shifted_immediate sh imm12) rn rd s
shape_with sp (SubsImm wide sh imm12 rn rd) s = subtracts (sp Rd) wide rd (number (sp Rn) wide s rn) (shifted_immediate sh imm12)
shape_with sp (AddReg wide rm rn rd) s = of_two sp wrapping_add wide rm rn rd s
shape_with sp (SubReg wide rm rn rd) s = of_two sp wrapping_sub wide rm rn rd s
shape_with sp (SubsReg wide rm rn rd) s = subtracts (sp Rd) wide rd (number (sp Rn) wide s rn) (number (sp Rm) wide s rm)
-- logical operations
shape_with sp (AndReg wide rm rn rd) s = of_two sp (on_bits bit_and) wide rm rn rd s
shape_with sp (OrrReg wide rm rn rd) s = of_two sp (on_bits bit_or) wide rm rn rd s
shape_with sp (EorReg wide rm rn rd) s = of_two sp (on_bits bit_xor) wide rm rn rd s
-- shifts by a register (`ShiftReg`), division and multiplication
shape_with sp (Lslv wide rm rn rd) s = of_two sp shift_left_by wide rm rn rd s
shape_with sp (Lsrv wide rm rn rd) s = of_two sp shift_right_by wide rm rn rd s
shape_with sp (Asrv wide rm rn rd) s = of_two sp arithmetic_shift_right_by wide rm rn rd s
shape_with sp (Udiv wide rm rn rd) s = of_two sp (on_bits divide_unsigned) wide rm rn rd s
shape_with sp (Sdiv wide rm rn rd) s = of_two sp divide_signed wide rm rn rd s
shape_with sp (Madd wide rm ra rn rd) s = of_three sp multiply_add wide rm ra rn rd s
shape_with sp (Msub wide rm ra rn rd) s = of_three sp multiply_sub wide rm ra rn rd s
-- moves of a bitfield
shape_with sp (Sbfm wide immr imms rn rd) s = puts (sp Rd) wide rd (bitfield_signed (width wide) immr imms (number (sp Rn) wide s rn))
shape_with sp (Ubfm wide immr imms rn rd) s = puts (sp Rd) wide rd (bitfield_unsigned (width wide) immr imms (number (sp Rn) wide s rn))
-- conditional choice (`ConditionHolds`)
shape_with sp (Csinc wide rm cond rn rd) s = of_two sp (chosen_or_next (condition_holds cond s.flags)) wide rm rn rd s
-- branches (`BranchTo`)
shape_with sp (Cbz wide imm19 rt) s = Branches (number (sp Rt) wide s rt == 0) (target 19 imm19 s)
shape_with sp (Cbnz wide imm19 rt) s = Branches (not (number (sp Rt) wide s rt == 0)) (target 19 imm19 s)
shape_with sp (B imm26) s = Branches true (target 26 imm26 s)
shape_with sp (Bl imm26) s = BranchesWithLink (target 26 imm26 s)
shape_with sp (BCond imm19 cond) s = Branches (condition_holds cond s.flags) (target 19 imm19 s)
shape_with sp Ret s = Branches true (general s link_register)
-- loads and stores with an unsigned offset in units of their size (`Mem[]`)
shape_with sp (Ldr wide imm12 rn rt) s = loads sp (register_bytes wide) as_it_is imm12 rn rt s
shape_with sp (Str wide imm12 rn rt) s = stores sp (register_bytes wide) imm12 rn rt s
shape_with sp (Ldrb imm12 rn rt) s = loads sp 1 as_it_is imm12 rn rt s
shape_with sp (Strb imm12 rn rt) s = stores sp 1 imm12 rn rt s
shape_with sp (Ldrh imm12 rn rt) s = loads sp 2 as_it_is imm12 rn rt s
shape_with sp (Strh imm12 rn rt) s = stores sp 2 imm12 rn rt s
shape_with sp (Ldrsw imm12 rn rt) s = loads sp 4 (sign_extend 32 64) imm12 rn rt s
shape_with sp (Ldrsb imm12 rn rt) s = loads sp 1 (sign_extend 8 64) imm12 rn rt s
shape_with sp (Ldrsh imm12 rn rt) s = loads sp 2 (sign_extend 16 64) imm12 rn rt s
-- pairs with a signed offset in units of 8
shape_with sp (Stp imm7 rt2 rn rt) s = stores_pair sp imm7 rt2 rn rt s
shape_with sp (Ldp imm7 rt2 rn rt) s = loads_pair sp imm7 rt2 rn rt s
-- the address of a page, nothing, and a service
shape_with sp (Adrp immlo immhi rd) s = puts (sp Rd) true rd (page_target (immhi * 4 + immlo) s)
shape_with sp Nop s = GoesOn
shape_with sp (Svc imm16) s = Serves imm16
-- tags of pointers (`AArch64.ChooseNonExcludedTag`)
shape_with sp (Addg uimm6 uimm4 rn rd) s = steps_tag sp wrapping_add uimm6 uimm4 rn rd s
shape_with sp (Subg uimm6 uimm4 rn rd) s = steps_tag sp wrapping_sub uimm6 uimm4 rn rd s
shape_with sp (Irg rm rn rd) s = inserts_tag sp rm rn rd s
-- tags of granules, with a signed offset in units of 16 (`AArch64.MemTag[]`)
shape_with sp (Stg simm9 rn rt) s = stores_tag sp 1 simm9 rn rt s
shape_with sp (Stzg simm9 rn rt) s = clears sp 1 simm9 rn rt s
shape_with sp (St2g simm9 rn rt) s = stores_tag sp 2 simm9 rn rt s
shape_with sp (Stz2g simm9 rn rt) s = clears sp 2 simm9 rn rt s
shape_with sp (Ldg simm9 rn rt) s = loads_tag sp simm9 rn rt s

-- the same with the fields that take the number 31 for the stack pointer as the table has them
abbrev pub shape : Instr → State → Shape
shape instr s = shape_with (takes_sp instr) instr s

-- what an instruction does
abbrev pub effect : Instr → State → Stepped
effect instr s = done (shape instr s) s
