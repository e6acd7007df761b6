-- The instructions in groups, as the machine's code has them, and which ask for no service (this project's own).
use Rattle.a64_code.specs.declared.instr.Instr.{Instr}
use Rattle.a64_code.specs.declared.instr.Instr.TheVariants.{Movz, Movk, Movn, Adrp, AddImm, SubImm, SubsImm, AddReg, SubReg, SubsReg}
use Rattle.a64_code.specs.declared.instr.Instr.TheVariants.{AndReg, OrrReg, EorReg, Csinc, Lslv, Lsrv, Asrv, Sbfm, Ubfm, Udiv, Sdiv, Madd}
use Rattle.a64_code.specs.declared.instr.Instr.TheVariants.{Msub, Cbz, Cbnz, B, Bl, BCond, Ret, Ldr, Ldrb, Ldrh, Ldrsw, Ldrsb, Ldrsh, Ldp}
use Rattle.a64_code.specs.declared.instr.Instr.TheVariants.{Ldg, Str, Strb, Strh, Stp, Addg, Subg, Irg, Stg, Stzg, St2g, Stz2g, Svc}

-- all but SVC
abbrev pub IsQuiet : Instr → Type 0
IsQuiet (Svc number) = ⊥
IsQuiet _ = Unit {0}

-- moves of a number, or of an address relative to PC
abbrev pub IsMove : Instr → Type 0
IsMove (Movz wide hw imm16 rd) = Unit {0}
IsMove (Movk wide hw imm16 rd) = Unit {0}
IsMove (Movn wide hw imm16 rd) = Unit {0}
IsMove (Adrp immlo immhi rd) = Unit {0}
IsMove _ = ⊥

-- addition and subtraction of a number
abbrev pub AddsNumber : Instr → Type 0
AddsNumber (AddImm wide sh imm12 rn rd) = Unit {0}
AddsNumber (SubImm wide sh imm12 rn rd) = Unit {0}
AddsNumber (SubsImm wide sh imm12 rn rd) = Unit {0}
AddsNumber _ = ⊥

-- addition and subtraction of a register
abbrev pub AddsRegister : Instr → Type 0
AddsRegister (AddReg wide rm rn rd) = Unit {0}
AddsRegister (SubReg wide rm rn rd) = Unit {0}
AddsRegister (SubsReg wide rm rn rd) = Unit {0}
AddsRegister _ = ⊥

-- logical operations, and the choice between two registers
abbrev pub Combines : Instr → Type 0
Combines (AndReg wide rm rn rd) = Unit {0}
Combines (OrrReg wide rm rn rd) = Unit {0}
Combines (EorReg wide rm rn rd) = Unit {0}
Combines (Csinc wide rm cond rn rd) = Unit {0}
Combines _ = ⊥

-- shifts by a register, and moves of a bitfield
abbrev pub Shifts : Instr → Type 0
Shifts (Lslv wide rm rn rd) = Unit {0}
Shifts (Lsrv wide rm rn rd) = Unit {0}
Shifts (Asrv wide rm rn rd) = Unit {0}
Shifts (Sbfm wide immr imms rn rd) = Unit {0}
Shifts (Ubfm wide immr imms rn rd) = Unit {0}
Shifts _ = ⊥

-- multiplication and division
abbrev pub Multiplies : Instr → Type 0
Multiplies (Udiv wide rm rn rd) = Unit {0}
Multiplies (Sdiv wide rm rn rd) = Unit {0}
Multiplies (Madd wide rm ra rn rd) = Unit {0}
Multiplies (Msub wide rm ra rn rd) = Unit {0}
Multiplies _ = ⊥

-- branches
abbrev pub GoesElsewhere : Instr → Type 0
GoesElsewhere (Cbz wide imm19 rt) = Unit {0}
GoesElsewhere (Cbnz wide imm19 rt) = Unit {0}
GoesElsewhere (B imm26) = Unit {0}
GoesElsewhere (Bl imm26) = Unit {0}
GoesElsewhere (BCond imm19 cond) = Unit {0}
GoesElsewhere Ret = Unit {0}
GoesElsewhere _ = ⊥

-- loads
abbrev pub IsLoad : Instr → Type 0
IsLoad (Ldr wide imm12 rn rt) = Unit {0}
IsLoad (Ldrb imm12 rn rt) = Unit {0}
IsLoad (Ldrh imm12 rn rt) = Unit {0}
IsLoad (Ldrsw imm12 rn rt) = Unit {0}
IsLoad (Ldrsb imm12 rn rt) = Unit {0}
IsLoad (Ldrsh imm12 rn rt) = Unit {0}
IsLoad (Ldp imm7 rt2 rn rt) = Unit {0}
IsLoad (Ldg simm9 rn rt) = Unit {0}
IsLoad _ = ⊥

-- stores
abbrev pub IsStore : Instr → Type 0
IsStore (Str wide imm12 rn rt) = Unit {0}
IsStore (Strb imm12 rn rt) = Unit {0}
IsStore (Strh imm12 rn rt) = Unit {0}
IsStore (Stp imm7 rt2 rn rt) = Unit {0}
IsStore _ = ⊥

-- tags of pointers
abbrev pub TagsPointer : Instr → Type 0
TagsPointer (Addg uimm6 uimm4 rn rd) = Unit {0}
TagsPointer (Subg uimm6 uimm4 rn rd) = Unit {0}
TagsPointer (Irg rm rn rd) = Unit {0}
TagsPointer _ = ⊥

-- stores of tags
abbrev pub TagsGranules : Instr → Type 0
TagsGranules (Stg simm9 rn rt) = Unit {0}
TagsGranules (Stzg simm9 rn rt) = Unit {0}
TagsGranules (St2g simm9 rn rt) = Unit {0}
TagsGranules (Stz2g simm9 rn rt) = Unit {0}
TagsGranules _ = ⊥
