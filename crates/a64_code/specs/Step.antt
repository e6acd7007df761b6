-- What a step does: it fetches the word at PC and carries its instruction out. (Arm ARM, the fetch and decode of an A64
-- instruction, least significant byte first; that each case without an instruction ends the run, with BadCode, is this
-- project's own.)
use Rattle.std.specs.Prelude.{◌%◌, Bool, ◌&&◌, ◌==◌, if◌then◌else◌, Option, Some, None}
use Rattle.mt_base.specs.Memory.{load, is_executable, every_byte}
use Rattle.a64_code.specs.declared.instr.Instr.{Instr}
use Rattle.a64_code.specs.declared.end.MachineEnd.TheVariants.{BadCode}
use Rattle.a64_code.specs.Instruction.{instruction_of}
use Rattle.a64_code.specs.State.{State}
use Rattle.a64_code.specs.Stepped.{Stepped, Ends}
use Rattle.a64_code.specs.Effect.{effect}

-- a word can be fetched at PC: it is a multiple of 4, and the four bytes are in executable regions
abbrev pub is_fetchable : State → Bool
is_fetchable s = s.pc % 4 == 0 && every_byte (is_executable s.regions) s.pc 4

-- the instruction at PC, where a word can be fetched there and one fits it
unfoldable pub fetched : State → Option Instr
fetched s = if is_fetchable s then instruction_of (load 4 s.byte s.pc) else None

-- the effect of an instruction, or BadCode where there is none
abbrev pub carried_out : Option Instr → State → Stepped
carried_out None s = Ends (BadCode s.pc)
carried_out (Some instr) s = effect instr s

-- one step
abbrev pub step : State → Stepped
step s = carried_out (fetched s) s
