-- What the machine keeps of words that it decoded before (this project's own).
use Rattle.std.specs.Prelude.{◌≡◌}
use Rattle.a64_code.specs.Instruction.{instruction_of}
use Rattle.mte_machine.specs.declared.decoder.Decoded.{Decoded}

-- its instruction is that of its word
abbrev pub IsDecoded : Decoded → Type 0
IsDecoded d = d.instr ≡ instruction_of d.word
