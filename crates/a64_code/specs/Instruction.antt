-- The instruction of a word.
use Rattle.std.specs.Prelude.{ℕ, ◌^◌, nat_lt, if◌then◌else◌, Option, None}
use Rattle.a64_code.specs.declared.instr.Instr.{Instr}
use Rattle.a64_code.specs.Decoded.{decoded}

-- The relation `Row` as a function: the one instruction of a word, where there is one (`instruction_of-Row` is its law).
unfoldable pub instruction_of : ℕ → Option Instr
instruction_of word = if nat_lt word (2 ^ 32) then decoded word else None
