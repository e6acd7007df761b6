-- Words and instructions.
use Rattle.std.specs.Prelude.{◌≡◌, ℕ, ◌+◌}
use Rattle.a64_code.specs.declared.instr.Instr.{Instr}
use Rattle.a64_code.specs.Field.{AllFit, placed}
use Rattle.a64_code.specs.Table.{encoding}

-- The word is the base word of the instruction's row with each field at its place, and each field is within its width.
pub record Row (word : ℕ) (instr : Instr) : Type 0 where
  pub within : AllFit (encoding instr).fields
  pub spelled : word ≡ (encoding instr).base + placed (encoding instr).fields

-- The word has at most one instruction.
abbrev pub HasOneRow : ℕ → Type 0
HasOneRow word = (i j : Instr) → Row word i → Row word j → i ≡ j
