-- The instruction of a word is its row.
use Rattle.std.proofs.Common.{◌≡◌, ◌↔◌, ◌<◌, ◌^◌, ℕ, Bool, true, false, Some, None, ltb, refl, sym, ◌∙◌}
use Rattle.std.proofs.lemmas.Bool.{lt-ltb, ltb-true}
use Rattle.std.proofs.lemmas.Option.{none-some}
use Rattle.a64_code.specs.declared.instr.Instr.{Instr}
use Rattle.a64_code.specs.Decoded.{decoded}
use Rattle.a64_code.specs.Instruction.{instruction_of}
use Rattle.a64_code.specs.Row.{Row}
use Rattle.a64_code.specs.Laws.Decoding.{Row-below, Row-decoded, decoded-Row}

-- a word's instruction is that of its row
pub instruction_of-word : (word : ℕ) → word < 2 ^ 32 → instruction_of word ≡ decoded word
unfolding instruction_of
instruction_of-word word short = rw (lt-ltb word (2 ^ 32) short) refl

instruction_of-long : (word : ℕ) → ltb word (2 ^ 32) ≡ false → instruction_of word ≡ None
unfolding instruction_of
instruction_of-long word long = rw long refl

pub Row-instruction : (word : ℕ) (instr : Instr) → Row word instr → instruction_of word ≡ Some instr
Row-instruction word instr row = instruction_of-word word (Row-below word instr row) ∙ decoded-Row word instr row

-- The instruction of a word is `Row` as a function.
pub instruction_of-Row : (word : ℕ) (instr : Instr) → (instruction_of word ≡ Some instr) ↔ Row word instr
instruction_of-Row word instr = by_size (ltb word (2 ^ 32)) refl
  where
    by_size : (short : Bool) → ltb word (2 ^ 32) ≡ short → (instruction_of word ≡ Some instr) ↔ Row word instr
    by_size true is =
        let within : word < 2 ^ 32 = ltb-true word (2 ^ 32) is in
        (λ found. Row-decoded word instr within (sym (instruction_of-word word within) ∙ found), Row-instruction word instr)
    by_size false is =
        (λ found. absurd (none-some instr (sym (instruction_of-long word is) ∙ found)), Row-instruction word instr)
