-- Words in memory that spell instructions (this project's own).
use Rattle.std.specs.Prelude.{◌≡◌, ℕ, ◌+◌, ◌*◌, ◌%◌, ◌<◌, ◌≤◌, true, List, [], ◌∷◌, length, Some}
use Rattle.std.proofs.Common.{arith}
use Rattle.mt_base.specs.Memory.{load, is_executable, every_byte}
use Rattle.mt_base.specs.Laws.Memory.{every_byte_from}
use Rattle.a64_code.specs.declared.instr.Instr.{Instr}
use Rattle.a64_code.specs.Row.{Row}
use Rattle.a64_code.specs.State.{State}
use Rattle.a64_code.specs.Step.{fetched}
use Rattle.a64_code.specs.Laws.Words.{Row-instruction}
use Rattle.code_runs.specs.Laws.CodeAt.{instruction_at, Stand, HasCode}

-- the words stand one behind another from an address on, the lowest byte of each first
abbrev pub WordsStand : State → ℕ → List ℕ → Type 0
WordsStand s at [] = Unit {0}
WordsStand s at (word ∷ words) = (load 4 s.byte at ≡ word) × WordsStand s (at + 4) words

-- each word is that of the instruction at its place
abbrev pub Spelled : List ℕ → List Instr → Type 0
Spelled [] [] = Unit {0}
Spelled (word ∷ words) (instr ∷ instrs) = Row word instr × Spelled words instrs
Spelled [] (instr ∷ instrs) = ⊥
Spelled (word ∷ words) [] = ⊥

-- so many bytes from a multiple of 4 on can be executed
pub record IsCode (s : State) (at bytes : ℕ) : Type 0 where
  pub aligned : at % 4 ≡ 0
  pub executable : (a : ℕ) → at ≤ a → a < at + bytes → is_executable s.regions a ≡ true

pub instruction_at-word : (s : State) (at word : ℕ) (instr : Instr) → at % 4 ≡ 0 → every_byte (is_executable s.regions) at 4 ≡ true →
    load 4 s.byte at ≡ word → Row word instr →
    instruction_at s at ≡ Some instr
unfolding fetched
instruction_at-word s at word instr aligned executable stands row = rw (aligned, executable, stands) (Row-instruction word instr row)

stand_words : (words : List ℕ) (instrs : List Instr) (s : State) (at : ℕ) → IsCode s at (4 * length words) → WordsStand s at words →
    Spelled words instrs → Stand s at instrs
stand_words [] [] s at code stand spelled = tt
stand_words [] (instr ∷ instrs) s at code stand spelled = absurd spelled
stand_words (word ∷ words) [] s at code stand spelled = tt
stand_words (word ∷ words) (instr ∷ instrs) s at code stand spelled = (
  instruction_at-word s at word instr code.aligned
      (every_byte_from (is_executable s.regions) at 4 (λ k h. code.executable (at + k) (omega arith) (omega (arith, h)))) stand.0
      spelled.0,
  stand_words words instrs s (at + 4)
      (record {
        aligned = omega (arith, code.aligned);
        executable = λ a from below. code.executable a (omega (arith, from)) (omega (arith, below));
      })
      stand.1 spelled.1,
)

-- so the instructions stand there
pub HasCode-words : (words : List ℕ) (instrs : List Instr) (s : State) (at : ℕ) → IsCode s at (4 * length words) → WordsStand s at words →
    Spelled words instrs → HasCode s at instrs
HasCode-words words instrs s at code stand spelled = record { stand = stand_words words instrs s at code stand spelled }
