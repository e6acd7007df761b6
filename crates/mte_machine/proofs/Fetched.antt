-- The instruction that a step fetches, by what memory answers.
use Rattle.std.proofs.Common.{◌≡◌, ℕ, Bool, true, false, Option, Some, None, refl, sym}
use Rattle.std.specs.Prelude.{IsTrue, IfSome}
use Rattle.mt_base.specs.Memory.{load}
use Rattle.a64_code.specs.declared.instr.Instr.{Instr}
use Rattle.a64_code.specs.Field.{AllFit}
use Rattle.a64_code.specs.Table.{encoding}
use Rattle.a64_code.specs.Instruction.{instruction_of}
use Rattle.a64_code.specs.Laws.Words.{instruction_of-Row}
use Rattle.a64_code.specs.State.{State}
use Rattle.a64_code.specs.Step.{is_fetchable, fetched}

-- a test that does not hold
pub is_false : (test : Bool) → (IsTrue test → false ≡ true) → test ≡ false
is_false true holds = let same : false ≡ true = holds refl in absurd (cc)
is_false false holds = refl

pub fetched_nowhere : (s : State) → is_fetchable s ≡ false → fetched s ≡ None
unfolding fetched
fetched_nowhere s not = rw not refl

pub fetched_there : (s : State) → is_fetchable s ≡ true → fetched s ≡ instruction_of (load 4 s.byte s.pc)
unfolding fetched
fetched_there s can = rw can refl

-- the instruction of a word has fields that fit
pub instruction_fits : (word : ℕ) (found : Option Instr) → found ≡ instruction_of word →
    IfSome found (λ instr. AllFit (encoding instr).fields)
instruction_fits word None is = tt
instruction_fits word (Some instr) is = ((instruction_of-Row word instr).0 (sym is)).within
