-- Where instructions stand in memory (this project's own).
use Rattle.std.specs.Prelude.{◌≡◌, ℕ, ◌+◌, ◌*◌, ◌<◌, ◌≤◌, true, List, [], ◌∷◌, ◌++◌, length, Option, Some, refl}
use Rattle.std.proofs.Common.{ap, ◌∙◌, subst, arith}
use Rattle.mt_base.specs.Memory.{is_protected}
use Rattle.mt_base.specs.Laws.Memory.{load_same}
use Rattle.a64_code.specs.declared.instr.Instr.{Instr}
use Rattle.a64_code.specs.State.{State, at_pc}
use Rattle.a64_code.specs.Stepped.{Leads}
use Rattle.a64_code.specs.Effect.{effect}
use Rattle.a64_code.specs.Step.{fetched, carried_out, step}
use Rattle.mte_machine.specs.Run.{Steps}
use Rattle.mte_machine.specs.Laws.Steps.{Steps-one}
use Rattle.code_runs.specs.Laws.Fixed.{Fixed}

-- the instruction that would be fetched at an address
abbrev pub instruction_at : State → ℕ → Option Instr
instruction_at s at = fetched (at_pc at s)

-- they stand one behind another from an address on
abbrev pub Stand : State → ℕ → List Instr → Type 0
Stand s at [] = Unit {0}
Stand s at (instr ∷ instrs) = (instruction_at s at ≡ Some instr) × Stand s (at + 4) instrs

-- they stand there, whether or not their bytes can be written
pub record HasCode (s : State) (at : ℕ) (instrs : List Instr) : Type 0 where
  pub stand : Stand s at instrs

-- ---- in pieces

pub HasCode-first : {s : State} {at : ℕ} {instr : Instr} {instrs : List Instr} → HasCode s at (instr ∷ instrs) →
    instruction_at s at ≡ Some instr
HasCode-first code = code.stand.0

pub HasCode-rest : {s : State} {at : ℕ} {instr : Instr} {instrs : List Instr} → HasCode s at (instr ∷ instrs) → HasCode s (at + 4) instrs
HasCode-rest code = record { stand = code.stand.1 }

stand-front : (s : State) (at : ℕ) (xs ys : List Instr) → Stand s at (xs ++ ys) → Stand s at xs
stand-front s at [] ys stand = tt
stand-front s at (x ∷ xs) ys stand = (stand.0, stand-front s (at + 4) xs ys stand.1)

stand-back : (s : State) (at : ℕ) (xs ys : List Instr) → Stand s at (xs ++ ys) → Stand s (at + 4 * length xs) ys
stand-back s at [] ys stand = subst (λ (a : ℕ). Stand s a ys) (omega arith) stand
stand-back s at (x ∷ xs) ys stand = subst (λ (a : ℕ). Stand s a ys) (omega arith) (stand-back s (at + 4) xs ys stand.1)

pub HasCode-front : {s : State} {at : ℕ} (xs ys : List Instr) → HasCode s at (xs ++ ys) → HasCode s at xs
HasCode-front {s} {at} xs ys code = record { stand = stand-front s at xs ys code.stand }

pub HasCode-back : {s : State} {at : ℕ} (xs ys : List Instr) → HasCode s at (xs ++ ys) → HasCode s (at + 4 * length xs) ys
HasCode-back {s} {at} xs ys code = record { stand = stand-back s at xs ys code.stand }

stand-append : (s : State) (at : ℕ) (xs ys : List Instr) → Stand s at xs → Stand s (at + 4 * length xs) ys → Stand s at (xs ++ ys)
stand-append s at [] ys first rest = subst (λ (a : ℕ). Stand s a ys) (omega arith) rest
stand-append s at (x ∷ xs) ys first rest =
    (first.0, stand-append s (at + 4) xs ys first.1 (subst (λ (a : ℕ). Stand s a ys) (omega arith) rest))

pub HasCode-append : {s : State} {at : ℕ} (xs ys : List Instr) → HasCode s at xs → HasCode s (at + 4 * length xs) ys →
    HasCode s at (xs ++ ys)
HasCode-append {s} {at} xs ys first rest = record { stand = stand-append s at xs ys first.stand rest.stand }

-- ---- code that stays

-- the regions are the same in both states, and so is each of so many bytes from an address on
pub record SameAt (at count : ℕ) (s t : State) : Type 0 where
  pub regions : t.regions ≡ s.regions
  pub bytes : (a : ℕ) → at ≤ a → a < at + count → t.byte a ≡ s.byte a

pub SameAt-within : {at count first fewer : ℕ} {s t : State} → SameAt at count s t → at ≤ first → first + fewer ≤ at + count →
    SameAt first fewer s t
SameAt-within same from to =
    record { regions = same.regions; bytes = λ a above below. same.bytes a (omega (arith, from, above)) (omega (arith, to, below)) }

instruction_at-kept : (s t : State) (at : ℕ) → SameAt at 4 s t → instruction_at t at ≡ instruction_at s at
unfolding fetched
instruction_at-kept s t at same =
    rw (same.regions, load_same 4 t.byte s.byte at (λ k h. same.bytes (at + k) (omega arith) (omega (arith, h)))) refl

stand-kept : (s t : State) (at : ℕ) (instrs : List Instr) → SameAt at (4 * length instrs) s t → Stand s at instrs → Stand t at instrs
stand-kept s t at [] same stand = tt
stand-kept s t at (instr ∷ instrs) same stand = (
  instruction_at-kept s t at (SameAt-within same (omega arith) (omega arith)) ∙ stand.0,
  stand-kept s t (at + 4) instrs (SameAt-within same (omega arith) (omega arith)) stand.1,
)

-- it stands where regions and its bytes are the same
pub HasCode-kept : {s t : State} {at : ℕ} {instrs : List Instr} → SameAt at (4 * length instrs) s t → HasCode s at instrs →
    HasCode t at instrs
HasCode-kept {s} {t} {at} {instrs} same code = record { stand = stand-kept s t at instrs same code.stand }

-- so many bytes from an address on cannot be written
pub record CannotBeWritten (s : State) (at count : ℕ) : Type 0 where
  pub protected : (a : ℕ) → at ≤ a → a < at + count → is_protected s.regions a ≡ true

pub SameAt-fixed : {s t : State} {at count : ℕ} → Fixed s t → CannotBeWritten s at count → SameAt at count s t
SameAt-fixed fixed cannot = record { regions = fixed.regions; bytes = λ a from below. fixed.bytes a (cannot.protected a from below) }

pub CannotBeWritten-fixed : {s t : State} {at count : ℕ} → Fixed s t → CannotBeWritten s at count → CannotBeWritten t at count
CannotBeWritten-fixed fixed cannot =
    record { protected = λ a from below. ap (λ regions. is_protected regions a) fixed.regions ∙ cannot.protected a from below }

-- code that cannot be written stays
pub HasCode-fixed : {s t : State} {at : ℕ} {instrs : List Instr} → Fixed s t → CannotBeWritten s at (4 * length instrs) →
    HasCode s at instrs → HasCode t at instrs
HasCode-fixed fixed cannot code = HasCode-kept (SameAt-fixed fixed cannot) code

-- ---- the step at PC

-- where an instruction stands at PC, its effect is a step
pub step-at : (instr : Instr) (s : State) → instruction_at s s.pc ≡ Some instr → step s ≡ effect instr s
step-at instr s stands = ap (λ found. carried_out found s) stands

pub Steps-at : (instr : Instr) {s t : State} → instruction_at s s.pc ≡ Some instr → effect instr s ≡ Leads t → Steps 1 s t
Steps-at instr {s} {t} stands leads = Steps-one s t (step-at instr s stands ∙ leads)
