-- Instructions that leave the bytes of memory as they are, run where they stand (this project's own).
use Rattle.std.specs.Prelude.{◌≡◌, ℕ, zero, suc, ◌+◌, Bool, true, false, List, [], ◌∷◌, ◌&&◌, ◌≤◌, length, Some, refl}
use Rattle.std.proofs.Common.{arith, ap, subst, ◌∙◌}
use Rattle.a64_code.specs.declared.instr.Instr.{Instr}
use Rattle.a64_code.specs.declared.instr.Instr.TheVariants.{Str, Strb, Strh, Stp, Stzg, Stz2g}
use Rattle.a64_code.specs.Effect.{effect}
use Rattle.a64_code.specs.Laws.Reach.{reach}
use Rattle.a64_code.specs.State.{State}
use Rattle.a64_code.specs.Step.{carried_out}
use Rattle.a64_code.specs.Stepped.{Leads}
use Rattle.a64_laws.specs.Laws.Effects.EffectLeaves.{effect-led}
use Rattle.a64_laws.specs.Laws.Effects.InRange.{IsInRange}
use Rattle.a64_laws.specs.Runs.{instr_at, RunsFrom}
use Rattle.code_relation.specs.Items.{IsAt, HasInstr}
use Rattle.code_relation.specs.Tags.{IsAsLoaded}
use Rattle.code_runs.specs.Laws.Ranges.{IsInRange-Steps}
use Rattle.code_runs.specs.Laws.Within.{StepsWithin-none, StepsWithin-one, StepsWithin-add}
use Rattle.code_runs.specs.Within.{StepsWithin}
use Rattle.mte_machine.specs.Laws.Steps.{Steps-one}
use Rattle.code_follows.specs.Scene.{Scene, given_in}
use Rattle.code_follows.specs.Laws.Lying.{HasInstrs}

-- no byte of memory is another after it
abbrev pub is_quiet : Instr → Bool
is_quiet (Str wide imm12 rn rt) = false
is_quiet (Strb imm12 rn rt) = false
is_quiet (Strh imm12 rn rt) = false
is_quiet (Stp imm7 rt2 rn rt) = false
is_quiet (Stzg simm9 rn rt) = false
is_quiet (Stz2g simm9 rn rt) = false
is_quiet _ = true

abbrev pub are_quiet : List Instr → Bool
are_quiet [] = true
are_quiet (i ∷ is) = is_quiet i && are_quiet is

pub quiet-reach : (i : Instr) (s : State) (a : ℕ) → is_quiet i ≡ true → (reach i s).bytes a ≡ false
quiet-reach (Str wide imm12 rn rt) s a is = absurd (cc)
quiet-reach (Strb imm12 rn rt) s a is = absurd (cc)
quiet-reach (Strh imm12 rn rt) s a is = absurd (cc)
quiet-reach (Stp imm7 rt2 rn rt) s a is = absurd (cc)
quiet-reach (Stzg simm9 rn rt) s a is = absurd (cc)
quiet-reach (Stz2g simm9 rn rt) s a is = absurd (cc)
quiet-reach _ s a is = refl

quiet_at : (instrs : List Instr) (j : ℕ) (i : Instr) → are_quiet instrs ≡ true → instr_at instrs j ≡ Some i → is_quiet i ≡ true
quiet_at [] j i quiet is = absurd (cc)
quiet_at (x ∷ xs) zero i quiet is = let same : x ≡ i = cc in subst (λ y. is_quiet y ≡ true) same (first (is_quiet x) (are_quiet xs) quiet)
  where
    first : (a b : Bool) → (a && b) ≡ true → a ≡ true
    first true b both = refl
    first false b both = absurd (cc)
quiet_at (x ∷ xs) (suc j) i quiet is = quiet_at xs j i (second (is_quiet x) (are_quiet xs) quiet) is
  where
    second : (a b : Bool) → (a && b) ≡ true → b ≡ true
    second true b both = both
    second false b both = absurd (cc)

-- one such instruction, as a step
pub IsAsLoaded-quiet : (k : Scene) (i : Instr) {s t : State} → is_quiet i ≡ true → effect i s ≡ Leads t →
    IsAsLoaded (given_in k) s → IsAsLoaded (given_in k) t
IsAsLoaded-quiet k i {s} {t} quiet leads loaded =
    let left = effect-led i leads in
    record {
      regions = left.keeps.regions ∙ loaded.regions;
      guard = left.keeps.guard ∙ loaded.guard;
      bytes = λ a off none. left.keeps.bytes a (quiet-reach i s a quiet) ∙ loaded.bytes a off none;
    }

-- an instruction that stands where PC is, as a step
pub step_within : (k : Scene) {from : ℕ} (i : Instr) {s t : State} → HasInstr k.code from i → IsAt k.code from s →
    effect i s ≡ Leads t → StepsWithin k.code.Inside 1 s t
step_within k i {s} {t} has is_at leads =
    StepsWithin-one (Steps-one s t (ap (λ instr. carried_out instr s) (has.is s is_at) ∙ leads)) (has.inside s is_at)

-- a list of them, run by position from where PC is
pub walk_within : (k : Scene) {instrs : List Instr} {from to : ℕ} (n : ℕ) {s t : State} → HasInstrs k instrs from to →
    are_quiet instrs ≡ true → RunsFrom instrs from n s t → IsAsLoaded (given_in k) s → IsInRange s →
    StepsWithin k.code.Inside n s t
walk_within k {instrs} {from} {to} zero {s} {t} has quiet runs loaded range =
    subst (λ u. StepsWithin k.code.Inside zero s u) runs (StepsWithin-none k.code.Inside s)
walk_within k {instrs} {from} {to} (suc n) {s} {t} has quiet runs loaded range =
    let moves = runs.1 in
    let one : StepsWithin k.code.Inside 1 s runs.0 =
    step_within k moves.instr (has.each moves.next.position moves.instr moves.next.there)
    (record { pc = moves.next.pc; as_loaded = loaded; in_range = range }) moves.leads in
    subst (λ (m : ℕ). StepsWithin k.code.Inside m s t) (let e : 1 + n ≡ suc n = omega arith in e)
    (StepsWithin-add one
    (walk_within k n has quiet runs.2
    (IsAsLoaded-quiet k moves.instr (quiet_at instrs moves.next.position moves.instr quiet moves.next.there) moves.leads loaded)
    (IsInRange-Steps 1 one.steps range)))

-- such instructions, of which there are so many at most
pub record Short (most : ℕ) (instrs : List Instr) : Type 0 where
  pub quiet : are_quiet instrs ≡ true
  pub few : length instrs ≤ most
