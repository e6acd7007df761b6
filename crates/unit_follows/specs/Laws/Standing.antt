-- Instructions stand somewhere in each state whose memory is as it was loaded: their effects are steps inside (this project's own).
use Rattle.std.specs.Prelude.{◌≡◌, ℕ, zero, suc, ◌+◌, ◌*◌, ◌^◌, ◌<◌, false, List, [], ◌∷◌, ◌++◌, length, Some, refl}
use Rattle.std.proofs.Common.{arith, ap, subst, ◌∙◌, length-append}
use Rattle.a64_code.specs.declared.instr.Instr.{Instr}
use Rattle.a64_code.specs.State.{State}
use Rattle.a64_code.specs.Effect.{effect}
use Rattle.a64_code.specs.Step.{fetched}
use Rattle.a64_code.specs.Stepped.{Leads}
use Rattle.a64_code.specs.Laws.Reach.{reach}
use Rattle.a64_laws.specs.Laws.Effects.EffectLeaves.{effect-led}
use Rattle.a64_laws.specs.Laws.Effects.InRange.{IsInRange}
use Rattle.a64_laws.specs.Runs.{instr_at, Moves, RunsFrom, Runs}
use Rattle.mte_machine.specs.Run.{Steps}
use Rattle.code_runs.specs.Within.{StepsWithin}
use Rattle.code_runs.specs.Laws.CodeAt.{instruction_at, HasCode, HasCode-front, HasCode-back, HasCode-first, HasCode-rest, Steps-at}
use Rattle.code_runs.specs.Laws.Ranges.{IsInRange-Steps}
use Rattle.code_runs.specs.Laws.Within.{StepsWithin-none, StepsWithin-one, StepsWithin-add}
use Rattle.code_relation.specs.Follows.{Code}
use Rattle.code_relation.specs.Items.{IsAt, HasInstr}
use Rattle.code_relation.specs.Sites.{Given}
use Rattle.code_relation.specs.Tags.{IsAsLoaded}

-- they stand there, at addresses of 56 bits, and a state is inside where PC is among them
pub record Standing (c : Code) (at : ℕ) (instrs : List Instr) : Type 0 where
  pub code : (s : State) → IsAsLoaded c.given s → HasCode s at instrs
  pub inside : (k : ℕ) (s : State) → k < length instrs → IsAt c (at + 4 * k) s → c.Inside s
  pub below : at + 4 * length instrs < 2 ^ 56

-- ---- in pieces

pub Standing-front : {c : Code} {at : ℕ} (xs ys : List Instr) → Standing c at (xs ++ ys) → Standing c at xs
Standing-front xs ys stands = record {
  code = λ s as_loaded. HasCode-front xs ys (stands.code s as_loaded);
  inside = λ k s within is_at. stands.inside k s (omega (arith, within, length-append xs ys)) is_at;
  below = omega (arith, stands.below, length-append xs ys);
}

pub Standing-back : {c : Code} {at : ℕ} (xs ys : List Instr) → Standing c at (xs ++ ys) → Standing c (at + 4 * length xs) ys
Standing-back {c} {at} xs ys stands = record {
  code = λ s as_loaded. HasCode-back xs ys (stands.code s as_loaded);
  inside = λ k s within is_at. stands.inside (length xs + k) s (omega (arith, within, length-append xs ys))
      (subst (λ a. IsAt c a s) (omega arith) is_at);
  below = omega (arith, stands.below, length-append xs ys);
}

pub Standing-as : {c : Code} {at : ℕ} {xs ys : List Instr} → xs ≡ ys → Standing c at xs → Standing c at ys
Standing-as {c} {at} same stands = subst (λ is. Standing c at is) same stands

-- the first one, and any
pub HasInstr-first : {c : Code} {at : ℕ} {i : Instr} {is : List Instr} → Standing c at (i ∷ is) → HasInstr c at i
HasInstr-first {c} {at} {i} {is} stands = record {
  below = omega (arith, stands.below);
  inside = λ s is_at. stands.inside 0 s (omega arith) (subst (λ a. IsAt c a s) (omega arith) is_at);
  is = λ s is_at. fetched_there s is_at (HasCode-first (stands.code s is_at.as_loaded));
}
  where
    fetched_there : (s : State) → IsAt c at s → instruction_at s at ≡ Some i → fetched s ≡ Some i
    fetched_there s is_at there = ap (λ a. instruction_at s a) is_at.pc ∙ there

pub Standing-rest : {c : Code} {at : ℕ} {i : Instr} {is : List Instr} → Standing c at (i ∷ is) → Standing c (at + 4) is
Standing-rest {c} {at} {i} {is} stands = subst (λ a. Standing c a is) (omega arith) (Standing-back (i ∷ []) is stands)

-- ---- lists that write nothing

-- no byte of memory is within reach of an instruction
abbrev pub IsQuiet : Instr → Type 0
IsQuiet i = (u : State) (a : ℕ) → (reach i u).bytes a ≡ false

abbrev pub AreQuiet : List Instr → Type 0
AreQuiet [] = Unit {0}
AreQuiet (i ∷ is) = IsQuiet i × AreQuiet is

quiet_at : (is : List Instr) (k : ℕ) (i : Instr) → AreQuiet is → instr_at is k ≡ Some i → IsQuiet i
quiet_at [] k i quiet there = absurd (cc)
quiet_at (j ∷ is) zero i quiet there = subst IsQuiet (let e : j ≡ i = cc in e) quiet.0
quiet_at (j ∷ is) (suc k) i quiet there = quiet_at is k i quiet.1 there

at_within : (is : List Instr) (k : ℕ) (i : Instr) → instr_at is k ≡ Some i → k < length is
at_within [] k i there = absurd (cc)
at_within (j ∷ is) zero i there = omega arith
at_within (j ∷ is) (suc k) i there = omega (arith, at_within is k i there)

-- a state with the same memory
pub IsAsLoaded-kept : {g : Given} {s t : State} (i : Instr) → IsQuiet i → effect i s ≡ Leads t → IsAsLoaded g s → IsAsLoaded g t
IsAsLoaded-kept {s = s} i quiet leads as_loaded =
    let keeps = (effect-led i leads).keeps in
    record {
      regions = keeps.regions ∙ as_loaded.regions;
      guard = keeps.guard ∙ as_loaded.guard;
      bytes = λ a off none. keeps.bytes a (quiet s a) ∙ as_loaded.bytes a off none;
    }

-- so many steps inside lead to an address, with memory as it was loaded
pub record Comes (c : Code) (to n : ℕ) (s t : State) : Type 0 where
  pub led : StepsWithin c.Inside n s t
  pub is_at : IsAt c to t

HasCode-at : (s : State) (at : ℕ) (instrs : List Instr) (k : ℕ) (i : Instr) → instr_at instrs k ≡ Some i → HasCode s at instrs →
    instruction_at s (at + 4 * k) ≡ Some i
HasCode-at s at [] k i is code = absurd (cc)
HasCode-at s at (first ∷ instrs) zero i is code = ap (instruction_at s) (omega arith) ∙ HasCode-first code ∙ is
HasCode-at s at (first ∷ instrs) (suc k) i is code =
    ap (instruction_at s) (omega arith) ∙ HasCode-at s (at + 4) instrs k i is (HasCode-rest code)

steps_within : (c : Code) (at : ℕ) (instrs : List Instr) → Standing c at instrs → AreQuiet instrs → (n : ℕ) (s t : State) →
    IsAsLoaded c.given s → IsInRange s → RunsFrom instrs at n s t → Comes c t.pc n s t
steps_within c at instrs stands quiet zero s t as_loaded range runs =
    subst (λ u. Comes c u.pc zero s u) runs
    (record { led = StepsWithin-none c.Inside s; is_at = record { pc = refl; as_loaded = as_loaded; in_range = range } })
steps_within c at instrs stands quiet (suc n) s t as_loaded range runs =
    let u : State = runs.0 in
    let m : Moves instrs at s u = runs.1 in
    let there : instr_at instrs m.next.position ≡ Some m.instr = m.next.there in
    let here : IsAt c (at + 4 * m.next.position) s = record { pc = m.next.pc; as_loaded = as_loaded; in_range = range } in
    let stands_there : instruction_at s s.pc ≡ Some m.instr =
    ap (instruction_at s) m.next.pc ∙ HasCode-at s at instrs m.next.position m.instr there (stands.code s as_loaded) in
    let one : Steps 1 s u = Steps-at m.instr stands_there m.leads in
    let rest : Comes c t.pc n u t = steps_within c at instrs stands quiet n u t
    (IsAsLoaded-kept m.instr (quiet_at instrs m.next.position m.instr quiet there) m.leads as_loaded)
    (IsInRange-Steps 1 one range) runs.2 in
    record {
      led = subst (λ k. StepsWithin c.Inside k s t) (let e : 1 + n ≡ suc n = omega arith in e) (StepsWithin-add (StepsWithin-one one
          (stands.inside m.next.position s (at_within instrs m.next.position m.instr there) here)) rest.led);
      is_at = rest.is_at;
    }

-- a list that runs from where it stands is so many steps
pub Comes-Runs : {c : Code} {at n : ℕ} {instrs : List Instr} {s t : State} → Standing c at instrs → AreQuiet instrs → IsAt c at s →
    Runs instrs n s t → Comes c (at + 4 * length instrs) n s t
Comes-Runs {c} {at} {n} {instrs} {s} {t} stands quiet is_at runs =
    subst (λ to. Comes c to n s t) (omega (arith, runs.pc, is_at.pc))
    (steps_within c at instrs stands quiet n s t is_at.as_loaded is_at.in_range
    (subst (λ base. RunsFrom instrs base n s t) is_at.pc runs.steps))
