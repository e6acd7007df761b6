-- Code without branches: as many steps as instructions, where it stays as it is (this project's own).
use Rattle.std.specs.Prelude.{◌≡◌, ℕ, zero, suc, ◌+◌, ◌*◌, ◌^◌, ◌<◌, ◌≤◌, Bool, true, false, if◌then◌else◌, List, [], ◌∷◌, ◌++◌, length}
use Rattle.std.specs.Prelude.{◌&&◌, refl}
use Rattle.std.proofs.Common.{sym, ◌∙◌, subst, arith}
use Rattle.a64_code.specs.declared.instr.Instr.{Instr}
use Rattle.a64_code.specs.State.{State}
use Rattle.a64_code.specs.Stepped.{Leads}
use Rattle.a64_code.specs.Effect.{effect}
use Rattle.a64_code.specs.Step.{step}
use Rattle.a64_code.specs.Laws.Reach.{Reach, is_branch, reach, reach-branches}
use Rattle.a64_laws.specs.Laws.Effects.EffectLeaves.{effect-led}
use Rattle.a64_laws.specs.Laws.Effects.Carried.{Carries, CarriesFrom, Carries-first, Carries-same, Carries-nil, Carries-cons}
use Rattle.a64_laws.specs.Laws.Effects.Reaches.{AllWithin}
use Rattle.mte_machine.specs.Run.{Steps}
use Rattle.mte_machine.specs.Laws.Steps.{Steps-none, Steps-add, Steps-same, Steps-behind}
use Rattle.code_runs.specs.Laws.Fixed.{Fixed, Fixed-same, Fixed-then, Fixed-effect}
use Rattle.code_runs.specs.Laws.CodeAt.{HasCode, HasCode-first, HasCode-rest, HasCode-kept, SameAt, SameAt-within, SameAt-fixed}
use Rattle.code_runs.specs.Laws.CodeAt.{CannotBeWritten, CannotBeWritten-fixed, step-at, Steps-at}

-- ---- instructions that leave bytes as they are

-- so many bytes from an address on stay in each state that the instructions lead through, one after another
abbrev pub Stays : ℕ → ℕ → List Instr → State → Type 0
Stays at count [] s = Unit {0}
Stays at count (instr ∷ instrs) s = (t : State) → effect instr s ≡ Leads t → SameAt at count s t × Stays at count instrs t

-- none of these bytes is within reach of an instruction, where it is carried out
abbrev pub Avoids : ℕ → ℕ → List Instr → State → Type 0
Avoids at count [] s = Unit {0}
Avoids at count (instr ∷ instrs) s =
    ((a : ℕ) → at ≤ a → a < at + count → (reach instr s).bytes a ≡ false)
    × ((t : State) → effect instr s ≡ Leads t → Avoids at count instrs t)

-- as where all of them reach no further than what does not meet the bytes
pub Avoids-within : (r : Reach) (at count : ℕ) (instrs : List Instr) (s : State) → ((a : ℕ) → at ≤ a → a < at + count → r.bytes a ≡ false)
    → AllWithin r instrs s →
    Avoids at count instrs s
Avoids-within r at count [] s apart within = tt
Avoids-within r at count (instr ∷ instrs) s apart within =
    (λ a from below. within.0.bytes a (apart a from below), λ t leads. Avoids-within r at count instrs t apart (within.1 t leads))

pub Stays-append : (at count : ℕ) (xs ys : List Instr) (s : State) → Stays at count xs s →
    ((t : State) → Carries xs s t → Stays at count ys t) → Stays at count (xs ++ ys) s
Stays-append at count [] ys s stays behind = behind s (Carries-nil s)
Stays-append at count (x ∷ xs) ys s stays behind =
    λ t leads. ((stays t leads).0, Stays-append at count xs ys t (stays t leads).1 (λ u carries. behind u (Carries-cons leads carries)))

pub Avoids-append : (at count : ℕ) (xs ys : List Instr) (s : State) → Avoids at count xs s →
    ((t : State) → Carries xs s t → Avoids at count ys t) → Avoids at count (xs ++ ys) s
Avoids-append at count [] ys s avoids behind = behind s (Carries-nil s)
Avoids-append at count (x ∷ xs) ys s avoids behind =
    (avoids.0, λ t leads. Avoids-append at count xs ys t (avoids.1 t leads) (λ u carries. behind u (Carries-cons leads carries)))

pub Stays-avoids : (at count : ℕ) (instrs : List Instr) (s : State) → Avoids at count instrs s → Stays at count instrs s
Stays-avoids at count [] s avoids = tt
Stays-avoids at count (instr ∷ instrs) s avoids = λ t leads. (
  (let left = effect-led instr leads in
      record { regions = left.keeps.regions; bytes = λ a from below. left.keeps.bytes a (avoids.0 a from below) }),
  Stays-avoids at count instrs t (avoids.1 t leads),
)

pub Stays-protected : (at count : ℕ) (instrs : List Instr) (s : State) → CannotBeWritten s at count → Stays at count instrs s
Stays-protected at count [] s cannot = tt
Stays-protected at count (instr ∷ instrs) s cannot = λ t leads.
    let fixed = Fixed-effect instr leads in
    (SameAt-fixed fixed cannot, Stays-protected at count instrs t (CannotBeWritten-fixed fixed cannot))

-- fewer bytes stay as well
pub Stays-within : (at count first fewer : ℕ) (instrs : List Instr) (s : State) → at ≤ first → first + fewer ≤ at + count →
    Stays at count instrs s → Stays first fewer instrs s
Stays-within at count first fewer [] s from to stays = tt
Stays-within at count first fewer (instr ∷ instrs) s from to stays =
    λ t leads. (SameAt-within (stays t leads).0 from to, Stays-within at count first fewer instrs t from to (stays t leads).1)

-- ---- the steps

-- none of them is a branch
abbrev pub are_straight : List Instr → Bool
are_straight [] = true
are_straight (instr ∷ instrs) = if is_branch instr then false else are_straight instrs

pub are_straight-append : (xs ys : List Instr) → are_straight (xs ++ ys) ≡ (are_straight xs && are_straight ys)
are_straight-append [] ys = refl
are_straight-append (x ∷ xs) ys = by_first (is_branch x) (are_straight-append xs ys)
  where
    by_first : (branches : Bool) → are_straight (xs ++ ys) ≡ (are_straight xs && are_straight ys) →
        (if branches then false else are_straight (xs ++ ys)) ≡ ((if branches then false else are_straight xs) && are_straight ys)
    by_first true again = refl
    by_first false again = again

-- so many steps lead there, past so many instructions, one after another
pub record Passes (n : ℕ) (from to : State) : Type 0 where
  pub steps : Steps n from to
  pub pc : to.pc ≡ from.pc + 4 * n
  pub between : (k : ℕ) → k < n → (s : State) → Steps k from s → s.pc ≡ from.pc + 4 * k
  pub same : Fixed from to

-- these instructions stand at PC, none is a branch, and PC does not wrap
pub record IsAhead (instrs : List Instr) (s : State) : Type 0 where
  pub code : HasCode s s.pc instrs
  pub straight : are_straight instrs ≡ true
  pub within : s.pc + 4 * length instrs < 2 ^ 64

next_pc : (instr : Instr) (s t : State) → is_branch instr ≡ false → s.pc + 4 < 2 ^ 64 → effect instr s ≡ Leads t → t.pc ≡ s.pc + 4
next_pc instr s t straight within leads = (effect-led instr leads).pc (reach-branches instr s ∙ straight) ∙ omega (arith, within)

passes_first : (instr : Instr) (instrs : List Instr) (s t : State) → IsAhead (instr ∷ instrs) s →
    Stays s.pc (4 * suc (length instrs)) (instr ∷ instrs) s →
    CarriesFrom instr instrs s t →
    ((u : State) → IsAhead instrs u → Stays u.pc (4 * length instrs) instrs u → Carries instrs u t → Passes (length instrs) u t) →
    Passes (suc (length instrs)) s t
passes_first instr instrs s t ahead stays parts again = by_branch (is_branch instr) refl
  where
    kept : SameAt s.pc (4 * suc (length instrs)) s parts.next
    kept = (stays parts.next parts.first).0

    stands : step s ≡ Leads parts.next
    stands = step-at instr s (HasCode-first ahead.code) ∙ parts.first

    by_branch : (branches : Bool) → is_branch instr ≡ branches → Passes (suc (length instrs)) s t
    by_branch true is = absurd (let e : false ≡ true = rw is at ahead.straight in cc)
    by_branch false is = record {
      steps = subst (λ (n : ℕ). Steps n s t) (omega arith) (Steps-add (Steps-at instr (HasCode-first ahead.code) parts.first) rest.steps);
      pc = rest.pc ∙ omega (arith, pc);
      between = places;
      same = Fixed-then (Fixed-effect instr parts.first) rest.same;
    }
      where
        pc : parts.next.pc ≡ s.pc + 4
        pc = next_pc instr s parts.next is (omega (arith, ahead.within)) parts.first

        rest : Passes (length instrs) parts.next t
        rest = again parts.next
            (record {
              code = HasCode-kept (SameAt-within kept (omega (arith, pc)) (omega (arith, pc)))
                  (subst (λ (at : ℕ). HasCode s at instrs) (sym pc) (HasCode-rest ahead.code));
              straight = rw is at ahead.straight;
              within = omega (arith, ahead.within, pc);
            })
            (Stays-within s.pc (4 * suc (length instrs)) parts.next.pc (4 * length instrs) instrs parts.next (omega (arith, pc))
            (omega (arith, pc)) (stays parts.next parts.first).1)
            parts.rest

        places : (k : ℕ) → k < suc (length instrs) → (u : State) → Steps k s u → u.pc ≡ s.pc + 4 * k
        places zero within u led = let same : s ≡ u = Steps-same (Steps-none s) led in
            subst (λ (v : State). v.pc ≡ s.pc + 4 * zero) same (omega arith)
        places (suc k) within u led = rest.between k (omega (arith, within)) u (Steps-behind stands led) ∙ omega (arith, pc)

-- they are as many steps as instructions, where the bytes of the code stay
pub Passes-Carries : (instrs : List Instr) (s t : State) → IsAhead instrs s → Stays s.pc (4 * length instrs) instrs s →
    Carries instrs s t → Passes (length instrs) s t
Passes-Carries [] s t ahead stays carries =
    subst (Passes 0 s) (Carries-same (Carries-nil s) carries)
    (record { steps = Steps-none s; pc = omega arith; between = λ k none u led. absurd (omega (arith, none)); same = Fixed-same s })
Passes-Carries (instr ∷ instrs) s t ahead stays carries =
    passes_first instr instrs s t ahead stays (Carries-first instr instrs s t carries) (λ u. Passes-Carries instrs u t)

-- and so do those of code that cannot be written
pub Passes-protected : (instrs : List Instr) (s t : State) → IsAhead instrs s → CannotBeWritten s s.pc (4 * length instrs) →
    Carries instrs s t → Passes (length instrs) s t
Passes-protected instrs s t ahead cannot carries =
    Passes-Carries instrs s t ahead (Stays-protected s.pc (4 * length instrs) instrs s cannot) carries
