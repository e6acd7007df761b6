-- An example: two instructions repeated any number of times, and two items likewise. What holds of them holds of all by the laws of
-- lists joined.
use Rattle.std.specs.Prelude.{◌≡◌, ℕ, zero, suc, ◌+◌, ◌*◌, ◌%◌, ◌^◌, ◌<◌, ◌≤◌, ◌==◌, true, false, List, [], ◌∷◌, ◌++◌, length, refl}
use Rattle.std.proofs.Common.{arith, ap, ◌∙◌, subst}
use Rattle.std.proofs.lemmas.Bool.Decides.{nat_tests}
use Rattle.mt_base.specs.Memory.{is_between}
use Rattle.a64_code.specs.declared.instr.Instr.{Instr}
use Rattle.a64_code.specs.declared.instr.Instr.TheVariants.{Movz, Str, Svc}
use Rattle.a64_code.specs.declared.instr.Reg.{Reg}
use Rattle.a64_code.specs.State.{State}
use Rattle.a64_laws.specs.Branches.{Forward, OnOther}
use Rattle.a64_laws.specs.Forms.{stack_pointer}
use Rattle.a64_laws.specs.Laws.Effects.Carried.{Carries, Carries-first, Carries-same, Carries-nil}
use Rattle.a64_laws.specs.Laws.Effects.EffectLeaves.{effect-led}
use Rattle.a64_laws.specs.Laws.Effects.Leaves.{Keeps}
use Rattle.a64_laws.specs.Laws.Touches.{touches_only-append, RunsFrom-touches}
use Rattle.a64_laws.specs.Runs.{RunsFrom}
use Rattle.a64_laws.specs.Touches.{Touch, touches_only, reach_from}
use Rattle.code_runs.specs.Items.{Item, Plain, Jump, HasAt}
use Rattle.code_runs.specs.Laws.CodeAt.{HasCode, HasCode-front, HasCode-back, HasCode-append, CannotBeWritten}
use Rattle.code_runs.specs.Laws.Items.{HasAt-append}
use Rattle.code_runs.specs.Laws.Straight.{Avoids, Avoids-append, Stays-avoids, are_straight, are_straight-append}
use Rattle.code_runs.specs.Laws.Straight.{Stays, Stays-append, Passes, Passes-Carries, Passes-protected}

abbrev x9 : Reg
x9 = record { 0 = 9 }

-- 7 at SP + 8, so many times
abbrev one : List Instr
one = Movz true 0 7 x9 ∷ Str true 1 stack_pointer x9 ∷ []

abbrev copies : ℕ → List Instr
copies zero = []
copies (suc n) = one ++ copies n

-- ---- what they touch

abbrev touch : Touch
touch = record { registers = λ n. n == 9; sp = false; flags = false; frame = 16; tags = false; draws = false; asks = false }

passes : (n : ℕ) (u : State) → touches_only touch (copies n) u ≡ true
passes zero u = refl
passes (suc n) u = touches_only-append touch one (copies n) u ∙ passes n u

kept : (n steps base : ℕ) (s t : State) → s.sp + 16 ≤ 2 ^ 56 → RunsFrom (copies n) base steps s t → Keeps (reach_from touch s.sp) s t
kept n steps base s t below runs = RunsFrom-touches touch (copies n) base steps s t (passes n) below runs

-- ---- as steps, whatever the rights of their region are

straight : (n : ℕ) → are_straight (copies n) ≡ true
straight zero = refl
straight (suc n) = are_straight-append one (copies n) ∙ straight n

-- below SP no byte is within their reach
apart : (sp at count a : ℕ) → sp + 16 ≤ 2 ^ 56 → at + count ≤ sp → a < at + count →
    is_between ((sp + 8) % 2 ^ 64 % 2 ^ 56) 8 a ≡ false
apart sp at count a below above within = grind (arith, nat_tests)

avoids_one : (at count : ℕ) (s : State) → s.sp + 16 ≤ 2 ^ 56 → at + count ≤ s.sp → Avoids at count one s
avoids_one at count s below above = (
  λ a from within. refl,
  λ t leads. let sp : t.sp ≡ s.sp = (effect-led (Movz true 0 7 x9) leads).keeps.sp refl in (
    λ a from within. apart t.sp at count a (omega (arith, below, sp)) (omega (arith, above, sp)) within,
    λ u leads_too. tt,
  ),
)

one_sp : (s t : State) → Carries one s t → t.sp ≡ s.sp
one_sp s t carries =
    let first = Carries-first (Movz true 0 7 x9) (Str true 1 stack_pointer x9 ∷ []) s t carries in
    let second = Carries-first (Str true 1 stack_pointer x9) [] first.next t first.rest in
    ap (λ (u : State). u.sp) (Carries-same second.rest (Carries-nil second.next))
    ∙ (effect-led (Str true 1 stack_pointer x9) second.first).keeps.sp refl
    ∙ (effect-led (Movz true 0 7 x9) first.first).keeps.sp refl

avoids : (n at count : ℕ) (s : State) → s.sp + 16 ≤ 2 ^ 56 → at + count ≤ s.sp → Avoids at count (copies n) s
avoids zero at count s below above = tt
avoids (suc n) at count s below above = Avoids-append at count one (copies n) s (avoids_one at count s below above)
    (λ t carries. let sp = one_sp s t carries in avoids n at count t (omega (arith, below, sp)) (omega (arith, above, sp)))

stepped : (n : ℕ) (s t : State) → HasCode s s.pc (copies n) → s.sp + 16 ≤ 2 ^ 56 → s.pc + 4 * length (copies n) ≤ s.sp →
    Carries (copies n) s t → Passes (length (copies n)) s t
stepped n s t code below above carries =
    Passes-Carries (copies n) s t (record { code = code; straight = straight n; within = omega (arith, below, above) })
    (Stays-avoids s.pc (4 * length (copies n)) (copies n) s (avoids n s.pc (4 * length (copies n)) s below above)) carries

-- before others, in whose states the bytes stay as well
stays_before : (n at count : ℕ) (others : List Instr) (s : State) → s.sp + 16 ≤ 2 ^ 56 → at + count ≤ s.sp →
    ((t : State) → Carries (copies n) s t → Stays at count others t) → Stays at count (copies n ++ others) s
stays_before n at count others s below above behind =
    Stays-append at count (copies n) others s (Stays-avoids at count (copies n) s (avoids n at count s below above)) behind

-- wherever SP is, where the code cannot be written
stepped_protected : (n : ℕ) (s t : State) → HasCode s s.pc (copies n) → CannotBeWritten s s.pc (4 * length (copies n)) →
    s.pc + 4 * length (copies n) < 2 ^ 64 → Carries (copies n) s t → Passes (length (copies n)) s t
stepped_protected n s t code cannot fits carries =
    Passes-protected (copies n) s t (record { code = code; straight = straight n; within = fits }) cannot carries

-- ---- where they stand

-- each in its place, so all of them one behind another
standing : (n at : ℕ) (s : State) → ((k : ℕ) → k < n → HasCode s (at + 8 * k) one) → HasCode s at (copies n)
standing zero at s each = record { stand = tt }
standing (suc n) at s each =
    HasCode-append one (copies n) (subst (λ (a : ℕ). HasCode s a one) (omega arith) (each 0 (omega arith)))
    (standing n (at + 8) s (λ k h. subst (λ (a : ℕ). HasCode s a one)
    (let e : at + 8 * suc k ≡ at + 8 + 8 * k = omega arith in e) (each (suc k) (omega (arith, h)))))

-- and each of them where all stand
each_stands : (n at k : ℕ) (s : State) → HasCode s at (copies n) → k < n → HasCode s (at + 8 * k) one
each_stands zero at k s code none = absurd (omega (arith, none))
each_stands (suc n) at zero s code h = subst (λ (a : ℕ). HasCode s a one) (omega arith) (HasCode-front one (copies n) code)
each_stands (suc n) at (suc k) s code h =
    subst (λ (a : ℕ). HasCode s a one) (let e : at + 8 + 8 * k ≡ at + 8 * suc k = omega arith in e)
    (each_stands n (at + 8) k s (HasCode-back one (copies n) code) (omega (arith, h)))

-- the same of items: a branch over the service that tells a division by zero
abbrev guard : List Item
guard = Jump (OnOther true x9) (Forward 2) ∷ Plain (Svc 4) ∷ []

abbrev guards : ℕ → List Item
guards zero = []
guards (suc n) = guard ++ guards n

guarded : (n at : ℕ) (loaded : State) → at + 8 * n < 2 ^ 64 → ((k : ℕ) → k < n → HasAt loaded (at + 8 * k) guard) →
    HasAt loaded at (guards n)
guarded zero at loaded below each = record { stand = tt; below = below }
guarded (suc n) at loaded below each =
    HasAt-append guard (guards n) (subst (λ (a : ℕ). HasAt loaded a guard) (omega arith) (each 0 (omega arith)))
    (guarded n (at + 8) loaded (omega (arith, below)) (λ k h. subst (λ (a : ℕ). HasAt loaded a guard)
    (let e : at + 8 * suc k ≡ at + 8 + 8 * k = omega arith in e) (each (suc k) (omega (arith, h)))))
