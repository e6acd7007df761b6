-- Steps inside, composed (this project's own).
use Rattle.std.specs.Prelude.{ℕ, ◌+◌, ◌-◌, ◌≤◌}
use Rattle.std.proofs.Common.{arith, subst, inl, inr}
use Rattle.std.proofs.lemmas.Bool.{cases_lt}
use Rattle.a64_code.specs.State.{State}
use Rattle.mte_machine.specs.Run.{Steps}
use Rattle.mte_machine.specs.Laws.Steps.{Steps-none, Steps-add, Steps-same, Steps-split}
use Rattle.code_runs.specs.Within.{StepsWithin}

pub StepsWithin-none : (Inside : State → Type 0) (s : State) → StepsWithin Inside 0 s s
StepsWithin-none Inside s = record { steps = Steps-none s; inside = λ k none t led. absurd (omega (arith, none)) }

pub StepsWithin-one : {Inside : State → Type 0} {s t : State} → Steps 1 s t → Inside s → StepsWithin Inside 1 s t
StepsWithin-one {Inside} {s} step is = record {
  steps = step;
  inside = λ k one u led. subst Inside (Steps-same (Steps-none s) (subst (λ (n : ℕ). Steps n s u) (omega (arith, one)) led)) is;
}

pub StepsWithin-add : {Inside : State → Type 0} {m n : ℕ} {r s t : State} → StepsWithin Inside m r s → StepsWithin Inside n s t →
    StepsWithin Inside (m + n) r t
StepsWithin-add {Inside} {m} {n} {r} {s} {t} first rest = record {
  steps = Steps-add first.steps rest.steps;
  inside = λ k within u led. elim (cases_lt k m) [
    | inl early ↦ first.inside k early u led
    | inr late ↦
        let parts = Steps-split m (k - m) r u (subst (λ (steps : ℕ). Steps steps r u) (omega (arith, late)) led) in
        rest.inside (k - m) (omega (arith, within, late)) u (subst (λ (v : State). Steps (k - m) v u)
        (Steps-same parts.before first.steps) parts.behind)
  ];
}

-- as many of the first steps as one likes
pub record StepsUpTo (Inside : State → Type 0) (n : ℕ) (from : State) : Type 0 where
  pub to : State
  pub led : StepsWithin Inside n from to

pub StepsWithin-first : {Inside : State → Type 0} {m : ℕ} {s t : State} (n : ℕ) → n ≤ m → StepsWithin Inside m s t → StepsUpTo Inside n s
StepsWithin-first {Inside} {m} {s} {t} n fewer all =
    let parts = Steps-split n (m - n) s t (subst (λ (steps : ℕ). Steps steps s t) (omega (arith, fewer)) all.steps) in
    record { to = parts.between; led = record { steps = parts.before; inside = λ k within. all.inside k (omega (arith, within, fewer)) } }

-- where each state of one kind is of the other
pub StepsWithin-wider : {Inside Wider : State → Type 0} {n : ℕ} {s t : State} → ((u : State) → Inside u → Wider u) →
    StepsWithin Inside n s t → StepsWithin Wider n s t
StepsWithin-wider wider among = record { steps = among.steps; inside = λ k within u led. wider u (among.inside k within u led) }
