-- The outcomes of what the meaning puts together: one run and then another, and a unit of work (this project's own).
use Rattle.std.specs.Prelude.{◌≡◌, ℕ, zero, suc, refl}
use Rattle.block_meaning.specs.Running.{Result, Goes, Stops, Divide, Deep, More, IsUndefined, Stuck, Run, State as MeaningState}
use Rattle.block_meaning.specs.Running.{and_then, goes_on, one_of, unit_then}
use Rattle.code_runs.specs.Outcome.{followed_by, where_left, spends}
use Rattle.code_relation.specs.Outcomes.{outcome_of}

outcome_of-on : {A B : Type 0} (r : Result A) (f : A → Run B) →
    outcome_of (goes_on r f) ≡ followed_by (outcome_of r) (λ a later. outcome_of (f a later))
outcome_of-on (Goes a now) f = refl
outcome_of-on (Stops Divide now) f = refl
outcome_of-on (Stops Deep now) f = refl
outcome_of-on (Stops More now) f = refl
outcome_of-on (Stops (IsUndefined u) now) f = refl
outcome_of-on (Stops Stuck now) f = refl

pub outcome_of-then : {A B : Type 0} (m : Run A) (f : A → Run B) (now : MeaningState) →
    outcome_of (and_then m f now) ≡ followed_by (outcome_of (m now)) (λ a later. outcome_of (f a later))
outcome_of-then m f now = outcome_of-on (m now) f

-- the state with a unit less
abbrev pub one_less : ℕ → ℕ
one_less zero = zero
one_less (suc rest) = rest

abbrev pub spent : MeaningState → MeaningState
spent now = record now { work = one_less now.work }

abbrev pub work_of : MeaningState → ℕ
work_of now = now.work

outcome_of-one : {A : Type 0} (work : ℕ) (m : Run A) (now : MeaningState) →
    outcome_of (one_of work m now) ≡ where_left work now (outcome_of (m (record now { work = one_less work })))
outcome_of-one zero m now = refl
outcome_of-one (suc rest) m now = refl

pub outcome_of-unit : {A : Type 0} (m : Run A) (now : MeaningState) →
    outcome_of (unit_then m now) ≡ spends work_of spent (λ later. outcome_of (m later)) now
outcome_of-unit m now = outcome_of-one now.work m now
