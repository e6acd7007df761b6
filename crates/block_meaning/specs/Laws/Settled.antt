-- Runs that are not stuck stay as they are where their parts do: what more turns and levels leave.
use Rattle.std.proofs.Common.{◌≡◌, refl, ap, ◌∙◌, ℕ, zero, suc, Bool, true, false, List, [], ◌∷◌, map, Option, Some, None}
use Rattle.block_meaning.specs.Running.{Stop, Stuck, State, Result, Goes, Stops, Run, gives, goes_on, and_then, one_of, unit_then, choice}
use Rattle.block_meaning.specs.Running.{stuck, with_some, all_of}

abbrev pub IsStop : Stop → Type 0
IsStop Stuck = ⊥
IsStop _ = Unit {0}

-- it is not stuck
abbrev pub IsWhole : {A : Type 0} → Result A → Type 0
IsWhole (Goes a now) = Unit {0}
IsWhole (Stops why now) = IsStop why

-- from each state where the one is not stuck the other does the same
pub record Settles {A : Type 0} (m m' : Run A) : Type 0 where
  pub same : (now : State) → IsWhole (m now) → m' now ≡ m now

pub settles-itself : {A : Type 0} (m : Run A) → Settles m m
settles-itself m = record { same = λ now whole. refl }

pub settles-stuck : {A : Type 0} (m : Run A) → Settles stuck m
settles-stuck m = record { same = λ now whole. absurd whole }

whole_from : {A B : Type 0} (r : Result A) (f : A → Run B) → IsWhole (goes_on r f) → IsWhole r
whole_from (Goes a now) f whole = tt
whole_from (Stops why now) f whole = whole

goes_same : {A B : Type 0} (r : Result A) (f f' : A → Run B) → ((a : A) → Settles (f a) (f' a)) → IsWhole (goes_on r f) →
    goes_on r f' ≡ goes_on r f
goes_same (Goes a now) f f' each whole = (each a).same now whole
goes_same (Stops why now) f f' each whole = refl

pub settles-then : {A B : Type 0} {m m' : Run A} {f f' : A → Run B} → Settles m m' → ((a : A) → Settles (f a) (f' a)) →
    Settles (and_then m f) (and_then m' f')
settles-then {m = m} {m' = m'} {f = f} {f' = f'} first each = record {
  same = λ now whole.
      ap (λ r. goes_on r f') (first.same now (whole_from (m now) f whole)) ∙ goes_same (m now) f f' each whole;
}

one_same : {A : Type 0} {m m' : Run A} → Settles m m' → (work : ℕ) (now : State) → IsWhole (one_of work m now) →
    one_of work m' now ≡ one_of work m now
one_same settles zero now whole = refl
one_same settles (suc left) now whole = settles.same (record now { work = left }) whole

pub settles-unit : {A : Type 0} {m m' : Run A} → Settles m m' → Settles (unit_then m) (unit_then m')
settles-unit settles = record { same = λ now whole. one_same settles now.work now whole }

pub settles-choice : {A : Type 0} {m m' n n' : Run A} (b : Bool) → Settles m m' → Settles n n' → Settles (choice b m n) (choice b m' n')
settles-choice true holds fails = record { same = λ now whole. holds.same now whole }
settles-choice false holds fails = record { same = λ now whole. fails.same now whole }

pub settles-all : {A B : Type 0} {f f' : B → Run A} → ((b : B) → Settles (f b) (f' b)) → (bs : List B) →
    Settles (all_of (map f bs)) (all_of (map f' bs))
settles-all each [] = settles-itself (gives [])
settles-all each (b ∷ bs) = settles-then (each b) (λ a. settles-then (settles-all each bs) (λ as'. settles-itself (gives (a ∷ as'))))

pub settles-some : {A B : Type 0} (a : Option A) {f f' : A → Run B} → ((a : A) → Settles (f a) (f' a)) →
    Settles (with_some a f) (with_some a f')
settles-some None each = settles-itself stuck
settles-some (Some a) each = each a
