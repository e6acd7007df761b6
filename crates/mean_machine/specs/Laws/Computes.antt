-- From a stand the machine computes a run: where the run is not stuck, it leads to what follows for the run's result.
use Rattle.std.proofs.Common.{◌≡◌, refl, sym, subst, ap, ◌∙◌, arith, ℕ, zero, suc, ◌+◌, Bool, true, false, Option, Some, None}
use Rattle.block_meaning.specs.Laws.Settled.{IsWhole}
use Rattle.block_meaning.specs.Running.{Stop, State, Result, Goes, Stops, Run, goes_on, and_then, one_of, unit_then, choice, stuck}
use Rattle.block_meaning.specs.Running.{stops, with_some}
use Rattle.mean_machine.specs.Frames.{Machine}
use Rattle.mean_machine.specs.Going.{Stand, go_by, by, spend_of, spend, either}
use Rattle.mean_machine.specs.Steps.{step, run}

-- some steps lead from one machine to another
pub record Leads (m n : Machine) : Type 0 where
  pub steps : ℕ
  pub is : run steps m ≡ n

pub leads-itself : {m : Machine} → Leads m m
leads-itself = record { steps = 0; is = refl }

pub run_more : (j k : ℕ) (m : Machine) → run (j + k) m ≡ run k (run j m)
run_more zero k m = let none : 0 + k ≡ k = omega arith in ap (λ n. run n m) none
run_more (suc j) k m =
    let next : suc j + k ≡ suc (j + k) = omega arith in
    let below = run_more j k (step m) in
    ap (λ n. run n m) next ∙ below

pub leads-through : {m n o : Machine} → Leads m n → Leads n o → Leads m o
leads-through {m = m} first second = record {
  steps = first.steps + second.steps;
  is = run_more first.steps second.steps m ∙ ap (run second.steps) first.is ∙ second.is;
}

pub leads-next : {m n : Machine} → Leads (step m) n → Leads m n
leads-next rest = record { steps = suc rest.steps; is = rest.is }

pub record Computes {A : Type 0} (m : Run A) (from : Stand) (to : A → Stand) : Type 0 where
  pub leads : (now : State) → IsWhole (m now) → Leads (from now) (go_by (m now) to)

-- it does so in no step
pub computes-by : {A : Type 0} (m : Run A) (to : A → Stand) → Computes m (by m to) to
computes-by m to = record { leads = λ now whole. leads-itself }

pub computes-stuck : {A : Type 0} (from : Stand) (to : A → Stand) → Computes stuck from to
computes-stuck from to = record { leads = λ now whole. absurd whole }

-- after a step
pub computes-next : {A : Type 0} {m : Run A} {from : Stand} {to : A → Stand} → Computes m (λ now. step (from now)) to → Computes m from to
computes-next rest = record { leads = λ now whole. leads-next (rest.leads now whole) }

whole_first : {A B : Type 0} (r : Result A) (f : A → Run B) → IsWhole (goes_on r f) → IsWhole r
whole_first (Goes a now) f whole = tt
whole_first (Stops why now) f whole = whole

leads_on : {A B : Type 0} {f : A → Run B} {through : A → Stand} {to : B → Stand} (r : Result A) →
    ((a : A) → Computes (f a) (through a) to) → IsWhole (goes_on r f) → Leads (go_by r through) (go_by (goes_on r f) to)
leads_on (Goes a now) each whole = (each a).leads now whole
leads_on (Stops why now) each whole = leads-itself

pub computes-then : {A B : Type 0} {m : Run A} {f : A → Run B} {from : Stand} {through : A → Stand} {to : B → Stand} →
    Computes m from through → ((a : A) → Computes (f a) (through a) to) → Computes (and_then m f) from to
computes-then {m = m} {f = f} first each = record {
  leads = λ now whole. leads-through (first.leads now (whole_first (m now) f whole)) (leads_on (m now) each whole);
}

unit_leads : {A : Type 0} {m : Run A} {from : Stand} {to : A → Stand} → Computes m from to → (work : ℕ) (now : State) →
    IsWhole (one_of work m now) → Leads (spend_of work from now) (go_by (one_of work m now) to)
unit_leads each zero now whole = leads-itself
unit_leads each (suc rest) now whole = each.leads (record now { work = rest }) whole

pub computes-unit : {A : Type 0} {m : Run A} {from : Stand} {to : A → Stand} → Computes m from to →
    Computes (unit_then m) (spend from) to
computes-unit each = record { leads = λ now whole. unit_leads each now.work now whole }

pub computes-either : {A : Type 0} {m n : Run A} {from other : Stand} {to : A → Stand} (b : Bool) → Computes m from to →
    Computes n other to → Computes (choice b m n) (either b from other) to
computes-either true holds fails = record { leads = λ now whole. holds.leads now whole }
computes-either false holds fails = record { leads = λ now whole. fails.leads now whole }

-- with something that is there, where the machine takes it first
pub computes-some : {A B C : Type 0} {f : A → Run B} {to : B → Stand} (a : Option A) (g : A → Run C) (through : C → Stand) →
    ((x : A) → Computes (f x) (by (g x) through) to) → Computes (with_some a f) (by (with_some a g) through) to
computes-some None g through each = record { leads = λ now whole. absurd whole }
computes-some (Some x) g through each = record { leads = λ now whole. (each x).leads now whole }

-- where it stops otherwise
pub computes-choice : {A C : Type 0} {m : Run A} {to : A → Stand} (b : Bool) (why : Stop) (n : Run C) (through : C → Stand) →
    Computes m (by n through) to → Computes (choice b m (stops why)) (by (choice b n (stops why)) through) to
computes-choice true why n through each = record { leads = λ now whole. each.leads now whole }
computes-choice false why n through each = record { leads = λ now whole. leads-itself }

then_leads : {A B C : Type 0} {f : A → Run B} {to : B → Stand} (r : Result A) (g : A → Run C) (through : C → Stand) →
    ((a : A) → Computes (f a) (by (g a) through) to) → IsWhole (goes_on r f) →
    Leads (go_by (goes_on r g) through) (go_by (goes_on r f) to)
then_leads (Goes a now) g through each whole = (each a).leads now whole
then_leads (Stops why now) g through each whole = leads-itself

-- the one, where the machine takes it with a part of what follows
pub computes-with : {A B C : Type 0} {f : A → Run B} {to : B → Stand} (m : Run A) (g : A → Run C) (through : C → Stand) →
    ((a : A) → Computes (f a) (by (g a) through) to) → Computes (and_then m f) (by (and_then m g) through) to
computes-with m g through each = record { leads = λ now whole. then_leads (m now) g through each whole }

-- another run that is the same
pub computes-as : {A : Type 0} {m n : Run A} {from : Stand} {to : A → Stand} → ((now : State) → n now ≡ m now) →
    Computes m from to → Computes n from to
computes-as {n = n} {from = from} {to = to} same each = record {
  leads = λ now whole. subst (λ r. Leads (from now) (go_by r to)) (sym (same now)) (each.leads now (subst IsWhole (same now) whole));
}

grouped : {A B C : Type 0} (r : Result A) (f : A → Run B) (g : B → Run C) →
    goes_on (goes_on r f) g ≡ goes_on r (λ a. and_then (f a) g)
grouped (Goes a now) f g = refl
grouped (Stops why now) f g = refl

-- what follows the second part follows both
pub computes-grouped : {A B C : Type 0} {from : Stand} {to : C → Stand} (m : Run A) (f : A → Run B) (g : B → Run C) →
    Computes (and_then m (λ a. and_then (f a) g)) from to → Computes (and_then (and_then m f) g) from to
computes-grouped m f g each = computes-as (λ now. grouped (m now) f g) each
