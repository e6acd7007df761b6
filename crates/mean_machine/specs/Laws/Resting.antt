-- A machine that is led to its last state gets there step by step, and stays.
use Rattle.std.proofs.Common.{◌≡◌, refl, sym, ap, ◌∙◌, ℕ, zero, suc}
use Rattle.block_meaning.specs.declared.value.Value.{Value}
use Rattle.block_meaning.specs.Running.{Program, Result, Goes, Stops}
use Rattle.mean_machine.specs.Frames.{Machine}
use Rattle.mean_machine.specs.Steps.{step, run}
use Rattle.mean_machine.specs.Laws.Computes.{Leads}
use Rattle.mean_machine.specs.Laws.Programs.{last}

abbrev pub IsAtRest : Machine → Type 0
IsAtRest m = step m ≡ m

run_step : (n : ℕ) (m : Machine) → run n (step m) ≡ step (run n m)
run_step zero m = refl
run_step (suc n) m = run_step n (step m)

run_rests : (n : ℕ) (m : Machine) → IsAtRest m → run n m ≡ m
run_rests zero m rests = refl
run_rests (suc n) m rests = ap (run n) rests ∙ run_rests n m rests

-- one step on
pub leads-step : {m n : Machine} → IsAtRest n → Leads m n → Leads (step m) n
leads-step {m = m} rests leads = record { steps = leads.steps; is = run_step leads.steps m ∙ ap step leads.is ∙ rests }

-- where it rests, it is the last
pub leads-rests : {m n : Machine} → IsAtRest m → Leads m n → m ≡ n
leads-rests {m = m} rests leads = sym (run_rests leads.steps m rests) ∙ leads.is

pub last-rests : (program : Program) (r : Result Value) → IsAtRest (last program r)
last-rests program (Goes v now) = refl
last-rests program (Stops why now) = refl
