-- A run: steps one after another, until one ends it or no more are allowed (this project's own).
use Rattle.std.specs.Prelude.{◌≡◌, ℕ, zero, suc, List, Option}
use Rattle.a64_code.specs.State.{State}
use Rattle.a64_code.specs.Stepped.{Stepped, Leads, Ends}
use Rattle.a64_code.specs.Step.{step}
use Rattle.a64_code.specs.Services.{output_at}
use Rattle.a64_code.specs.declared.end.MachineEnd.{MachineEnd}
use Rattle.a64_code.specs.declared.end.MachineEnd.TheVariants.{OutOfSteps}
use Rattle.mte_machine.specs.declared.step.Step.{Step}
use Rattle.mte_machine.specs.declared.step.Step.TheVariants.{Ran, Ended}

-- where a run stands: it can go on from a state, or a step has ended it and left the state as it was
pub data Run : Type 0 where
  Running : State → Run
  Stopped : MachineEnd → State → Run

-- where a run from a state stands once its first step has done this
abbrev pub run_after : Stepped → State → (State → Run) → Run
run_after (Leads next) s go = go next
run_after (Ends end) s go = Stopped end s

-- at most n steps
abbrev pub run : ℕ → State → Run
run zero s = Running s
run (suc n) s = run_after (step s) s (run n)

-- n steps lead from one state to another, and none of them ends the run
pub record Steps (n : ℕ) (from to : State) : Type 0 where
  pub runs : run n from ≡ Running to

-- what a step answers, and the state that it leaves
abbrev pub StepsAs : Stepped → State → Step → State → Type 0
StepsAs (Leads next) old answer new = (answer ≡ Ran) × (new ≡ next)
StepsAs (Ends end) old answer new = (answer ≡ Ended end) × (new ≡ old)

-- how a run ends, where one that can go on is out of steps
abbrev pub end_of : Run → MachineEnd
end_of (Running s) = OutOfSteps
end_of (Stopped end s) = end

-- the state that a run leaves
abbrev pub state_after : Run → State
state_after (Running s) = s
state_after (Stopped end s) = s

-- what the sink has taken once a run is over, and what the source still answers
abbrev pub output_after : Run → List ℕ
output_after (Running s) = s.outside.output
output_after (Stopped end s) = output_at end s

abbrev pub answers_after : Run → List (Option ℕ)
answers_after (Running s) = s.outside.answers
answers_after (Stopped end s) = s.outside.answers
