-- A run is out of steps exactly where all of them ran and none ended it (this project's own).
use Rattle.std.specs.Prelude.{◌≡◌, ◌≢◌, ◌↔◌, ℕ, zero, suc, refl}
use Rattle.std.proofs.Common.{ap, sym, ◌∙◌}
use Rattle.a64_code.specs.State.{State}
use Rattle.a64_code.specs.Stepped.{Stepped, Leads, Ends}
use Rattle.a64_code.specs.Step.{step}
use Rattle.a64_code.specs.Laws.Ends.{EndsOfItself, step_own}
use Rattle.a64_code.specs.declared.end.MachineEnd.TheVariants.{OutOfSteps}
use Rattle.mte_machine.specs.Run.{Run, Running, Stopped, run, run_after, end_of, Steps}

-- a run that is stopped has an end of a step
abbrev pub StopsOfItself : Run → Type 0
StopsOfItself (Running s) = Unit {0}
StopsOfItself (Stopped end s) = end ≢ OutOfSteps

run_after-stops : (first : Stepped) (s : State) (go : State → Run) → EndsOfItself first → ((t : State) → StopsOfItself (go t)) →
    StopsOfItself (run_after first s go)
run_after-stops (Leads next) s go first rest = rest next
run_after-stops (Ends end) s go first rest = first

pub run-stops : (n : ℕ) (s : State) → StopsOfItself (run n s)
run-stops zero s = tt
run-stops (suc n) s = run_after-stops (step s) s (run n) (step_own s) (λ t. run-stops n t)

pub out_of_steps : (n : ℕ) (from : State) → (end_of (run n from) ≡ OutOfSteps) ↔ ((s : State) × Steps n from s)
out_of_steps n from = by_end (run n from) refl (run-stops n from)
  where
    by_end : (r : Run) → run n from ≡ r → StopsOfItself r → (end_of (run n from) ≡ OutOfSteps) ↔ ((s : State) × Steps n from s)
    by_end (Running s) ran own = (λ _. (s, record { runs = ran }), λ _. ap end_of ran)
    by_end (Stopped end s) ran own = (
      λ out. absurd (own (sym (ap end_of ran) ∙ out)),
      λ (t, steps). let both : Stopped end s ≡ Running t = sym ran ∙ steps.runs in absurd (cc),
    )
