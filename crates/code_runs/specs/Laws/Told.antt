-- What bounded runs tell of runs of the machine (this project's own).
use Rattle.std.specs.Prelude.{◌≡◌, ℕ, ◌-◌, ◌*◌, ◌≤◌}
use Rattle.std.proofs.Common.{arith, sym, ◌∙◌, subst}
use Rattle.a64_code.specs.State.{State}
use Rattle.a64_code.specs.Stepped.{Ends}
use Rattle.a64_code.specs.Step.{step}
use Rattle.a64_code.specs.declared.end.MachineEnd.{MachineEnd}
use Rattle.mte_machine.specs.Run.{Running, Stopped, run, Steps}
use Rattle.mte_machine.specs.Laws.Steps.{Steps-same, Steps-split, run-ends}
use Rattle.code_runs.specs.Laws.Outputs.{IsPrefix, Grows-Steps}
use Rattle.code_runs.specs.Outcome.{Finishes, Lacks}
use Rattle.code_runs.specs.Within.{StepsWithin}
use Rattle.code_runs.specs.Bounded.{Setting, Room, IsOver, Bounded}
use Rattle.code_runs.specs.Laws.Within.{StepsWithin-first}
use Rattle.code_runs.specs.Laws.Bounded.{opened}

-- ---- output on the way

-- what fewer steps have put begins what more have
pub Steps-output : {m n : ℕ} {s t u : State} → m ≤ n → Steps m s t → Steps n s u → IsPrefix t.outside.output u.outside.output
Steps-output {m} {n} {s} {t} {u} fewer first all =
    let parts = Steps-split m (n - m) s u (subst (λ (steps : ℕ). Steps steps s u) (omega (arith, fewer)) all) in
    let grows = Grows-Steps (n - m) parts.behind in
    subst (λ (v : State). IsPrefix v.outside.output u.outside.output) (Steps-same parts.before first)
    (record { rest = grows.put; is = grows.output })

-- ---- work is lacking

-- so many steps are made inside, none of them ends the run, and what they have put begins the source's output
pub record RunsOn {Now End : Type 0} (c : Setting Now End) (n : ℕ) (s : State) (now : Now) : Type 0 where
  pub to : State
  pub led : StepsWithin c.Inside n s to
  pub begun : IsPrefix to.outside.output (c.output now)

-- as many as there was work are such
pub runs_on : {Now End Value : Type 0} {c : Setting Now End} {work : ℕ} {room : Value → Room} {s : State} {Q : Value → Now → State →
    Type 0} {now : Now} (n : ℕ) →
    n ≤ work → Bounded c (opened c work) room s Q (Lacks now) → RunsOn c n s now
runs_on {c = c} {s = s} {now = now} n fewer lacks =
    let first = StepsWithin-first n (omega (arith, fewer, lacks.does.least)) lacks.does.led in
    record {
      to = first.to;
      led = first.led;
      begun = subst (IsPrefix first.to.outside.output) lacks.does.there
          (Steps-output (omega (arith, fewer, lacks.does.least)) first.led.steps lacks.does.led.steps);
    }

-- ---- the source is over

-- a run of so many steps has stopped, where the source is over
pub record RunStops {Now End : Type 0} (c : Setting Now End) (n : ℕ) (s : State) (machine_end : MachineEnd) (end : End)
    (now : Now) : Type 0 where
  pub to : State
  pub stopped : run n s ≡ Stopped machine_end to
  pub over : IsOver c end now to

-- as where the step of the end ends the run, and `per` steps were allowed for each unit of work
pub run_stops : {Now End Value : Type 0} {c : Setting Now End} {work : ℕ} {room : Value → Room} {s : State} {Q : Value → Now → State →
    Type 0} {end : End} {now : Now} (n : ℕ) (machine_end : MachineEnd) →
    ((t : State) → c.Over end now t → step t ≡ Ends machine_end) → c.per * work ≤ n →
    Bounded c (opened c work) room s Q (Finishes end now) →
    RunStops c n s machine_end end now
run_stops {c = c} n machine_end ends enough finished = record {
  to = finished.does.to;
  stopped = run-ends n finished.does.led.steps (ends finished.does.to finished.does.there.over)
      (omega (arith, enough, finished.does.most));
  over = finished.does.there;
}

-- ---- runs that have stopped

-- a run that has stopped after no more steps than there was work does not lack any
pub stopped_lacks : {Now End Value : Type 0} {c : Setting Now End} {work n : ℕ} {room : Value →
    Room} {s t : State} {end : MachineEnd} {Q : Value → Now → State → Type 0} {now : Now} →
    n ≤ work → run n s ≡ Stopped end t → Bounded c (opened c work) room s Q (Lacks now) → ⊥
stopped_lacks {n = n} {s} {t} {end} fewer stopped lacks =
    let on = runs_on n fewer lacks in
    let both : Running on.to ≡ Stopped end t = sym on.led.steps.runs ∙ stopped in
    absurd (cc)
