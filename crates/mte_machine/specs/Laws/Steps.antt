-- Runs in pieces: what some steps lead to, and what a run does from there (this project's own).
use Rattle.std.proofs.Common.{◌≡◌, ◌≢◌, ◌<◌, ℕ, zero, suc, ◌+◌, ◌-◌, refl, ap, sym, ◌∙◌, subst, arith, zero-add}
use Rattle.std.proofs.Math.Nat.{suc-add}
use Rattle.a64_code.specs.State.{State}
use Rattle.a64_code.specs.Stepped.{Stepped, Leads, Ends}
use Rattle.a64_code.specs.Step.{step}
use Rattle.a64_code.specs.declared.end.MachineEnd.{MachineEnd}
use Rattle.a64_code.specs.declared.end.MachineEnd.TheVariants.{OutOfSteps}
use Rattle.mte_machine.specs.Run.{Run, Running, Stopped, run, run_after, end_of, Steps}

-- at most n steps more, where a run can still go on
abbrev pub run_on : ℕ → Run → Run
run_on n (Running s) = run n s
run_on n (Stopped end s) = Stopped end s

-- in two pieces behind the first step as well, where that holds of each state that the step leads to
run_after-add : (m n : ℕ) (s : State) (first : Stepped) → ((t : State) → run (m + n) t ≡ run_on n (run m t)) →
    run_after first s (run (m + n)) ≡ run_on n (run_after first s (run m))
run_after-add m n s (Leads next) rest = rest next
run_after-add m n s (Ends end) rest = refl

-- a run whole is the run in two pieces
pub run-add : (m n : ℕ) (s : State) → run (m + n) s ≡ run_on n (run m s)
run-add zero n s = rw (zero-add n) refl
run-add (suc m) n s = rw (suc-add m n) (run_after-add m n s (step s) (λ t. run-add m n t))

-- no step leads to where the run stands
pub Steps-none : (s : State) → Steps 0 s s
Steps-none s = record { runs = refl }

pub Steps-one : (s t : State) → step s ≡ Leads t → Steps 1 s t
Steps-one s t leads = record { runs = ap (λ first. run_after first s (run 0)) leads }

-- what steps lead to, composed
pub Steps-add : {m n : ℕ} {r s t : State} → Steps m r s → Steps n s t → Steps (m + n) r t
Steps-add {m} {n} {r} first then = record { runs = run-add m n r ∙ ap (run_on n) first.runs ∙ then.runs }

-- after some steps a run goes on as from where they lead
pub run-steps : {m : ℕ} {s t : State} (n : ℕ) → Steps m s t → run (m + n) s ≡ run n t
run-steps {m} {s} n first = run-add m n s ∙ ap (run_on n) first.runs

-- a step that ends the run ends it within any number of steps that reaches it
pub run-ends : {m : ℕ} {s t : State} {end : MachineEnd} (n : ℕ) → Steps m s t → step t ≡ Ends end → m < n → run n s ≡ Stopped end t
run-ends {m} {s} {t} {end} n first ends within =
    subst (λ k. run k s ≡ Stopped end t) (omega arith)
    (run-steps (suc (n - suc m)) first ∙ ap (λ last. run_after last t (run (n - suc m))) ends)

-- and a run that has stopped does nothing more
pub run-stopped : (m n : ℕ) (s : State) {t : State} {end : MachineEnd} → run m s ≡ Stopped end t → run (m + n) s ≡ Stopped end t
run-stopped m n s stops = run-add m n s ∙ ap (run_on n) stops

-- so does one that is over for another cause than want of steps
pub run-over : (m n : ℕ) (s : State) → end_of (run m s) ≢ OutOfSteps → run (m + n) s ≡ run m s
run-over m n s over = run-add m n s ∙ by_run (run m s) over
  where
    by_run : (r : Run) → end_of r ≢ OutOfSteps → run_on n r ≡ r
    by_run (Running t) out = absurd (out refl)
    by_run (Stopped end t) out = refl

-- ---- steps in pieces

-- as many steps lead to one state
pub Steps-same : {n : ℕ} {r s t : State} → Steps n r s → Steps n r t → s ≡ t
Steps-same {n} {r} {s} {t} first second = let same : Running s ≡ Running t = sym first.runs ∙ second.runs in cc

-- the state between two pieces
pub record StepsBy (m n : ℕ) (from to : State) : Type 0 where
  pub between : State
  pub before : Steps m from between
  pub behind : Steps n between to

pub Steps-split : (m n : ℕ) (s t : State) → Steps (m + n) s t → StepsBy m n s t
Steps-split m n s t all = by_run (run m s) refl
  where
    by_run : (r : Run) → run m s ≡ r → StepsBy m n s t
    by_run (Running u) is = record {
      between = u;
      before = record { runs = is };
      behind = record { runs = sym (ap (run_on n) is) ∙ sym (run-add m n s) ∙ all.runs };
    }
    by_run (Stopped end u) is = let ran : Stopped end u ≡ Running t = sym (ap (run_on n) is) ∙ sym (run-add m n s) ∙ all.runs in
        absurd (cc)

-- the first of several steps
pub record StepsFrom (n : ℕ) (from to : State) : Type 0 where
  pub next : State
  pub first : step from ≡ Leads next
  pub rest : Steps n next to

pub Steps-first : (n : ℕ) (s t : State) → Steps (suc n) s t → StepsFrom n s t
Steps-first n s t all = by_first (step s) refl
  where
    by_first : (first : Stepped) → step s ≡ first → StepsFrom n s t
    by_first (Leads next) is =
        record { next = next; first = is; rest = record { runs = sym (ap (λ (done : Stepped). run_after done s (run n)) is) ∙ all.runs } }
    by_first (Ends end) is = let ran : Stopped end s ≡ Running t = sym (ap (λ (done : Stepped). run_after done s (run n)) is)
        ∙ all.runs in absurd (cc)

-- behind a first step that is known
pub Steps-behind : {n : ℕ} {s next t : State} → step s ≡ Leads next → Steps (suc n) s t → Steps n next t
Steps-behind {n} {s} {next} {t} leads all = record { runs = sym (ap (λ (done : Stepped). run_after done s (run n)) leads) ∙ all.runs }
