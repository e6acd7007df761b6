-- A run over an outside that may fail is the run over the same outside of which nothing fails, up to the call that fails
-- (this project's own).
use Rattle.std.specs.Prelude.{◌≡◌, ℕ, zero, suc, ◌+◌, ◌-◌, ◌<◌, Bool, true, false, if◌then◌else◌, List, [], ◌∷◌, ◌++◌, refl}
use Rattle.std.proofs.Common.{ap, ◌∙◌, subst, arith}
use Rattle.a64_code.specs.declared.end.MachineEnd.{MachineEnd}
use Rattle.a64_code.specs.declared.end.MachineEnd.TheVariants.{InputFault, OutputFault}
use Rattle.a64_code.specs.State.{State}
use Rattle.a64_code.specs.Stepped.{Stepped, Leads, Ends}
use Rattle.a64_code.specs.Services.{low_byte}
use Rattle.a64_code.specs.Step.{step}
use Rattle.a64_laws.specs.Laws.Effects.Unfailing.{unfailed, LeadsOnWith, DoesSame, step-unfailed}
use Rattle.mte_machine.specs.Run.{Run, Running, Stopped, run, run_after, output_after, Steps}
use Rattle.mte_machine.specs.Laws.Steps.{Steps-none, Steps-one, Steps-add}
use Rattle.code_runs.specs.Laws.Outputs.{IsPrefix, IsPrefix-same, IsPrefix-then, output_after-more}

-- a call that fewer than n steps lead to fails so, and as many steps lead there where nothing fails
pub record FailsWithin (n : ℕ) (from to : State) (fault : MachineEnd) : Type 0 where
  pub steps : ℕ
  pub fewer : steps < n
  pub led : Steps steps from to
  pub unfailing : Steps steps (unfailed from) (unfailed to)
  pub call : step to ≡ Ends fault

-- By where a run of at most n steps stands, where it stands if nothing fails: in the same state, or with the same end, but
-- for the failures; or a call failed within it.
abbrev pub RunsSame : ℕ → State → Run → Type 0
RunsSame n from (Running t) = run n (unfailed from) ≡ Running (unfailed t)
RunsSame n from (Stopped InputFault t) = FailsWithin n from t InputFault
RunsSame n from (Stopped OutputFault t) = FailsWithin n from t OutputFault
RunsSame n from (Stopped end t) = run n (unfailed from) ≡ Stopped end (unfailed t)

FailsWithin-behind : (n : ℕ) (s u t : State) (fault : MachineEnd) → step s ≡ Leads u → step (unfailed s) ≡ Leads (unfailed u) →
    FailsWithin n u t fault → FailsWithin (suc n) s t fault
FailsWithin-behind n s u t fault one there within = record {
  steps = 1 + within.steps;
  fewer = omega (arith, within.fewer);
  led = Steps-add (Steps-one s u one) within.led;
  unfailing = Steps-add (Steps-one (unfailed s) (unfailed u) there) within.unfailing;
  call = within.call;
}

behind_first : (n : ℕ) (s u : State) → step s ≡ Leads u → step (unfailed s) ≡ Leads (unfailed u) → (r : Run) → RunsSame n u r →
    RunsSame (suc n) s r
behind_first n s u one there (Running t) again = ap (λ (done : Stepped). run_after done (unfailed s) (run n)) there ∙ again
behind_first n s u one there (Stopped InputFault t) again = FailsWithin-behind n s u t InputFault one there again
behind_first n s u one there (Stopped OutputFault t) again = FailsWithin-behind n s u t OutputFault one there again
behind_first n s u one there (Stopped end t) again = ap (λ (done : Stepped). run_after done (unfailed s) (run n)) there ∙ again

at_first : (n : ℕ) (s : State) (end : MachineEnd) → step s ≡ Ends end → DoesSame s (Ends end) (step (unfailed s)) →
    RunsSame (suc n) s (Stopped end s)
at_first n s InputFault ends there =
    record { steps = 0; fewer = omega arith; led = Steps-none s; unfailing = Steps-none (unfailed s); call = ends }
at_first n s OutputFault ends there =
    record { steps = 0; fewer = omega arith; led = Steps-none s; unfailing = Steps-none (unfailed s); call = ends }
at_first n s end ends there = ap (λ (done : Stepped). run_after done (unfailed s) (run n)) there

by_first : (n : ℕ) (s : State) (first : Stepped) → step s ≡ first → DoesSame s first (step (unfailed s)) →
    ((u : State) → RunsSame n u (run n u)) → RunsSame (suc n) s (run_after first s (run n))
by_first n s (Leads u) is there again = behind_first n s u is there (run n u) (again u)
by_first n s (Ends end) is there again = at_first n s end is there

pub run-unfailed : (n : ℕ) (s : State) → RunsSame n s (run n s)
run-unfailed zero s = refl
run-unfailed (suc n) s = by_first n s (step s) refl (step-unfailed s) (λ u. run-unfailed n u)

-- ---- what was put

up_to_input : (n : ℕ) (s t : State) → FailsWithin n s t InputFault → IsPrefix t.outside.output (output_after (run n (unfailed s)))
up_to_input n s t within =
    subst (λ (m : ℕ). IsPrefix t.outside.output (output_after (run m (unfailed s)))) (omega (arith, within.fewer))
    (subst (λ (r : Run). IsPrefix (output_after r) (output_after (run (within.steps + (n - within.steps)) (unfailed s))))
    within.unfailing.runs
    (output_after-more within.steps (n - within.steps) (unfailed s)))

-- a put that failed may have taken its byte, which the put that does not fail puts
up_to_output : (n : ℕ) (s t : State) (keeps : Bool) → FailsWithin n s t OutputFault →
    IsPrefix (if keeps then t.outside.output ++ low_byte t ∷ [] else t.outside.output) (output_after (run n (unfailed s)))
up_to_output n s t keeps within = IsPrefix-then (by_kept keeps) whole
  where
    on : LeadsOnWith (t.outside.output ++ low_byte t ∷ []) (step (unfailed t))
    on = subst (λ (done : Stepped). DoesSame t done (step (unfailed t))) within.call (step-unfailed t)

    led : Steps (within.steps + 1) (unfailed s) on.next
    led = Steps-add within.unfailing (Steps-one (unfailed t) on.next on.leads)

    whole : IsPrefix (t.outside.output ++ low_byte t ∷ []) (output_after (run n (unfailed s)))
    whole =
        subst (λ (m : ℕ). IsPrefix (t.outside.output ++ low_byte t ∷ []) (output_after (run m (unfailed s)))) (omega (arith, within.fewer))
        (subst (λ (put : List ℕ). IsPrefix put (output_after (run (within.steps + 1 + (n - (within.steps + 1))) (unfailed s))))
        on.output_is
        (subst (λ (r : Run). IsPrefix (output_after r) (output_after (run (within.steps + 1 + (n - (within.steps + 1))) (unfailed s))))
        led.runs
        (output_after-more (within.steps + 1) (n - (within.steps + 1)) (unfailed s))))

    by_kept : (kept : Bool) → IsPrefix (if kept then t.outside.output ++ low_byte t ∷ [] else t.outside.output)
        (t.outside.output ++ low_byte t ∷ [])
    by_kept true = IsPrefix-same (t.outside.output ++ low_byte t ∷ [])
    by_kept false = record { rest = low_byte t ∷ []; is = refl }

same_put : (xs : List ℕ) (r : Run) → output_after r ≡ xs → IsPrefix xs (output_after r)
same_put xs r is = subst (λ (ys : List ℕ). IsPrefix ys (output_after r)) is (IsPrefix-same (output_after r))

-- what a run has put is a prefix of what it puts where nothing fails
pub output_after-unfailed : (n : ℕ) (s : State) → IsPrefix (output_after (run n s)) (output_after (run n (unfailed s)))
output_after-unfailed n s = by_run (run n s) (run-unfailed n s)
  where
    by_run : (r : Run) → RunsSame n s r → IsPrefix (output_after r) (output_after (run n (unfailed s)))
    by_run (Running t) same = same_put t.outside.output (run n (unfailed s)) (ap output_after same)
    by_run (Stopped InputFault t) within = up_to_input n s t within
    by_run (Stopped OutputFault t) within = up_to_output n s t t.outside.keeps_last within
    by_run (Stopped end t) same = same_put t.outside.output (run n (unfailed s)) (ap output_after same)
