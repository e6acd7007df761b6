-- What steps over a source and a sink have led to, one after another.
use Rattle.std.proofs.Common.{◌≡◌, ◌≢◌, ◌↔◌, ◌<◌, ◌+◌, ◌⊎◌, ℕ, false, List, None, refl, sym, ap, ◌∙◌, subst, arith, inl, inr}
use Rattle.a64_code.specs.Outside.{Outside}
use Rattle.a64_code.specs.State.{State}
use Rattle.a64_code.specs.Stepped.{Ends}
use Rattle.a64_code.specs.Step.{step}
use Rattle.a64_code.specs.declared.end.MachineEnd.{MachineEnd}
use Rattle.a64_code.specs.declared.end.MachineEnd.TheVariants.{OutOfSteps, InputFault, OutputFault}
use Rattle.mte_machine.specs.declared.step.Step.TheVariants.{Ran, Ended}
use Rattle.mte_machine.specs.Run.{Run, Running, Stopped, run, end_of, state_after, output_after, answers_after, Steps}
use Rattle.mte_machine.specs.Laws.Steps.{Steps-none, Steps-one, Steps-add, run-ends}
use Rattle.mte_machine.specs.Objects.{Objects, MayAnswer, MayHaveTaken, Fits, GoesOn, without_input, without_output}
use Rattle.mte_machine.specs.Answers.{Spares, LeadsOn, RanFrom, EndedFrom, StepAnswers, RunAnswers}
use Rattle.mte_machine.proofs.Told.{some_answers, some_answers-may, some_taken, some_taken-may, tells_then}
use Rattle.mte_machine.proofs.Asked.{GoesOn-same}
use Rattle.mte_machine.specs.Laws.OutOfSteps.{out_of_steps}

-- fewer than so many steps lead from the state to one whose step ends so
pub record EndsWithin (n : ℕ) (from : State) (end : MachineEnd) : Type 0 where
  pub steps : ℕ
  pub last : State
  pub led : Steps steps from last
  pub ends : step last ≡ Ends end
  pub within : steps < n

-- over the outside whose first call of one kind fails, the steps come to that, or the object is the same and they lead on
abbrev pub SparesAll : (Outside → Outside) → ℕ → (Outside → State) → (Outside → State) → MachineEnd → Type 0 → Outside → Outside → Type 0
SparesAll without n from to fault IsSame outside rest =
    (IsSame × Steps n (from (without outside)) (to (without rest))) ⊎ EndsWithin n (from (without outside)) fault

-- so many steps led from this outside to that one
pub record LedOn {S K : Type 0} (n : ℕ) (from to : Outside → State) (before after : Objects S K) (outside rest : Outside) : Type 0 where
  pub fits : Fits before outside
  pub steps : Steps n (from outside) (to rest)
  pub source_kept : SparesAll without_input n from to InputFault (after.source ≡ before.source) outside rest
  pub sink_kept : SparesAll without_output n from to OutputFault (after.sink ≡ before.sink) outside rest

-- they led to what the objects may stand for now, where the sink had taken these bytes
pub record LedFrom {S K : Type 0} (n : ℕ) (from to : Outside → State) (before after : Objects S K) (taken : List ℕ) : Type 0 where
  pub now : List ℕ
  pub told : MayHaveTaken after.output now
  pub leads : (rest : Outside) → rest.output ≡ now → MayAnswer after.input rest.answers →
      (outside : Outside) × (outside.output ≡ taken) × LedOn n from to before after outside rest

pub record Led {S K : Type 0} (n : ℕ) (from to : Outside → State) (before after : Objects S K) : Type 0 where
  pub goes_on : GoesOn before after
  pub read_faults : after.read_faults ≡ before.read_faults
  pub write_faults : after.write_faults ≡ before.write_faults
  pub leads : (taken : List ℕ) → MayHaveTaken before.output taken → LedFrom n from to before after taken

pub Led-none : {S K : Type 0} (from : Outside → State) (around : Objects S K) → Led 0 from from around around
Led-none from around = record {
  goes_on = GoesOn-same around;
  read_faults = refl;
  write_faults = refl;
  leads = λ taken may. record {
    now = taken;
    told = may;
    leads = λ rest out answers. (
      rest,
      out,
      record {
        fits = record { input = answers; output = subst (MayHaveTaken around.output) (sym out) may };
        steps = Steps-none (from rest);
        source_kept = inl (refl, Steps-none (from (without_input rest)));
        sink_kept = inl (refl, Steps-none (from (without_output rest)));
      },
    );
  };
}

-- ---- one step more

EndsWithin-more : {n : ℕ} {from : State} {fault : MachineEnd} → EndsWithin n from fault → EndsWithin (n + 1) from fault
EndsWithin-more within = record { steps = within.steps; last = within.last; led = within.led; ends = within.ends; within = omega arith }

EndsWithin-last : (n : ℕ) (from to : State) (fault : MachineEnd) → Steps n from to → step to ≡ Ends fault → EndsWithin (n + 1) from fault
EndsWithin-last n from to fault led ends = record { steps = n; last = to; led = led; ends = ends; within = omega arith }

spares_more : {A : Type 0} (without : Outside → Outside) (n : ℕ) (from between to : Outside → State) (fault : MachineEnd)
    (one two three : A) (outside middle rest : Outside) →
    SparesAll without n from between fault (two ≡ one) outside middle →
    Spares without (λ w. step (between w)) to fault (three ≡ two) middle rest →
    SparesAll without (n + 1) from to fault (three ≡ one) outside rest
spares_more without n from between to fault one two three outside middle rest (inl (same, steps)) (inl (kept, leads)) =
    inl (kept ∙ same, Steps-add steps (Steps-one (between (without middle)) (to (without rest)) leads))
spares_more without n from between to fault one two three outside middle rest (inl (same, steps)) (inr ends) =
    inr (EndsWithin-last n (from (without outside)) (between (without middle)) fault steps ends)
spares_more without n from between to fault one two three outside middle rest (inr within) then = inr (EndsWithin-more within)

LedOn-more : {S K : Type 0} {n : ℕ} {from between to : Outside → State} {before middle after : Objects S K} {outside mid rest : Outside} →
    LedOn n from between before middle outside mid → LeadsOn (λ w. step (between w)) to middle after mid rest →
    LedOn (n + 1) from to before after outside rest
LedOn-more {n} {from} {between} {to} {before} {middle} {after} {outside} {mid} {rest} led one = record {
  fits = led.fits;
  steps = Steps-add led.steps (Steps-one (between mid) (to rest) one.leads);
  source_kept =
      spares_more without_input n from between to InputFault before.source middle.source after.source outside mid rest led.source_kept
      one.source_kept;
  sink_kept =
      spares_more without_output n from between to OutputFault before.sink middle.sink after.sink outside mid rest led.sink_kept
      one.sink_kept;
}

GoesOn-then : {S K : Type 0} {before middle after : Objects S K} → GoesOn before middle → GoesOn middle after → GoesOn before after
GoesOn-then {before} {middle} {after} first second = record {
  input = tells_then before.input middle.input after.input first.input second.input;
  output = tells_then before.output middle.output after.output first.output second.output;
  read_faults = omega (arith, first.read_faults, second.read_faults);
  write_faults = omega (arith, first.write_faults, second.write_faults);
}

pub Led-more : {S K : Type 0} (n : ℕ) (from between to : Outside → State) (before middle after : Objects S K) →
    Led n from between before middle → StepAnswers (λ w. step (between w)) between to middle after Ran → Led (n + 1) from to before after
Led-more n from between to before middle after led one = record {
  goes_on = GoesOn-then led.goes_on one.goes_on;
  read_faults = one.counts.0 ∙ led.read_faults;
  write_faults = one.counts.1 ∙ led.write_faults;
  leads = λ taken may.
      let first = led.leads taken may in
      let second : RanFrom (λ w. step (between w)) to middle after first.now = one.answers first.now first.told in
      record {
        now = second.now;
        told = second.told;
        leads = λ rest out answers.
            let (mid, mid_out, last) = second.leads rest out answers in
            let (outside, taken_is, way) = first.leads mid mid_out last.fits.input in
            (outside, taken_is, LedOn-more way last);
      };
}

-- ---- the end of a run

-- what holds of an object over a run that ends
kept_at_end : {A : Type 0} (without : Outside → Outside) (n k : ℕ) (from to : Outside → State) (fault : MachineEnd) (one two three : A)
    (outside rest : Outside) →
    SparesAll without k from to fault (two ≡ one) outside rest → (three ≡ two) ⊎ (step (to (without rest)) ≡ Ends fault) → k < n →
    end_of (run n (from (without outside))) ≢ fault → three ≡ one
kept_at_end without n k from to fault one two three outside rest (inl (same, steps)) (inl kept) within other = kept ∙ same
kept_at_end without n k from to fault one two three outside rest (inl (same, steps)) (inr ends) within other =
    absurd (other (ap end_of (run-ends n steps ends within)))
kept_at_end without n k from to fault one two three outside rest (inr early) then within other =
    absurd (other (ap end_of (run-ends n early.led early.ends (omega (arith, early.within, within)))))

-- and over one that does not
kept_throughout : {A : Type 0} (without : Outside → Outside) (n : ℕ) (from to : Outside → State) (fault : MachineEnd) (one two : A)
    (outside rest : Outside) →
    SparesAll without n from to fault (two ≡ one) outside rest → end_of (run n (from (without outside))) ≢ fault → two ≡ one
kept_throughout without n from to fault one two outside rest (inl (same, steps)) other = same
kept_throughout without n from to fault one two outside rest (inr early) other =
    absurd (other (ap end_of (run-ends n early.led early.ends early.within)))

pub run_ended : {S K : Type 0} (n k : ℕ) (from now new : Outside → State) (before middle after : Objects S K) (end : MachineEnd) →
    ((w : Outside) → (now w).outside ≡ w) →
    Led k from now before middle → StepAnswers (λ w. step (now w)) now new middle after (Ended end) → k < n →
    RunAnswers n from new before after end
run_ended n k from now new before middle after end holds led one within =
    let taken = some_taken before.output in
    let first = led.leads taken (some_taken-may before.output) in
    let last : EndedFrom (λ w. step (now w)) now new middle after first.now end = one.answers first.now first.told in
    let (outside, taken_is, way) = first.leads last.outside last.output last.fits.input in
    let stops : run n (from outside) ≡ Stopped end (now last.outside) = run-ends n way.steps last.ends within in
    record {
      outside = outside;
      fits = way.fits;
      end = sym (ap end_of stops);
      state = subst (λ (r : Run). new (state_after r).outside ≡ state_after r) (sym stops)
          (ap new (holds last.outside) ∙ last.state last.outside);
      out_of_steps = subst (λ (is : MachineEnd). (is ≡ OutOfSteps) ↔ ((s : State) × Steps n (from outside) s)) (ap end_of stops)
          (out_of_steps n (from outside));
      goes_on = GoesOn-then led.goes_on one.goes_on;
      input = subst (λ (r : Run). MayAnswer after.input (answers_after r)) (sym stops)
          (subst (λ (w : Outside). MayAnswer after.input w.answers) (sym (holds last.outside)) last.left);
      output = subst (λ (r : Run). MayHaveTaken after.output (output_after r)) (sym stops) last.told;
      input_fault = λ is small. omega (arith, last.input_fault is small, led.goes_on.read_faults);
      output_fault = λ is small. omega (arith, last.output_fault is small, led.goes_on.write_faults);
      counts =
          record {
            read_faults = λ other. one.counts.read_faults other
                ∙ led.read_faults;
            write_faults = λ other. one.counts.write_faults other ∙ led.write_faults;
          };
      source_kept =
          kept_at_end without_input n k from now InputFault before.source middle.source after.source outside last.outside way.source_kept
          last.source_kept within;
      sink_kept =
          kept_at_end without_output n k from now OutputFault before.sink middle.sink after.sink outside last.outside way.sink_kept
          last.sink_kept within;
    }

pub run_out : {S K : Type 0} (n : ℕ) (from now : Outside → State) (before after : Objects S K) → ((w : Outside) → (now w).outside ≡ w) →
    Led n from now before after → RunAnswers n from now before after OutOfSteps
run_out n from now before after holds led =
    let first = led.leads (some_taken before.output) (some_taken-may before.output) in
    let rest : Outside =
    record { answers = some_answers after.input; output = first.now; next_failure = None; put_failure = None; keeps_last = false } in
    let (outside, taken_is, way) = first.leads rest refl (some_answers-may after.input) in
    let runs : run n (from outside) ≡ Running (now rest) = way.steps.runs in
    record {
      outside = outside;
      fits = way.fits;
      end = sym (ap end_of runs);
      state = subst (λ (r : Run). now (state_after r).outside ≡ state_after r) (sym runs) (ap now (holds rest));
      out_of_steps = subst (λ (is : MachineEnd). (is ≡ OutOfSteps) ↔ ((s : State) × Steps n (from outside) s)) (ap end_of runs)
          (out_of_steps n (from outside));
      goes_on = led.goes_on;
      input = subst (λ (r : Run). MayAnswer after.input (answers_after r)) (sym runs)
          (subst (λ (w : Outside). MayAnswer after.input w.answers) (sym (holds rest)) (some_answers-may after.input));
      output = subst (λ (r : Run). MayHaveTaken after.output (output_after r)) (sym runs)
          (subst (λ (w : Outside). MayHaveTaken after.output w.output) (sym (holds rest)) first.told);
      input_fault = λ is. let differ : OutOfSteps ≡ InputFault = is in absurd (cc);
      output_fault = λ is. let differ : OutOfSteps ≡ OutputFault = is in absurd (cc);
      counts = record { read_faults = λ other. led.read_faults; write_faults = λ other. led.write_faults };
      source_kept = kept_throughout without_input n from now InputFault before.source after.source outside rest way.source_kept;
      sink_kept = kept_throughout without_output n from now OutputFault before.sink after.sink outside rest way.sink_kept;
    }
