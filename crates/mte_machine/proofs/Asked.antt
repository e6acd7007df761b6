-- What a step answers over a source and a sink, by what it asks of them.
use Rattle.std.proofs.Common.{◌≡◌, ◌≤◌, ℕ, suc, false, List, [], ◌∷◌, ◌++◌, Option, Some, None, refl, sym, ap, ◌∙◌, subst, arith, inl, inr}
use Rattle.mt_outside.specs.Told.{WhereTold, Rose}
use Rattle.mt_outside.specs.declared.source.NextAnswer.TheVariants.{Failed as NextFailed}
use Rattle.mt_outside.specs.declared.sink.PutAnswer.TheVariants.{Done, Failed}
use Rattle.mt_outside.specs.declared.source.Source.{Ghosts as SourceGhosts}
use Rattle.mt_outside.specs.declared.sink.Sink.{Ghosts as SinkGhosts}
use Rattle.mt_outside.specs.Source.{NextGives}
use Rattle.mt_outside.specs.Sink.{PutGives}
use Rattle.a64_code.specs.Outside.{Outside, fails_now, one_less, next_number, left_after, after_next, after_put}
use Rattle.a64_code.specs.State.{State, with_general, advanced, with_outside}
use Rattle.a64_code.specs.Stepped.{Stepped, Leads, Ends}
use Rattle.a64_code.specs.Services.{service_register, low_byte, put_service, next_service}
use Rattle.a64_code.specs.declared.end.MachineEnd.{MachineEnd}
use Rattle.a64_code.specs.declared.end.MachineEnd.TheVariants.{InputFault, OutputFault}
use Rattle.mte_machine.specs.declared.step.Step.{Step}
use Rattle.mte_machine.specs.declared.step.Step.TheVariants.{Ran, Ended}
use Rattle.mte_machine.specs.Run.{StepsAs}
use Rattle.mte_machine.specs.Objects.{Objects, objects, MayAnswer, MayHaveTaken, GoesOn, without_input, without_output}
use Rattle.mte_machine.specs.Answers.{StepAnswers}
use Rattle.mte_machine.proofs.Answers.{StepsAs-ran, StepsAs-ended}
use Rattle.mte_machine.proofs.NoFault.{IsNoFault, output_at-no_fault}
use Rattle.mte_machine.proofs.Told.{some_answers, some_answers-may, goes_telling, tells_still, told_put, told_failed, Gives, told_same}

-- ---- a step that asks nothing

pub GoesOn-same : {S K : Type 0} (around : Objects S K) → GoesOn around around
GoesOn-same around = record {
  input = tells_still around.input;
  output = tells_still around.output;
  read_faults = omega arith;
  write_faults = omega arith;
}

-- it runs over each outside
pub asks_nothing : {S K : Type 0} (does : Outside → Stepped) (old new : Outside → State) (around : Objects S K) →
    ((w : Outside) → does w ≡ Leads (new w)) →
    StepAnswers does old new around around Ran
asks_nothing does old new around leads = record {
  goes_on = GoesOn-same around;
  counts = (refl, refl);
  answers = λ taken may. record {
    now = taken;
    told = may;
    leads = λ rest out answers. (
      rest,
      out,
      record {
        fits = record { input = answers; output = subst (MayHaveTaken around.output) (sym out) may };
        leads = leads rest;
        source_kept = inl (refl, leads (without_input rest));
        sink_kept = inl (refl, leads (without_output rest));
      },
    );
  };
}

-- or it ends the run
pub ends_alone : {S K : Type 0} (does : Outside → Stepped) (old new : Outside → State) (around : Objects S K) (end : MachineEnd) →
    ((w : Outside) → (old w).outside ≡ w) →
    IsNoFault end → ((w : Outside) → does w ≡ Ends end) → ((w : Outside) → new w ≡ old w) →
    StepAnswers does old new around around (Ended end)
ends_alone does old new around end holds none ends same = record {
  goes_on = GoesOn-same around;
  counts = record { read_faults = λ other. refl; write_faults = λ other. refl };
  answers = λ taken may.
      let outside : Outside =
      record { answers = some_answers around.input; output = taken; next_failure = None; put_failure = None; keeps_last = false } in
      record {
        outside = outside;
        output = refl;
        fits = record { input = some_answers-may around.input; output = may };
        ends = ends outside;
        state = same;
        left = some_answers-may around.input;
        told = subst (MayHaveTaken around.output)
            (sym (output_at-no_fault end (old outside) none ∙ ap (λ (w : Outside). w.output) (holds outside))) may;
        input_fault = λ is. absurd (subst IsNoFault is none);
        output_fault = λ is. absurd (subst IsNoFault is none);
        source_kept = inl refl;
        sink_kept = inl refl;
      };
}

pub quiet_answers : {S K : Type 0} (does : Outside → Stepped) (old new : Outside → State) (around : Objects S K) (answer : Step) →
    ((w : Outside) → (old w).outside ≡ w) →
    ((w : Outside) (end : MachineEnd) → does w ≡ Ends end → IsNoFault end) → ((w : Outside) → StepsAs (does w) (old w) answer (new w)) →
    StepAnswers does old new around around answer
quiet_answers does old new around Ran holds none said =
    asks_nothing does old new around (λ w. StepsAs-ran (does w) (old w) (new w) (said w))
quiet_answers does old new around (Ended end) holds none said =
    let ended = λ (w : Outside). StepsAs-ended (does w) end (old w) (new w) (said w) in
    let nothing : Outside = record { answers = []; output = []; next_failure = None; put_failure = None; keeps_last = false } in
    ends_alone does old new around end holds (none nothing end (ended nothing).ends) (λ w. (ended w).ends) (λ w. (ended w).state)

-- ---- the failures counted down

-- a count of one call more
abbrev one_more : Option ℕ → Option ℕ
one_more None = None
one_more (Some n) = Some (suc n)

fails_now-one_more : (failure : Option ℕ) → fails_now (one_more failure) ≡ false
fails_now-one_more None = refl
fails_now-one_more (Some n) = refl

one_less-one_more : (failure : Option ℕ) → one_less (one_more failure) ≡ failure
one_less-one_more None = refl
one_less-one_more (Some n) = ap Some (omega arith)

-- ---- a put of one byte

-- the outside before a put behind which it is this one
abbrev before_put : List ℕ → Outside → Outside
before_put taken rest = record rest { output = taken; put_failure = one_more rest.put_failure }

after_put-before : (byte : ℕ) (taken : List ℕ) (rest : Outside) → rest.output ≡ taken ++ byte ∷ [] →
    after_put byte (before_put taken rest) ≡ rest
after_put-before byte taken rest out =
    let with_sink : List ℕ → Option ℕ → Outside = λ output failure. record rest { output = output; put_failure = failure } in
    ap (λ (output : List ℕ). with_sink output (one_less (one_more rest.put_failure))) (sym out)
    ∙ ap (with_sink rest.output) (one_less-one_more rest.put_failure)

put_leads : (s : State) (taken : List ℕ) (rest : Outside) → rest.output ≡ taken ++ low_byte s ∷ [] →
    put_service (with_outside (before_put taken rest) s)
    ≡ Leads (advanced (with_general service_register (low_byte s) (with_outside rest s)))
put_leads s taken rest out =
    rw (fails_now-one_more rest.put_failure)
    (ap (λ (w : Outside). Leads (advanced (with_general service_register (low_byte s) (with_outside w s))))
    (after_put-before (low_byte s) taken rest out))

pub put_answers : {S K : Type 0} (source_shows : SourceGhosts S) (sink_shows : SinkGhosts K) (source : S) (sink sink' : K) (s : State)
    (new : Outside → State) →
    WhereTold (sink_shows.told sink) (sink_shows.told sink') (PutGives (low_byte s ∷ []) Done) →
    sink_shows.faults sink' ≡ sink_shows.faults sink →
    ((w : Outside) → new w ≡ advanced (with_general service_register (low_byte s) (with_outside w s))) →
    StepAnswers (λ w. put_service (with_outside w s)) (λ w. with_outside w s) new (objects source_shows sink_shows source sink)
    (objects source_shows sink_shows source sink') Ran
put_answers source_shows sink_shows source sink sink' s new told same state = record {
  goes_on = record {
    input = tells_still (source_shows.told source);
    output = goes_telling _ _ (PutGives (low_byte s ∷ []) Done) told;
    read_faults = omega arith;
    write_faults = omega (arith, same);
  };
  counts = (refl, same);
  answers = λ taken may. record {
    now = taken ++ low_byte s ∷ [];
    told = told_put _ _ taken (low_byte s ∷ []) told may;
    leads = λ rest out answers. (
      before_put taken rest,
      refl,
      record {
        fits = record { input = answers; output = may };
        leads = put_leads s taken rest out ∙ ap Leads (sym (state rest));
        source_kept = inl (refl, put_leads s taken (without_input rest) out ∙ ap Leads (sym (state (without_input rest))));
        sink_kept = inr refl;
      },
    );
  };
}

pub put_fails : {S K : Type 0} (source_shows : SourceGhosts S) (sink_shows : SinkGhosts K) (source : S) (sink sink' : K) (s : State) →
    WhereTold (sink_shows.told sink) (sink_shows.told sink') (PutGives (low_byte s ∷ []) Failed) →
    sink_shows.faults sink ≤ sink_shows.faults sink' →
    Rose (sink_shows.faults sink) (sink_shows.faults sink') →
    StepAnswers (λ w. put_service (with_outside w s)) (λ w. with_outside w s) (λ w. with_outside w s)
    (objects source_shows sink_shows source sink) (objects source_shows sink_shows source sink') (Ended OutputFault)
put_fails source_shows sink_shows source sink sink' s told rises rose = record {
  goes_on = record {
    input = tells_still (source_shows.told source);
    output = goes_telling _ _ (PutGives (low_byte s ∷ []) Failed) told;
    read_faults = omega arith;
    write_faults = rises;
  };
  counts = record { read_faults = λ other. refl; write_faults = λ other. absurd (other refl) };
  answers = λ taken may.
      let kept = told_failed (sink_shows.told sink) (sink_shows.told sink') taken (low_byte s) told may in
      record {
        outside =
            record {
              answers = some_answers (source_shows.told source);
              output = taken;
              next_failure = None;
              put_failure = Some 0;
              keeps_last = kept.keeps;
            };
        output = refl;
        fits = record { input = some_answers-may (source_shows.told source); output = may };
        ends = refl;
        state = λ w. refl;
        left = some_answers-may (source_shows.told source);
        told = kept.may;
        input_fault = λ is. let differ : OutputFault ≡ InputFault = is in absurd (cc);
        output_fault = λ is. rose;
        source_kept = inl refl;
        sink_kept = inr refl;
      };
}

-- ---- a call of `next`

-- the outside before it, behind which it is this one
abbrev before_next : List (Option ℕ) → Outside → Outside
before_next from rest = record rest { answers = from; next_failure = one_more rest.next_failure }

after_next-before : (from : List (Option ℕ)) (rest : Outside) → left_after from ≡ rest.answers → after_next (before_next from rest) ≡ rest
after_next-before from rest left =
    let with_source : List (Option ℕ) → Option ℕ → Outside =
    λ answers failure. record rest { answers = answers; next_failure = failure } in
    ap (λ (answers : List (Option ℕ)). with_source answers (one_less (one_more rest.next_failure))) left
    ∙ ap (with_source rest.answers) (one_less-one_more rest.next_failure)

next_leads : (s : State) (from : List (Option ℕ)) (rest : Outside) (number : ℕ) → next_number from ≡ number →
    left_after from ≡ rest.answers →
    next_service (with_outside (before_next from rest) s) ≡ Leads (advanced (with_general service_register number (with_outside rest s)))
next_leads s from rest number is left =
    rw (fails_now-one_more rest.next_failure)
    (ap (λ (n : ℕ). Leads (advanced (with_general service_register n (with_outside (after_next (before_next from rest)) s)))) is
    ∙ ap (λ (w : Outside). Leads (advanced (with_general service_register number (with_outside w s)))) (after_next-before from rest left))

pub next_answers : {S K : Type 0} (source_shows : SourceGhosts S) (sink_shows : SinkGhosts K) (source source' : S) (sink : K) (s : State)
    (new : Outside → State) (number : ℕ) →
    WhereTold (source_shows.told source) (source_shows.told source') (λ _ _. Unit {0}) →
    ((answers : List (Option ℕ)) → MayAnswer (source_shows.told source') answers → Gives (source_shows.told source) answers number) →
    source_shows.faults source' ≡ source_shows.faults source →
    ((w : Outside) → new w ≡ advanced (with_general service_register number (with_outside w s))) →
    StepAnswers (λ w. next_service (with_outside w s)) (λ w. with_outside w s) new (objects source_shows sink_shows source sink)
    (objects source_shows sink_shows source' sink) Ran
next_answers source_shows sink_shows source source' sink s new number told gives same state = record {
  goes_on = record {
    input = told;
    output = tells_still (sink_shows.told sink);
    read_faults = omega (arith, same);
    write_faults = omega arith;
  };
  counts = (same, refl);
  answers = λ taken may. record {
    now = taken;
    told = may;
    leads = λ rest out answers.
        let given = gives rest.answers answers in (
          before_next given.from rest,
          out,
          record {
            fits = record { input = given.may; output = subst (MayHaveTaken (sink_shows.told sink)) (sym out) may };
            leads = next_leads s given.from rest number given.tells given.left ∙ ap Leads (sym (state rest));
            source_kept = inr refl;
            sink_kept =
                inl (
                  refl,
                  next_leads s given.from (without_output rest) number given.tells given.left
                      ∙ ap Leads (sym (state (without_output rest))),
                );
          },
        );
  };
}

pub next_fails : {S K : Type 0} (source_shows : SourceGhosts S) (sink_shows : SinkGhosts K) (source source' : S) (sink : K) (s : State) →
    WhereTold (source_shows.told source) (source_shows.told source') (NextGives NextFailed) →
    source_shows.faults source ≤ source_shows.faults source' →
    Rose (source_shows.faults source) (source_shows.faults source') →
    StepAnswers (λ w. next_service (with_outside w s)) (λ w. with_outside w s) (λ w. with_outside w s)
    (objects source_shows sink_shows source sink) (objects source_shows sink_shows source' sink) (Ended InputFault)
next_fails source_shows sink_shows source source' sink s told rises rose = record {
  goes_on = record {
    input = goes_telling _ _ (NextGives NextFailed) told;
    output = tells_still (sink_shows.told sink);
    read_faults = rises;
    write_faults = omega arith;
  };
  counts = record { read_faults = λ other. absurd (other refl); write_faults = λ other. refl };
  answers = λ taken may. record {
    outside =
        record {
          answers = some_answers (source_shows.told source);
          output = taken;
          next_failure = Some 0;
          put_failure = None;
          keeps_last = false;
        };
    output = refl;
    fits = record { input = some_answers-may (source_shows.told source); output = may };
    ends = refl;
    state = λ w. refl;
    left = told_same _ _ _ told (some_answers-may (source_shows.told source));
    told = may;
    input_fault = λ is. rose;
    output_fault = λ is. let differ : InputFault ≡ OutputFault = is in absurd (cc);
    source_kept = inr refl;
    sink_kept = inl refl;
  };
}
