-- The answers of the command `mean`, from their causes.
use Rattle.std.proofs.Common.{◌≡◌, ◌⊎◌, ℕ, List, [], ◌++◌, Some, Result, Ok, Err, refl, sym, ap, ◌∙◌, subst, inl, inr}
use Rattle.std.proofs.lemmas.List.{append-nil}
use Rattle.block_meaning.specs.Meaning.{Outcome}
use Rattle.mean_program.specs.Answers.{PutPart}
use Rattle.mean_program.specs.declared.end.MeanEnd.{MeanEnd}
use Rattle.mean_program.specs.declared.end.MeanEnd.TheVariants as end
use Rattle.mean_program.specs.declared.end.MeanFault.{MeanFault}
use Rattle.mean_program.specs.declared.end.MeanFault.TheVariants as fault
use Rattle.mean_texts.specs.Texts.{TextsMean}
use Rattle.mt_answers.specs.Counted.{UncountedReads}
use Rattle.mt_answers.specs.Each.{Hold}
use Rattle.mt_answers.specs.Laws.Answering.{stop_not_usage}
use Rattle.mt_answers.specs.Laws.EachLaws.{one_hold}
use Rattle.mt_answers.specs.Seen.{Seen, FilesSeen, IsTold, ReadFailed, SameFiles, IsSilent}
use Rattle.mt_answers.specs.Status.{ends}
use Rattle.mt_answers.specs.declared.ended.Ended.{Ended}
use Rattle.mt_answers.specs.declared.ended.Why.{Why}
use Rattle.mt_answers.specs.declared.ended.Why.TheVariants.{NoMemory, Usage}
use Rattle.mt_mean.specs.Mean.{ended_as, AnswersTo, ComesBeforeMeaning, CauseOfMean, ran, nothing, no_memory, MeanAnswers}
use Rattle.mt_mean.specs.Sources.{RefusesFile, source, filed, MeansNothing, no_file, no_link}
use Rattle.mt_mean.specs.Laws.OneWay.{something_or_nothing, one_reason}
use Rattle.mt_words.specs.Jobs.{MeanOptions}
use Rattle.mte_machine.specs.Objects.{Objects}

-- ---- reasons

-- a run is answered by no reason of a call that runs nothing
ran_after : (run : Result MeanEnd MeanFault) → ComesBeforeMeaning (ended_as run).why → ⊥
ran_after (Ok (end.Done status)) before = before
ran_after (Ok end.Divide) before = before
ran_after (Ok end.Deep) before = before
ran_after (Ok end.More) before = before
ran_after (Ok (end.Undefined why file span)) before = before
ran_after (Err fault.InputFault) before = before
ran_after (Err fault.OutputFault) before = before
ran_after (Err fault.NoMemory) before = before

ran_not_usage : (run : Result MeanEnd MeanFault) → (ended_as run).why ≡ Usage → ⊥
ran_not_usage (Ok (end.Done status)) is = cc
ran_not_usage (Ok end.Divide) is = cc
ran_not_usage (Ok end.Deep) is = cc
ran_not_usage (Ok end.More) is = cc
ran_not_usage (Ok (end.Undefined why file span)) is = cc
ran_not_usage (Err fault.InputFault) is = cc
ran_not_usage (Err fault.OutputFault) is = cc
ran_not_usage (Err fault.NoMemory) is = cc

file_not_usage : (number : ℕ) (text : List ℕ) (why : Why) → RefusesFile number text why → why ≡ Usage → ⊥
file_not_usage number text _ (source refuses) is = cc

nothing_not_usage : (files : List (List ℕ)) (before after : FilesSeen) (why : Why) → MeansNothing files before after why → why ≡ Usage → ⊥
nothing_not_usage files before after why (no_file stops) is =
    stop_not_usage filed before after (λ number text w refuses. file_not_usage number text w refuses) 0 files why stops is
nothing_not_usage files before after _ (no_link made refusal are fault) is = cc

-- where nothing was put, that is a part of what a program puts
put_nothing : {S K : Type 0} (before after : Objects S K) (taken : List ℕ) (o : Outcome) → after ≡ before → before.output ≡ Some taken →
    PutPart taken o after.output
put_nothing before after taken o same told = record {
  part = [];
  put = ap (λ (x : Objects _ _). x.output) same ∙ told ∙ ap Some (sym (append-nil taken));
  begins = record { rest = o.output; is = refl };
}

module _ {S K : Type 0} (files : List (List ℕ)) (options : MeanOptions) (before after : Seen S K) where
  mean_means : {ended : Ended} → CauseOfMean files options before after ended →
      (texts : List (List ℕ)) (input taken : List ℕ) (o : Outcome) → IsTold before.files → Hold before.files files texts →
      before.streams.input ≡ Some input → before.streams.output ≡ Some taken → TextsMean texts options.stack input options.work o →
      ¬ ReadFailed before.files after.files → AnswersTo taken o after.streams ended
  mean_means (ran others run held together runs) texts input taken o told these left put means no_failure =
      let same : texts ≡ others = one_hold before.files files texts others told these held in
      record {
        run = run;
        gives = runs.gives input taken left put o (subst (λ ts. TextsMean ts options.stack input options.work o) same means);
        told = refl;
      }
  mean_means (nothing {why} not silent) texts input taken o told these left put means no_failure =
      absurd (something_or_nothing files before.files after.files told no_failure texts why these means.together not)
  mean_means (no_memory silent) texts input taken o told these left put means no_failure = record {
    run = Err fault.NoMemory;
    gives = put_nothing before.streams after.streams taken o silent put;
    told = refl;
  }

  mean_refuses : {ended : Ended} → CauseOfMean files options before after ended → (why : Why) → IsTold before.files →
      MeansNothing files before.files after.files why → ¬ ReadFailed before.files after.files → (ended ≡ ends why) ⊎ (ended ≡ ends NoMemory)
  mean_refuses (ran texts run held together runs) why told not no_failure =
      absurd (something_or_nothing files before.files after.files told no_failure texts why held together not)
  mean_refuses (nothing {why = first} also silent) why told not no_failure =
      inl (ap ends (one_reason files before.files after.files told no_failure first why also not))
  mean_refuses (no_memory silent) why told not no_failure = inr refl

  mean_silent : {ended : Ended} → CauseOfMean files options before after ended → ComesBeforeMeaning ended.why → IsSilent before after
  mean_silent (ran texts run held together runs) comes = absurd (ran_after run comes)
  mean_silent (nothing not silent) comes = silent
  mean_silent (no_memory silent) comes = silent

  -- A cause is the whole of the answer.
  pub mean_answers : (ended : Ended) → CauseOfMean files options before after ended → SameFiles before.files after.files →
      UncountedReads before.files after.files ended.why → MeanAnswers files options before after ended
  mean_answers ended cause same counts = record {
    means = λ texts input taken o told held left put means no_failure. mean_means cause texts input taken o told held left put means
        no_failure;
    refuses = λ why told not no_failure. mean_refuses cause why told not no_failure;
    cause = cause;
    silent = λ comes. mean_silent cause comes;
    files = same;
    counts = counts;
  }

  pub mean_not_usage : {ended : Ended} → CauseOfMean files options before after ended → ended.why ≡ Usage → ⊥
  mean_not_usage (ran texts run held together runs) is = ran_not_usage run is
  mean_not_usage (nothing {why} not silent) is = nothing_not_usage files before.files after.files why not is
  mean_not_usage (no_memory silent) is = cc
