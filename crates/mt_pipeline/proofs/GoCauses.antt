-- The answers of the command `go`, from their causes.
use Rattle.std.proofs.Common.{◌≡◌, ◌⊎◌, ◌≤◌, ℕ, ◌%◌, List, refl, sym, ap, ◌∙◌, subst, inl, inr}
use Rattle.elf_image.specs.Constant.{constant_image}
use Rattle.mt_compile.specs.Laws.ConstantTrees.{constant_in_range}
use Rattle.mt_answers.specs.Counted.{UncountedReads}
use Rattle.mt_answers.specs.Each.{Hold}
use Rattle.mt_answers.specs.Seen.{Seen, IsTold, ReadFailed, SameFiles, IsSilent}
use Rattle.mt_answers.specs.Status.{ends, ended_so}
use Rattle.mt_answers.specs.declared.ended.Ended.{Ended}
use Rattle.mt_answers.specs.declared.ended.Why.{Why}
use Rattle.mt_answers.specs.declared.ended.Why.TheVariants.{Exited, NoMemory, Usage}
use Rattle.mt_words.specs.Jobs.{RunOptions}
use Rattle.mt_pipeline.specs.Agrees.{Return}
use Rattle.mt_pipeline.specs.Go.{GoAnswers, CauseOfGo, ran, unbuilt, no_memory}
use Rattle.mt_pipeline.specs.Laws.ConstantRun.{constant_exits}
use Rattle.mt_pipeline.specs.Ran.{RunsTo}
use Rattle.mt_pipeline.specs.Sources.{NotBuilt}
use Rattle.mt_pipeline.proofs.SourceCauses.{built_not_usage, built_or_not, one_reason, return_built, return_image}
use Rattle.mt_pipeline.proofs.Statuses.{exits_late, ran_not_usage}

module _ {S K : Type 0} (files : List (List ℕ)) (options : RunOptions) (before after : Seen S K) where
  -- The program runs where the files hold the text of a constant and no read failed: the other answers have no cause then.
  go_runs : {ended : Ended} → CauseOfGo files options before after ended → (texts : List (List ℕ)) (n : ℕ) →
      IsTold before.files → Hold before.files files texts → Return texts n → ¬ ReadFailed before.files after.files →
      RunsTo (constant_image n) options before.streams after.streams ended ⊎ (ended ≡ ends NoMemory)
  go_runs (ran {ended} image is runs) texts n told held r no_fault =
      inl (subst (λ i. RunsTo i options before.streams after.streams ended)
      (return_image before.files files texts n image told held r is) runs)
  go_runs (unbuilt {why} not silent) texts n told held r no_fault =
      absurd (built_or_not files before.files after.files told no_fault (constant_image n) why
      (return_built before.files files texts n held r) not)
  go_runs (no_memory silent) texts n told held r no_fault = inr refl

  go_exits : (n : ℕ) (ended : Ended) → n ≤ 2147483647 → 3 ≤ options.steps →
      RunsTo (constant_image n) options before.streams after.streams ended ⊎ (ended ≡ ends NoMemory) →
      (ended ≡ ended_so (n % 256) Exited) ⊎ (ended ≡ ends NoMemory)
  go_exits n ended within enough (inl to) =
      inl (exits_late (constant_image n) (n % 256) options before.streams after.streams ended (constant_exits n within) to enough)
  go_exits n ended within enough (inr wanting) = inr wanting

  -- Where nothing can be built of the files and no read failed, that is answered.
  go_refuses : {ended : Ended} → CauseOfGo files options before after ended → (why : Why) → IsTold before.files →
      NotBuilt files before.files after.files why → ¬ ReadFailed before.files after.files →
      (ended ≡ ends why) ⊎ (ended ≡ ends NoMemory)
  go_refuses (ran image is runs) why told has no_fault =
      absurd (built_or_not files before.files after.files told no_fault image why is has)
  go_refuses (unbuilt {why = first} not silent) why told has no_fault =
      inl (ap ends (one_reason files before.files after.files told no_fault first why not has))
  go_refuses (no_memory silent) why told has no_fault = inr refl

  -- A cause is the whole of the answer.
  pub go_answers : (ended : Ended) → CauseOfGo files options before after ended → IsSilent before after →
      SameFiles before.files after.files → UncountedReads before.files after.files ended.why → GoAnswers files options before after ended
  go_answers ended cause silent same counts = record {
    runs = λ texts n told held r no_fault. go_runs cause texts n told held r no_fault;
    exits = λ texts n told held r no_fault enough. go_exits n ended (constant_in_range r.returns) enough
        (go_runs cause texts n told held r no_fault);
    refuses = λ why told has no_fault. go_refuses cause why told has no_fault;
    cause = cause;
    silent = silent;
    files = same;
    counts = counts;
  }

  pub go_not_usage : {ended : Ended} → CauseOfGo files options before after ended → ended.why ≡ Usage → ⊥
  go_not_usage (ran image is to) e = ran_not_usage to.end (sym (ap (λ e. e.why) to.answered) ∙ e)
  go_not_usage (unbuilt {why} not silent) e = built_not_usage files before.files after.files why not e
  go_not_usage (no_memory silent) e = cc
