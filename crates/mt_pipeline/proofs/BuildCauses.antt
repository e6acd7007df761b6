-- The answers of the command `build`, from their causes.
use Rattle.std.proofs.Common.{◌≡◌, ◌⊎◌, ℕ, List, refl, ap, inl, inr}
use Rattle.elf_image.specs.Constant.{constant_image}
use Rattle.mt_answers.specs.Counted.{Uncounted}
use Rattle.mt_answers.specs.Each.{Hold}
use Rattle.mt_answers.specs.Seen.{FilesSeen, IsTold, ReadFailed, WriteFailed}
use Rattle.mt_answers.specs.Status.{ends}
use Rattle.mt_answers.specs.declared.ended.Ended.{Ended}
use Rattle.mt_answers.specs.declared.ended.Why.{Why}
use Rattle.mt_answers.specs.declared.ended.Why.TheVariants.{Done, NoMemory, Usage}
use Rattle.mt_pipeline.specs.Agrees.{Return}
use Rattle.mt_pipeline.specs.Build.{WritesBuilt, CauseOfBuild, written, write_failed, unbuilt, no_memory}
use Rattle.mt_pipeline.specs.Sources.{NotBuilt}
use Rattle.mt_pipeline.proofs.SourceCauses.{built_not_usage, built_or_not, one_reason, return_built}

module _ (files : List (List ℕ)) (out : List ℕ) (before after : FilesSeen) where
  -- `build` is done where the files hold the text of a constant and nothing failed
  build_done : {ended : Ended} → CauseOfBuild files out before after ended → (texts : List (List ℕ)) (n : ℕ) → IsTold before →
      Hold before files texts → Return texts n → ¬ ReadFailed before after → ¬ WriteFailed before after →
      (ended ≡ ends Done) ⊎ (ended ≡ ends NoMemory)
  build_done (written image bytes is file writes) texts n told held r reads no_fault = inl refl
  build_done (write_failed image is rose others) texts n told held r reads no_fault = absurd (no_fault rose)
  build_done (unbuilt {why} not same) texts n told held r reads no_fault =
      absurd (built_or_not files before after told reads (constant_image n) why (return_built before files texts n held r) not)
  build_done (no_memory same) texts n told held r reads no_fault = inr refl

  build_refuses : {ended : Ended} → CauseOfBuild files out before after ended → (why : Why) → IsTold before →
      NotBuilt files before after why → ¬ ReadFailed before after → (ended ≡ ends why) ⊎ (ended ≡ ends NoMemory)
  build_refuses (written image bytes is file writes) why told has reads =
      absurd (built_or_not files before after told reads image why is has)
  build_refuses (write_failed image is rose others) why told has reads =
      absurd (built_or_not files before after told reads image why is has)
  build_refuses (unbuilt {why = first} not same) why told has reads =
      inl (ap ends (one_reason files before after told reads first why not has))
  build_refuses (no_memory same) why told has reads = inr refl

  -- A cause is the whole of the answer.
  pub build_answers : (ended : Ended) → CauseOfBuild files out before after ended → Uncounted before after ended.why →
      WritesBuilt files out before after ended
  build_answers ended cause counts = record {
    builds = λ texts n told held r reads writes. build_done cause texts n told held r reads writes;
    refuses = λ why told has reads. build_refuses cause why told has reads;
    cause = cause;
    counts = counts;
  }

  pub build_not_usage : {ended : Ended} → CauseOfBuild files out before after ended → ended.why ≡ Usage → ⊥
  build_not_usage (written image bytes is file writes) e = cc
  build_not_usage (write_failed image is rose others) e = cc
  build_not_usage (unbuilt {why} not same) e = built_not_usage files before after why not e
  build_not_usage (no_memory same) e = cc
