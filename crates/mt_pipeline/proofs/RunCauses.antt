-- The answers of the command `run`, from their causes.
use Rattle.std.proofs.Common.{◌≡◌, ◌⊎◌, ◌≤◌, ℕ, ◌%◌, List, Some, refl, sym, ap, ◌∙◌, subst, inl, inr}
use Rattle.elf_image.specs.Constant.{constant_image, int_max}
use Rattle.elf_image.specs.Image.{Image}
use Rattle.elf_image.specs.ImageFile.{ImageFile}
use Rattle.elf_image.specs.Ranges.{IsFileOf}
use Rattle.elf_image.specs.Laws.ConstantLaws.{constant_is_file}
use Rattle.elf_image.specs.Laws.OneImage.{one_image}
use Rattle.tag_startup.specs.Starts.{Starts}
use Rattle.mt_answers.specs.Answer.{IsAnswerTo, ended_of}
use Rattle.mt_answers.specs.Counted.{UncountedReads}
use Rattle.mt_words.specs.Jobs.{RunOptions}
use Rattle.mt_pipeline.specs.Ran.{RunsTo}
use Rattle.mt_answers.specs.Read.{CauseOfNoBytes}
use Rattle.mt_pipeline.specs.RunFile.{RefusesRun, no_image, no_start, RunAnswers, CauseOfRun, ran, refused, unread, no_memory}
use Rattle.mt_answers.specs.Seen.{Seen, MayHold, bytes_of, ReadFailed, SameFiles, IsSilent}
use Rattle.mt_answers.specs.Status.{ends, ended_so, ComesBeforeRun, run_number, run_place}
use Rattle.mt_answers.specs.Unrun.{answer_to_run}
use Rattle.mt_pipeline.specs.Laws.ConstantRun.{constant_exits, constant_starts}
use Rattle.mt_pipeline.specs.Laws.OneRun.{no_refusal, one_cause}
use Rattle.mt_answers.specs.declared.ended.Ended.{Ended}
use Rattle.mt_answers.specs.declared.ended.Why.TheVariants.{Exited, BadImage, NoMemory, Usage}
use Rattle.mt_answers.specs.declared.answer.Answer.{Answer}
use Rattle.mt_answers.specs.declared.refusal.RunRefusal.{RunRefusal}
use Rattle.mt_answers.specs.declared.refusal.RunRefusal.TheVariants as run
use Rattle.mt_answers.specs.Laws.SameBytes.{same_bytes, not_unread}
use Rattle.mt_answers.specs.Laws.Answering.{answered, unread_not_usage}
use Rattle.mt_pipeline.proofs.Statuses.{exits_late, ran_after, ran_not_usage}

module _ {S K : Type 0} (file : List ℕ) (options : RunOptions) (before after : Seen S K) where
  -- it runs, or memory is wanting
  abbrev RunsOrWants : Image → Ended → Type 0
  RunsOrWants image ended = RunsTo image options before.streams after.streams ended ⊎ (ended ≡ ends NoMemory)

  -- it is refused so, or memory is wanting
  abbrev RefusesOrWants : RunRefusal → Ended → Type 0
  RefusesOrWants cause ended = (ended ≡ ends (BadImage 0 (run_number cause) (run_place cause))) ⊎ (ended ≡ ends NoMemory)

  -- what the file holds is what was read of it
  read_same : (P : List ℕ → Type 0) (bytes read : List ℕ) → bytes_of before.files file ≡ Some bytes → MayHold before.files file read →
      P read → P bytes
  read_same P bytes read holds may p = subst P (same_bytes before.files file bytes read holds may) p

  run_runs : {ended : Ended} → CauseOfRun file options before after ended → (bytes : List ℕ) (image : Image) →
      bytes_of before.files file ≡ Some bytes → IsFileOf image bytes → Starts image → ¬ ReadFailed before.files after.files →
      RunsOrWants image ended
  run_runs (ran {ended} read found may is to) bytes image holds file_is alone no_fault =
      inl (subst (λ i. RunsTo i options before.streams after.streams ended)
      (one_image found image bytes (read_same (IsFileOf found) bytes read holds may is) file_is) to)
  run_runs (refused read cause may refuses silent) bytes image holds file_is alone no_fault =
      absurd (no_refusal bytes image cause file_is alone (read_same (λ b. RefusesRun b cause) bytes read holds may refuses))
  run_runs (unread cause silent) bytes image holds file_is alone no_fault =
      absurd (not_unread 0 file bytes before.files after.files cause holds no_fault)
  run_runs (no_memory silent) bytes image holds file_is alone no_fault = inr refl

  run_exits : (n : ℕ) (ended : Ended) → n ≤ int_max → 3 ≤ options.steps → RunsOrWants (constant_image n) ended →
      (ended ≡ ended_so (n % 256) Exited) ⊎ (ended ≡ ends NoMemory)
  run_exits n ended within enough (inl to) =
      inl (exits_late (constant_image n) (n % 256) options before.streams after.streams ended (constant_exits n within) to enough)
  run_exits n ended within enough (inr wanting) = inr wanting

  run_refuses : {ended : Ended} → CauseOfRun file options before after ended → (bytes : List ℕ) (cause : RunRefusal) →
      bytes_of before.files file ≡ Some bytes → RefusesRun bytes cause → ¬ ReadFailed before.files after.files → RefusesOrWants cause ended
  run_refuses (ran read found may is to) bytes cause holds refuses no_fault =
      absurd (no_refusal bytes found cause (read_same (IsFileOf found) bytes read holds may is) to.runs.machine.starts refuses)
  run_refuses (refused read first may has silent) bytes cause holds refuses no_fault =
      inl (ap (λ r. ends (BadImage 0 (run_number r) (run_place r)))
      (one_cause bytes first cause (read_same (λ b. RefusesRun b first) bytes read holds may has) refuses))
  run_refuses (unread why silent) bytes cause holds refuses no_fault =
      absurd (not_unread 0 file bytes before.files after.files why holds no_fault)
  run_refuses (no_memory silent) bytes cause holds refuses no_fault = inr refl

  run_silent : {ended : Ended} → CauseOfRun file options before after ended → ComesBeforeRun ended.why → IsSilent before after
  run_silent (ran read image may is to) comes = absurd (ran_after to.end (subst ComesBeforeRun (ap (λ e. e.why) to.answered) comes))
  run_silent (refused read cause may refuses silent) comes = silent
  run_silent (unread cause silent) comes = silent
  run_silent (no_memory silent) comes = silent

  -- the program of a constant takes nothing and puts nothing
  abbrev pub ConstantSilent : Type 0
  ConstantSilent = (bytes : List ℕ) (n : ℕ) → bytes_of before.files file ≡ Some bytes → n ≤ int_max → ImageFile (constant_image n) bytes →
      IsSilent before after

  -- A cause is the whole of the answer.
  pub run_answers : (ended : Ended) → CauseOfRun file options before after ended → ConstantSilent → SameFiles before.files after.files →
      UncountedReads before.files after.files ended.why → RunAnswers file options before after ended
  run_answers ended cause quiet files counts = record {
    runs = λ bytes image holds is alone no_fault. run_runs cause bytes image holds is alone no_fault;
    exits = λ bytes n holds within file_is no_fault enough.
        run_exits n ended within enough
        (run_runs cause bytes (constant_image n) holds (constant_is_file n bytes within file_is) (constant_starts n) no_fault);
    refuses = λ bytes why holds refuses no_fault. run_refuses cause bytes why holds refuses no_fault;
    cause = cause;
    constant_silent = quiet;
    silent = λ comes. run_silent cause comes;
    files = files;
    counts = counts;
  }

  pub run_not_usage : {ended : Ended} → CauseOfRun file options before after ended → ended.why ≡ Usage → ⊥
  run_not_usage (ran read image may is to) e = ran_not_usage to.end (sym (ap (λ e. e.why) to.answered) ∙ e)
  run_not_usage (refused read cause may refuses silent) e = cc
  run_not_usage (unread cause silent) e = unread_not_usage 0 file before.files after.files cause e
  run_not_usage (no_memory silent) e = cc

  -- it was not read, or memory was wanting
  pub run_unread : (answer : Answer) → IsAnswerTo (CauseOfNoBytes 0 file before.files after.files) answer → IsSilent before after →
      CauseOfRun file options before after (ended_of answer)
  run_unread answer cause silent =
      answered (CauseOfRun file options before after) (CauseOfNoBytes 0 file before.files after.files) answer cause (no_memory silent)
      (λ why not. unread not silent)

  -- a refusal is the want of memory, or that of bytes that do not run
  pub run_refused : (bytes : List ℕ) (refusal : RunRefusal) → MayHold before.files file bytes → IsSilent before after →
      (refusal ≡ run.NoMemory) ⊎ RefusesRun bytes refusal → CauseOfRun file options before after (ended_of (answer_to_run refusal))
  run_refused bytes refusal may silent (inl wanting) =
      subst (λ r. CauseOfRun file options before after (ended_of (answer_to_run r))) (sym wanting) (no_memory silent)
  run_refused bytes _ may silent (inr (no_image fault has)) = refused bytes (run.Image fault) may (no_image fault has) silent
  run_refused bytes _ may silent (inr (no_start image fault is has)) =
      refused bytes (run.Start fault) may (no_start image fault is has) silent
