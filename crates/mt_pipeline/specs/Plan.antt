-- What the command `plan` answers, and what it puts on the output (this project's own).
use Rattle.std.specs.Prelude.{◌≡◌, ◌⊎◌, ℕ, List, Some}
use Rattle.mt_outside.specs.Told.{Rose}
use Rattle.mt_compile.specs.Planned.{HasPlan, PlanRefuses, IsPlanRefused}
use Rattle.mt_compile.specs.Refused.{number_of}
use Rattle.mt_compile.specs.declared.refusal.CompileRefusal.{CompileRefusal}
use Rattle.mt_answers.specs.Counted.{UncountedReads}
use Rattle.mt_answers.specs.Put.{FilesAndOutput, PutsAll, PutsPart, output_of, with_output}
use Rattle.mt_answers.specs.Read.{CauseOfNoBytes}
use Rattle.mt_answers.specs.Seen.{Seen, bytes_of, MayHold, ReadFailed, SameFiles}
use Rattle.mt_answers.specs.Status.{ends}
use Rattle.mt_answers.specs.declared.ended.Ended.{Ended}
use Rattle.mt_answers.specs.declared.ended.Why.{Why}
use Rattle.mt_answers.specs.declared.ended.Why.TheVariants.{Done, Refused, NoMemory, OutputFault}

-- The answers, each by its cause.
pub data CauseOfPlan {K : Type 0} (file : List ℕ) (before after : FilesAndOutput K) : Ended → Type 0 where
  -- the lines that tell the frames of the program's functions were put
  put : (bytes lines : List ℕ) → MayHold before.files file bytes → HasPlan bytes lines → PutsAll lines before.output after.output →
      CauseOfPlan file before after (ends Done)
  -- or the output failed
  put_failed : (bytes lines : List ℕ) → MayHold before.files file bytes → HasPlan bytes lines →
      PutsPart lines before.output after.output → CauseOfPlan file before after (ends OutputFault)
  -- the text is refused
  refused : (bytes : List ℕ) (refusal : CompileRefusal) (byte : ℕ) → MayHold before.files file bytes → PlanRefuses bytes refusal byte →
      after.output ≡ before.output → CauseOfPlan file before after (ends (Refused 0 (number_of refusal) byte))
  -- it was not read
  unread : {why : Why} → CauseOfNoBytes 0 file before.files after.files why → after.output ≡ before.output →
      CauseOfPlan file before after (ends why)
  no_memory : after.output ≡ before.output → CauseOfPlan file before after (ends NoMemory)

-- What `plan` of a file answers, and what it leaves of the files and on the output.
pub record Plans {K : Type 0} (file : List ℕ) (before after : FilesAndOutput K) (ended : Ended) : Type 0 where
  -- Where the file has a plan, and no read and no put failed, its lines are put, or memory is wanting.
  pub prints : (bytes lines : List ℕ) → bytes_of before.files file ≡ Some bytes → HasPlan bytes lines →
      ¬ ReadFailed before.files after.files → ¬ Rose before.output.faults after.output.faults →
      ((ended ≡ ends Done) × PutsAll lines before.output after.output) ⊎ (ended ≡ ends NoMemory)
  -- Where it holds a text that is refused and no read failed, it is refused so, or memory is wanting.
  pub refuses : (bytes : List ℕ) (number byte : ℕ) → bytes_of before.files file ≡ Some bytes → IsPlanRefused bytes number byte →
      ¬ ReadFailed before.files after.files → (ended ≡ ends (Refused 0 number byte)) ⊎ (ended ≡ ends NoMemory)
  -- Each answer comes only by its cause.
  pub cause : CauseOfPlan file before after ended
  -- No file changes.
  pub files : SameFiles before.files after.files
  -- No fault of a file is counted but the one that is answered, and none of a write.
  pub counts : UncountedReads before.files after.files ended.why

-- Nothing is taken from the input.
pub record PlanAnswers {S K : Type 0} (file : List ℕ) (before after : Seen S K) (ended : Ended) : Type 0 where
  pub plans : Plans file (with_output before.files (output_of before.streams)) (with_output after.files (output_of after.streams)) ended
  pub source : after.streams.source ≡ before.streams.source
  pub input : after.streams.input ≡ before.streams.input
  pub input_faults : after.streams.read_faults ≡ before.streams.read_faults
