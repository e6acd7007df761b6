-- What the command `run` answers: the end of the image's run, or another answer with its cause (this project's own).
use Rattle.std.specs.Prelude.{◌≡◌, ◌⊎◌, ◌≤◌, ℕ, ◌%◌, List, Some}
use Rattle.elf_image.specs.Constant.{constant_image, int_max}
use Rattle.elf_image.specs.Faults.{ImageFault}
use Rattle.elf_image.specs.Image.{Image}
use Rattle.elf_image.specs.ImageFile.{ImageFile}
use Rattle.elf_image.specs.Ranges.{IsFileOf}
use Rattle.elf_image.specs.declared.refusal.ImageRefusal.{ImageRefusal}
use Rattle.tag_startup.specs.Starts.{Starts, StartFault}
use Rattle.tag_startup.specs.declared.refusal.StartRefusal.{StartRefusal}
use Rattle.mt_answers.specs.Counted.{UncountedReads}
use Rattle.mt_words.specs.Jobs.{RunOptions}
use Rattle.mt_pipeline.specs.Ran.{RunsTo}
use Rattle.mt_answers.specs.Read.{CauseOfNoBytes}
use Rattle.mt_answers.specs.Seen.{Seen, bytes_of, MayHold, ReadFailed, SameFiles, IsSilent}
use Rattle.mt_answers.specs.Status.{ends, ended_so, ComesBeforeRun, run_number, run_place}
use Rattle.mt_answers.specs.declared.ended.Ended.{Ended}
use Rattle.mt_answers.specs.declared.ended.Why.{Why}
use Rattle.mt_answers.specs.declared.ended.Why.TheVariants.{Exited, BadImage, NoMemory}
use Rattle.mt_answers.specs.declared.refusal.RunRefusal.{RunRefusal}
use Rattle.mt_answers.specs.declared.refusal.RunRefusal.TheVariants as run

-- why bytes do not run
pub data RefusesRun (bytes : List ℕ) : RunRefusal → Type 0 where
  -- they are no image, by their first fault
  no_image : (fault : ImageRefusal) → ImageFault bytes fault → RefusesRun bytes (run.Image fault)
  -- they are an image that does not start, by its first fault
  no_start : (image : Image) (fault : StartRefusal) → IsFileOf image bytes → StartFault image fault → RefusesRun bytes (run.Start fault)

-- The answers, each by its cause.
pub data CauseOfRun {S K : Type 0} (file : List ℕ) (options : RunOptions) (before after : Seen S K) : Ended → Type 0 where
  -- the file is an image, and it ran
  ran : {ended : Ended} (bytes : List ℕ) (image : Image) → MayHold before.files file bytes → IsFileOf image bytes →
      RunsTo image options before.streams after.streams ended → CauseOfRun file options before after ended
  -- it does not run
  refused : (bytes : List ℕ) (cause : RunRefusal) → MayHold before.files file bytes → RefusesRun bytes cause → IsSilent before after →
      CauseOfRun file options before after (ends (BadImage 0 (run_number cause) (run_place cause)))
  -- it was not read
  unread : {why : Why} → CauseOfNoBytes 0 file before.files after.files why → IsSilent before after →
      CauseOfRun file options before after (ends why)
  no_memory : IsSilent before after → CauseOfRun file options before after (ends NoMemory)

-- What `run` of an image answers, and what it leaves.
pub record RunAnswers {S K : Type 0} (file : List ℕ) (options : RunOptions) (before after : Seen S K) (ended : Ended) : Type 0 where
  -- Where the file holds an image that starts and no read failed, the image runs, or memory is wanting.
  pub runs : (bytes : List ℕ) (image : Image) → bytes_of before.files file ≡ Some bytes → IsFileOf image bytes → Starts image →
      ¬ ReadFailed before.files after.files →
      RunsTo image options before.streams after.streams ended ⊎ (ended ≡ ends NoMemory)
  -- That of a constant, which `build` writes, exits with the constant modulo 256 where three steps may run.
  pub exits : (bytes : List ℕ) (n : ℕ) → bytes_of before.files file ≡ Some bytes → n ≤ int_max → ImageFile (constant_image n) bytes →
      ¬ ReadFailed before.files after.files → 3 ≤ options.steps → (ended ≡ ended_so (n % 256) Exited) ⊎ (ended ≡ ends NoMemory)
  -- Where it holds bytes that do not run and no read failed, they are refused for that, or memory is wanting.
  pub refuses : (bytes : List ℕ) (cause : RunRefusal) → bytes_of before.files file ≡ Some bytes → RefusesRun bytes cause →
      ¬ ReadFailed before.files after.files →
      (ended ≡ ends (BadImage 0 (run_number cause) (run_place cause))) ⊎ (ended ≡ ends NoMemory)
  -- Each answer comes only by its cause.
  pub cause : CauseOfRun file options before after ended
  -- The program of a constant takes nothing and puts nothing.
  pub constant_silent : (bytes : List ℕ) (n : ℕ) → bytes_of before.files file ≡ Some bytes → n ≤ int_max →
      ImageFile (constant_image n) bytes → IsSilent before after
  -- Nothing was taken or put where no program was run.
  pub silent : ComesBeforeRun ended.why → IsSilent before after
  -- No file changes.
  pub files : SameFiles before.files after.files
  -- No fault of a file is counted but the one that is answered, and none of a write.
  pub counts : UncountedReads before.files after.files ended.why
