-- What the command `go` answers: the end of the program's run, or another answer with its cause (this project's own).
use Rattle.std.specs.Prelude.{◌≡◌, ◌⊎◌, ◌≤◌, ℕ, ◌%◌, List}
use Rattle.elf_image.specs.Constant.{constant_image}
use Rattle.elf_image.specs.Image.{Image}
use Rattle.mt_answers.specs.Counted.{UncountedReads}
use Rattle.mt_answers.specs.Each.{Hold}
use Rattle.mt_answers.specs.Seen.{Seen, IsTold, ReadFailed, SameFiles, IsSilent}
use Rattle.mt_answers.specs.Status.{ends, ended_so}
use Rattle.mt_answers.specs.declared.ended.Ended.{Ended}
use Rattle.mt_answers.specs.declared.ended.Why.{Why}
use Rattle.mt_answers.specs.declared.ended.Why.TheVariants.{Exited, NoMemory}
use Rattle.mt_words.specs.Jobs.{RunOptions}
use Rattle.mt_pipeline.specs.Agrees.{Return}
use Rattle.mt_pipeline.specs.Ran.{RunsTo}
use Rattle.mt_pipeline.specs.Sources.{IsBuiltOf, NotBuilt}

-- The answers, each by its cause.
pub data CauseOfGo {S K : Type 0} (files : List (List ℕ)) (options : RunOptions) (before after : Seen S K) : Ended → Type 0 where
  -- an image was built of the files, and it ran
  ran : {ended : Ended} (image : Image) → IsBuiltOf files before.files image → RunsTo image options before.streams after.streams ended →
      CauseOfGo files options before after ended
  -- or none was
  unbuilt : {why : Why} → NotBuilt files before.files after.files why → IsSilent before after →
      CauseOfGo files options before after (ends why)
  no_memory : IsSilent before after → CauseOfGo files options before after (ends NoMemory)

-- What `go` of files answers, and what it leaves.
pub record GoAnswers {S K : Type 0} (names : List (List ℕ)) (options : RunOptions) (before after : Seen S K) (ended : Ended) : Type 0 where
  -- Where the files hold the text of a constant, which is one text, and no read failed, the program runs, or memory is wanting.
  pub runs : (texts : List (List ℕ)) (n : ℕ) → IsTold before.files → Hold before.files names texts → Return texts n →
      ¬ ReadFailed before.files after.files →
      RunsTo (constant_image n) options before.streams after.streams ended ⊎ (ended ≡ ends NoMemory)
  -- It exits with the constant modulo 256 where three steps may run.
  pub exits : (texts : List (List ℕ)) (n : ℕ) → IsTold before.files → Hold before.files names texts → Return texts n →
      ¬ ReadFailed before.files after.files → 3 ≤ options.steps →
      (ended ≡ ended_so (n % 256) Exited) ⊎ (ended ≡ ends NoMemory)
  -- Where nothing can be built of the files and no read failed, that is answered, or memory is wanting.
  pub refuses : (why : Why) → IsTold before.files → NotBuilt names before.files after.files why → ¬ ReadFailed before.files after.files →
      (ended ≡ ends why) ⊎ (ended ≡ ends NoMemory)
  -- Each answer comes only by its cause.
  pub cause : CauseOfGo names options before after ended
  -- The program of a constant takes nothing and puts nothing, and no other answer comes after something was taken or put.
  pub silent : IsSilent before after
  -- No file changes.
  pub files : SameFiles before.files after.files
  -- No fault of a file is counted but the one that is answered, and none of a write.
  pub counts : UncountedReads before.files after.files ended.why
