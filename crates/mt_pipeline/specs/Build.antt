-- What the command `build` answers, and which file it writes (this project's own).
use Rattle.std.specs.Prelude.{◌≡◌, ◌⊎◌, ℕ, List}
use Rattle.mt_outside.specs.Told.{WhereTold}
use Rattle.mt_outside.specs.Files.{OthersStay}
use Rattle.elf_image.specs.Image.{Image}
use Rattle.elf_image.specs.ImageFile.{ImageFile}
use Rattle.mt_answers.specs.Counted.{Uncounted}
use Rattle.mt_answers.specs.Each.{Hold}
use Rattle.mt_answers.specs.Seen.{FilesSeen, Seen, IsTold, ReadFailed, WriteFailed, SameFiles, IsSilent, Writes}
use Rattle.mt_answers.specs.Status.{ends}
use Rattle.mt_answers.specs.declared.ended.Ended.{Ended}
use Rattle.mt_answers.specs.declared.ended.Why.{Why}
use Rattle.mt_answers.specs.declared.ended.Why.TheVariants.{Done, NoMemory, WriteFault}
use Rattle.mt_pipeline.specs.Agrees.{Return}
use Rattle.mt_pipeline.specs.Sources.{IsBuiltOf, NotBuilt}

-- The answers, each by its cause and what it leaves in the files: they change where the image is written, and at a failed write
-- the one file that was written is left open.
pub data CauseOfBuild (files : List (List ℕ)) (out : List ℕ) (before after : FilesSeen) : Ended → Type 0 where
  written : (image : Image) (bytes : List ℕ) → IsBuiltOf files before image → ImageFile image bytes → Writes out bytes before after →
      CauseOfBuild files out before after (ends Done)
  write_failed : (image : Image) → IsBuiltOf files before image → WriteFailed before after →
      WhereTold before.told after.told (OthersStay out) → CauseOfBuild files out before after (ends (WriteFault 0))
  unbuilt : {why : Why} → NotBuilt files before after why → SameFiles before after → CauseOfBuild files out before after (ends why)
  no_memory : SameFiles before after → CauseOfBuild files out before after (ends NoMemory)

-- What `build` of files answers, and what it leaves of the files.
pub record WritesBuilt (files : List (List ℕ)) (out : List ℕ) (before after : FilesSeen) (ended : Ended) : Type 0 where
  -- Where the files hold the text of a constant, which is one text, and nothing failed, the image is written, or memory is wanting.
  pub builds : (texts : List (List ℕ)) (n : ℕ) → IsTold before → Hold before files texts → Return texts n → ¬ ReadFailed before after →
      ¬ WriteFailed before after → (ended ≡ ends Done) ⊎ (ended ≡ ends NoMemory)
  -- Where nothing can be built of the files and no read failed, that is answered, or memory is wanting.
  pub refuses : (why : Why) → IsTold before → NotBuilt files before after why → ¬ ReadFailed before after →
      (ended ≡ ends why) ⊎ (ended ≡ ends NoMemory)
  -- Each answer comes only by its cause.
  pub cause : CauseOfBuild files out before after ended
  -- No fault of a file is counted but the one that is answered.
  pub counts : Uncounted before after ended.why

-- It takes nothing and puts nothing, whatever it answers.
pub record BuildAnswers {S K : Type 0} (names : List (List ℕ)) (out : List ℕ) (before after : Seen S K) (ended : Ended) : Type 0 where
  pub writes : WritesBuilt names out before.files after.files ended
  pub silent : IsSilent before after
