-- What the command `link` answers, and which file it writes (this project's own).
use Rattle.std.specs.Prelude.{◌≡◌, ◌⊎◌, ℕ, List}
use Rattle.mt_outside.specs.Told.{WhereTold}
use Rattle.mt_outside.specs.Files.{OthersStay}
use Rattle.elf_obj.specs.Object.{Object}
use Rattle.elf_obj.specs.ObjectFault.{ObjectFault}
use Rattle.elf_obj.specs.ObjectFile.{IsFileOf}
use Rattle.elf_obj.specs.Refusal.{number_of as object_number, place_of as object_place}
use Rattle.elf_obj.specs.declared.refusal.ObjectRefusal.{ObjectRefusal}
use Rattle.elf_image.specs.Image.{Image}
use Rattle.elf_image.specs.ImageFile.{ImageFile}
use Rattle.linker.specs.Linked.{Linked}
use Rattle.linker.specs.LinkFault.{LinkFault}
use Rattle.linker.specs.Refusal.{number_of as link_number}
use Rattle.linker.specs.declared.refusal.LinkRefusal.{LinkRefusal}
use Rattle.mt_answers.specs.Counted.{Uncounted}
use Rattle.mt_answers.specs.Each.{Step, AreMadeOf, Stops}
use Rattle.mt_answers.specs.Seen.{FilesSeen, Seen, IsTold, ReadFailed, WriteFailed, SameFiles, IsSilent, Writes}
use Rattle.mt_answers.specs.Status.{ends}
use Rattle.mt_answers.specs.declared.ended.Ended.{Ended}
use Rattle.mt_answers.specs.declared.ended.Why.{Why}
use Rattle.mt_answers.specs.declared.ended.Why.TheVariants.{Done, Link, BadImage, NoMemory, WriteFault}

-- ---- the files of the objects

-- the bytes of the file with this number are refused for their first fault as an object's
pub data RefusesObject (number : ℕ) (bytes : List ℕ) : Why → Type 0 where
  bad_object : (refusal : ObjectRefusal) → ObjectFault bytes refusal →
      RefusesObject number bytes (BadImage number (object_number refusal) (object_place refusal))

-- of the bytes of a file its object is made
abbrev pub object_step : Step Object
object_step = record { Makes = λ bytes object. IsFileOf object bytes; Refuses = RefusesObject }

-- these are the objects of the files, in order
abbrev pub AreObjects : FilesSeen → List (List ℕ) → List Object → Type 0
AreObjects seen files objects = AreMadeOf object_step seen files objects

-- ---- their image

-- the image is linked from the objects that the files hold
pub record IsLinkedOf (files : List (List ℕ)) (seen : FilesSeen) (image : Image) : Type 0 where
  pub objects : List Object
  pub are : AreObjects seen files objects
  pub linked : Linked objects image

-- no condition refuses the objects
abbrev pub AreAccepted : List Object → Type 0
AreAccepted objects = (refusal : LinkRefusal) → LinkFault objects refusal → ⊥

-- Nothing is linked of the files, for this reason: the first of them that gives no object, or else the first condition of a link that
-- holds of the objects. Memory may be wanting besides.
pub data NotLinked (files : List (List ℕ)) (before after : FilesSeen) : Why → Type 0 where
  no_object : {why : Why} → Stops object_step before after 0 files why → NotLinked files before after why
  no_image : (objects : List Object) (refusal : LinkRefusal) → AreObjects before files objects → LinkFault objects refusal →
      NotLinked files before after (Link (link_number refusal))

-- ---- what is answered

-- The answers, each by its cause and what it leaves in the files: they change where the image is written, and at a failed write
-- the one file that was written is left open.
pub data CauseOfLink (files : List (List ℕ)) (out : List ℕ) (before after : FilesSeen) : Ended → Type 0 where
  written : (image : Image) (bytes : List ℕ) → IsLinkedOf files before image → ImageFile image bytes → Writes out bytes before after →
      CauseOfLink files out before after (ends Done)
  write_failed : (image : Image) → IsLinkedOf files before image → WriteFailed before after →
      WhereTold before.told after.told (OthersStay out) → CauseOfLink files out before after (ends (WriteFault 0))
  unlinked : {why : Why} → NotLinked files before after why → SameFiles before after → CauseOfLink files out before after (ends why)
  no_memory : SameFiles before after → CauseOfLink files out before after (ends NoMemory)

-- What `link` of files answers, and what it leaves of the files.
pub record WritesLinked (files : List (List ℕ)) (out : List ℕ) (before after : FilesSeen) (ended : Ended) : Type 0 where
  -- Where the files hold objects that no condition refuses and nothing failed, their image is written, or memory is wanting.
  pub links : (objects : List Object) → IsTold before → AreObjects before files objects → AreAccepted objects → ¬ ReadFailed before after →
      ¬ WriteFailed before after → (ended ≡ ends Done) ⊎ (ended ≡ ends NoMemory)
  -- Where nothing can be linked of the files and no read failed, that is answered, or memory is wanting.
  pub refuses : (why : Why) → IsTold before → NotLinked files before after why → ¬ ReadFailed before after →
      (ended ≡ ends why) ⊎ (ended ≡ ends NoMemory)
  -- Each answer comes only by its cause.
  pub cause : CauseOfLink files out before after ended
  -- No fault of a file is counted but the one that is answered.
  pub counts : Uncounted before after ended.why

-- It takes nothing and puts nothing, whatever it answers.
pub record LinkAnswers {S K : Type 0} (files : List (List ℕ)) (out : List ℕ) (before after : Seen S K) (ended : Ended) : Type 0 where
  pub writes : WritesLinked files out before.files after.files ended
  pub silent : IsSilent before after
