-- What is built of the sources of a job, and why nothing is (this project's own).
use Rattle.std.specs.Prelude.{◌≡◌, ℕ, List}
use Rattle.elf_image.specs.Image.{Image}
use Rattle.mt_compile.specs.Compiled.{Compiled}
use Rattle.mt_compile.specs.Refused.{Refuses, number_of}
use Rattle.mt_compile.specs.declared.refusal.CompileRefusal.{CompileRefusal}
use Rattle.mt_answers.specs.Each.{Step, AreMadeOf, Stops, Hold}
use Rattle.mt_answers.specs.Seen.{FilesSeen}
use Rattle.linker.specs.Refusal.{number_of as link_number}
use Rattle.mt_answers.specs.declared.ended.Why.{Why}
use Rattle.mt_answers.specs.declared.ended.Why.TheVariants.{Refused, Link}
use Rattle.linker.specs.declared.refusal.LinkRefusal.{LinkRefusal}
use Rattle.mt_pipeline.specs.Built.{Builds, RefusesLink}

-- the source with this number is refused, and its byte is told
pub data RefusesSource (number : ℕ) (text : List ℕ) : Why → Type 0 where
  source : {refusal : CompileRefusal} {byte : ℕ} → Refuses text refusal byte →
      RefusesSource number text (Refused number (number_of refusal) byte)

-- each source is compiled before the next one is read
abbrev pub compiled : Step (List ℕ)
compiled = record { Makes = Compiled; Refuses = RefusesSource }

-- the image is built of the texts that the files hold
pub record IsBuiltOf (files : List (List ℕ)) (seen : FilesSeen) (image : Image) : Type 0 where
  pub texts : List (List ℕ)
  pub held : Hold seen files texts
  pub builds : Builds texts image

-- Nothing is built of the files, for this reason: one of them has no code, or their code is not linked. Memory may be wanting besides.
pub data NotBuilt (files : List (List ℕ)) (before after : FilesSeen) : Why → Type 0 where
  no_code : {why : Why} → Stops compiled before after 0 files why → NotBuilt files before after why
  no_link : (objects : List (List ℕ)) (refusal : LinkRefusal) → AreMadeOf compiled before files objects → RefusesLink objects refusal →
      NotBuilt files before after (Link (link_number refusal))
