-- Why an image does not run, from what the reading and the start refuse.
use Rattle.std.proofs.Common.{◌≡◌, ◌⊎◌, ℕ, List, refl, inl, inr}
use Rattle.elf_image.specs.Faults.{ImageFault}
use Rattle.elf_image.specs.Image.{Image}
use Rattle.elf_image.specs.Ranges.{IsFileOf}
use Rattle.elf_image.specs.declared.refusal.ImageRefusal.{ImageRefusal}
use Rattle.elf_image.specs.declared.refusal.ImageRefusal.TheVariants as image
use Rattle.tag_startup.specs.Starts.{StartFault}
use Rattle.tag_startup.specs.declared.refusal.StartRefusal.{StartRefusal}
use Rattle.tag_startup.specs.declared.refusal.StartRefusal.TheVariants as start
use Rattle.mt_pipeline.specs.RunFile.{RefusesRun, no_image, no_start}
use Rattle.mt_answers.specs.Unrun.{of_image, of_start}
use Rattle.mt_answers.specs.declared.refusal.RunRefusal.{RunRefusal}
use Rattle.mt_answers.specs.declared.refusal.RunRefusal.TheVariants.{NoMemory}

-- memory is wanting, or the bytes do not run for this
abbrev pub IsRefusal : List ℕ → RunRefusal → Type 0
IsRefusal bytes refusal = (refusal ≡ NoMemory) ⊎ RefusesRun bytes refusal

pub image_cause : (bytes : List ℕ) (e : ImageRefusal) → (e ≡ image.NoMemory) ⊎ ImageFault bytes e → IsRefusal bytes (of_image e)
image_cause bytes image.NoMemory cause = inl refl
image_cause bytes e (inr fault) = inr (no_image e fault)
image_cause bytes e (inl none) = cc

pub start_cause : (bytes : List ℕ) (parts : Image) (e : StartRefusal) → IsFileOf parts bytes →
    (e ≡ start.NoMemory) ⊎ StartFault parts e → IsRefusal bytes (of_start e)
start_cause bytes parts start.NoMemory is cause = inl refl
start_cause bytes parts e is (inr fault) = inr (no_start parts e is fault)
start_cause bytes parts e is (inl none) = cc
