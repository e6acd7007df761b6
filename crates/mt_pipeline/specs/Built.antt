-- What texts are built into, and why they are not (this project's own).
use Rattle.std.specs.Prelude.{◌≡◌, ◌<◌, ◌≤◌, ℕ, List, [], ◌∷◌, ◌++◌, length, map, codes}
use Rattle.elf_image.specs.Image.{Image}
use Rattle.elf_image.specs.ImageFile.{ImageFile}
use Rattle.mt_compile.specs.Compiled.{Compiled}
use Rattle.mt_compile.specs.Refused.{Refuses}
use Rattle.mt_compile.specs.declared.refusal.CompileRefusal.{CompileRefusal}
use Rattle.mt_compile.specs.declared.source.SourceText.{SourceText}
use Rattle.mt_answers.specs.Each.{file_number}
use Rattle.mt_pipeline.specs.Agrees.{Agrees}
use Rattle.mt_answers.specs.declared.refusal.BuildRefusal.{BuildRefusal}
use Rattle.mt_answers.specs.declared.refusal.BuildRefusal.TheVariants.{Compile, Link}
use Rattle.linker.specs.declared.refusal.LinkRefusal.{LinkRefusal}
use Rattle.linker.specs.declared.refusal.LinkRefusal.TheVariants.{TooManyObjects, Duplicate, NoMain}

-- the bytes of each text
abbrev pub texts_of : List SourceText → List (List ℕ)
texts_of texts = map (λ text. text.bytes.items) texts

-- ---- what they are built into

-- each text has its code, in order
abbrev pub AreCompiled : List (List ℕ) → List (List ℕ) → Type 0
AreCompiled [] [] = Unit {0}
AreCompiled (text ∷ texts) (words ∷ rest) = Compiled text words × AreCompiled texts rest
AreCompiled _ _ = ⊥

-- the image of code alone, entered at its first word
abbrev pub image_with : List ℕ → Image
image_with words = record { entry = 0x1000; relocs = []; descriptors = []; rodata = []; words = words; filled = []; zero_bytes = 0 }

-- Each code is that of a global function `main`. So one of them is linked, into the image that holds it.
pub record Linked (objects : List (List ℕ)) (image : Image) : Type 0 where
  pub words : List ℕ
  pub one : objects ≡ words ∷ []
  pub is : image ≡ image_with words

-- The texts are built into this image: it is linked from their code, and its run does what the texts mean.
pub record Builds (texts : List (List ℕ)) (image : Image) : Type 0 where
  pub objects : List (List ℕ)
  pub compiled : AreCompiled texts objects
  pub linked : Linked objects image
  pub agrees : Agrees texts image

-- these bytes are the file of an image that the texts are built into
pub record IsBuilt (texts : List (List ℕ)) (file : List ℕ) : Type 0 where
  pub image : Image
  pub builds : Builds texts image
  pub file_is : ImageFile image file

-- ---- why they are not

-- the most objects that are linked
abbrev pub most_objects : ℕ
most_objects = 16

-- why code is not linked, in the order of the constructors
pub data RefusesLink (objects : List (List ℕ)) : LinkRefusal → Type 0 where
  too_many : most_objects < length objects → RefusesLink objects (TooManyObjects (length objects))
  twice : 1 < length objects → length objects ≤ most_objects → RefusesLink objects (Duplicate (codes "main"))
  no_main : objects ≡ [] → RefusesLink objects NoMain

-- The texts have this refusal, and this byte is told of it, 0 where none is. The first text that is refused comes before the link.
pub data RefusesTexts (texts : List (List ℕ)) : BuildRefusal → ℕ → Type 0 where
  source : {text : List ℕ} {refusal : CompileRefusal} {byte : ℕ} (front back objects : List (List ℕ)) → texts ≡ front ++ text ∷ back →
      AreCompiled front objects →
      Refuses text refusal byte → RefusesTexts texts (Compile (file_number (length front)) refusal) byte
  link : {refusal : LinkRefusal} (objects : List (List ℕ)) → AreCompiled texts objects → RefusesLink objects refusal →
      RefusesTexts texts (Link refusal) 0
