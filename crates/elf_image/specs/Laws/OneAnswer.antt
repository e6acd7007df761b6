-- Bytes are the file of one image or have one first fault, and never both.
use Rattle.std.proofs.Common.{◌≡◌, ℕ, ◌⊎◌, List, Option, Some, None, refl, sym, ◌∙◌, inl, inr}
use Rattle.elf_base.specs.Laws.Lengths.{IsBytes}
use Rattle.elf_image.specs.declared.refusal.ImageRefusal.{ImageRefusal}
use Rattle.elf_image.specs.Image.{Image}
use Rattle.elf_image.specs.Ranges.{IsFileOf}
use Rattle.elf_image.specs.Heads.{heads_at}
use Rattle.elf_image.specs.Faults.{fault_of, ImageFault, no_fault}
use Rattle.elf_image.specs.Laws.NoFault.{no_fault_of}
use Rattle.elf_image.specs.Laws.ReadBack.{image_at, read_back}

-- the file of an image has no fault
pub not_both : (p : Image) (file : List ℕ) (fault : ImageRefusal) → IsFileOf p file → ImageFault file fault → ⊥
not_both p file fault is has =
    let none : Some fault ≡ no_fault = sym has ∙ no_fault_of p file is in cc

-- bytes have one first fault
pub one_fault : (file : List ℕ) (fault other : ImageRefusal) → ImageFault file fault → ImageFault file other → fault ≡ other
one_fault file fault other has also =
    let same : Some fault ≡ Some other = sym has ∙ also in cc

-- what bytes are: the file of an image, or bytes with a fault
abbrev pub Answered : List ℕ → Type 0
Answered file = ((p : Image) × IsFileOf p file) ⊎ ((fault : ImageRefusal) × ImageFault file fault)

by_fault : (file : List ℕ) (found : Option ImageRefusal) → IsBytes file → fault_of file ≡ found → Answered file
by_fault file None fits is = inl (image_at file (heads_at file), read_back file fits is)
by_fault file (Some fault) fits is = inr (fault, is)

-- bytes are one or the other
pub one_or_other : (file : List ℕ) → IsBytes file → Answered file
one_or_other file fits = by_fault file (fault_of file) fits refl
