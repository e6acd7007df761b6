-- The image that is read, and where its parts lie, from the headers of a file without a fault.
use Rattle.std.proofs.Common.{◌≡◌, ℕ, List, ap, sym, ◌∙◌, subst}
use Rattle.elf_base.specs.Laws.Lengths.{IsBytes}
use Rattle.elf_image.specs.declared.heads.Heads.{Heads}
use Rattle.elf_image.specs.Image.{Image}
use Rattle.elf_image.specs.Ranges.{IsFileOf}
use Rattle.elf_image.specs.Heads.{heads_at}
use Rattle.elf_image.specs.Faults.{fault_of, no_fault}
use Rattle.elf_image.specs.Laws.ReadBack.{image_at, read_back}
use Rattle.elf_image.specs.Laws.Within.{Room, room}

pub room_of : (file : List ℕ) (h : Heads) → h ≡ heads_at file → fault_of file ≡ no_fault → Room file h
room_of file h is none = subst (λ (k : Heads). Room file k) (sym is) (room file none)

pub file_of : (file : List ℕ) (h : Heads) (p : Image) → IsBytes file → h ≡ heads_at file → fault_of file ≡ no_fault → p ≡ image_at file h
    → IsFileOf p file
file_of file h p fits is none read =
    subst (λ (q : Image). IsFileOf q file) (sym (read ∙ ap (λ (k : Heads). image_at file k) is)) (read_back file fits none)
