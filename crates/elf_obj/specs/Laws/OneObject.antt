-- Bytes are the file of one object or have one first fault, and never both.
use Rattle.std.proofs.Common.{◌≡◌, ℕ, ◌<◌, ◌^◌, ◌⊎◌, List, length, Some, None, sym, ◌∙◌, inl, inr}
use Rattle.elf_base.specs.Laws.Lengths.{IsBytes}
use Rattle.elf_base.specs.Conditions.{first_fault}
use Rattle.elf_obj.specs.declared.refusal.ObjectRefusal.{ObjectRefusal}
use Rattle.elf_obj.specs.Object.{Object}
use Rattle.elf_obj.specs.ObjectFile.{IsFileOf}
use Rattle.elf_obj.specs.Claimed.{claimed}
use Rattle.elf_obj.specs.ObjectFault.{conditions, ObjectFault}
use Rattle.elf_obj.specs.Laws.FileOfClaims.{file_or_fault}
use Rattle.elf_obj.specs.Laws.Again.{claims}
use Rattle.elf_obj.specs.Laws.NoFault.{no_fault}

-- two objects with one file are equal
pub one_object : (p q : Object) (file : List ℕ) → IsFileOf p file → IsFileOf q file → p ≡ q
one_object p q file a b = sym (claims p file a) ∙ claims q file b

-- the file of an object has no fault
pub not_both : (p : Object) (file : List ℕ) (fault : ObjectRefusal) → IsFileOf p file → ObjectFault file fault → ⊥
not_both p file fault is has =
    let none : Some fault ≡ None = sym has ∙ no_fault p file is in cc

-- what bytes are: the file of an object, or bytes with a fault
abbrev pub Answered : List ℕ → Type 0
Answered file = ((p : Object) × IsFileOf p file) ⊎ ((fault : ObjectRefusal) × ObjectFault file fault)

-- bytes are one or the other
pub one_or_other : (file : List ℕ) → IsBytes file → length file < 2 ^ 63 → Answered file
one_or_other file fits short = elim (file_or_fault file fits short) [
  | inl is ↦ inl (claimed file, is)
  | inr has ↦ inr (has.fault, has.is)
]

-- what the file of an object claims, with no condition that fails
pub record ReadBack (p : Object) (file : List ℕ) : Type 0 where
  pub object : claimed file ≡ p
  pub none : first_fault (conditions file) ≡ None

-- reading what was written gives the object that was written
pub read_back : (p : Object) (file : List ℕ) → IsFileOf p file → ReadBack p file
read_back p file is = record { object = claims p file is; none = no_fault p file is }
