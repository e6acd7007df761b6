-- An object has one file, and bytes have one first fault or none.
use Rattle.std.proofs.Common.{◌≡◌, ℕ, List, Option, Some, None, refl, sym, ◌∙◌, ◌⊎◌, inl, inr}
use Rattle.elf_base.specs.Laws.OneLayout.{one_layout}
use Rattle.elf_base.specs.Conditions.{first_fault}
use Rattle.elf_obj.specs.declared.refusal.ObjectRefusal.{ObjectRefusal}
use Rattle.elf_obj.specs.Object.{Object}
use Rattle.elf_obj.specs.Sections.{sizes_of, file_size}
use Rattle.elf_obj.specs.Contents.{pieces}
use Rattle.elf_obj.specs.ObjectFile.{ObjectFile}
use Rattle.elf_obj.specs.ObjectFault.{conditions, ObjectFault}

-- two files of one object are equal
pub one_file : (p : Object) (a b : List ℕ) → ObjectFile p a → ObjectFile p b → a ≡ b
one_file p a b ha hb = one_layout (pieces p) (file_size (sizes_of p)) a b ha.laid_out hb.laid_out

some_is : (e f : ObjectRefusal) → Some e ≡ Some f → e ≡ f
some_is e f h = cc

-- two first faults of the same bytes are equal
pub one_fault : (file : List ℕ) (e f : ObjectRefusal) → ObjectFault file e → ObjectFault file f → e ≡ f
one_fault file e f he hf = some_is e f (sym he ∙ hf)

-- some fault, or none
pub record HasFault (file : List ℕ) : Type 0 where
  pub fault : ObjectRefusal
  pub is : ObjectFault file fault

first : (o : Option ObjectRefusal) (file : List ℕ) → first_fault (conditions file) ≡ o
    → (first_fault (conditions file) ≡ None) ⊎ HasFault file
first None file h = inl h
first (Some e) file h = inr (record { fault = e; is = h })

-- no condition fails, or one is the first that does
pub all_or_first : (file : List ℕ) → (first_fault (conditions file) ≡ None) ⊎ HasFault file
all_or_first file = first (first_fault (conditions file)) file refl
