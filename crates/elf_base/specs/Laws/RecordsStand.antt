-- Records that stand in a file are those that are read there.
use Rattle.std.proofs.Common.{◌≡◌, ℕ, ◌+◌, ◌≤◌, List, [], ◌∷◌, ◌++◌, length, take, drop, refl, sym, ap, ◌∙◌, arith, add_assoc}
use Rattle.std.proofs.Common.{append_assoc, drop_at, drop-drop, take-append-drop, length-take, length-drop}
use Rattle.elf_base.specs.declared.header.Ehdr.{Ehdr}
use Rattle.elf_base.specs.declared.segment.Phdr.{Phdr}
use Rattle.elf_base.specs.declared.dynamic.Dyn.{Dyn}
use Rattle.elf_base.specs.Field.{Field, width_of, field_bytes, bytes_of, FieldsFit, StandsAt}
use Rattle.elf_base.specs.Records.{ehdr_fields, phdr_fields, dyn_fields}
use Rattle.elf_base.specs.Standing.{ehdr_at, phdr_at, dyn_at}
use Rattle.elf_base.specs.Laws.Lengths.{IsBytes, length-field_bytes}
use Rattle.elf_base.specs.Laws.Reads.{fields_like, read_like-field_bytes}
use Rattle.elf_base.specs.Laws.Same.{same_ehdr, same_phdr, same_dyn}
use Rattle.elf_base.specs.Laws.Standing.{stands}

-- what follows bytes that stand somewhere
pub begins_there : (file : List ℕ) (at : ℕ) (bytes : List ℕ) → StandsAt file at bytes
    → drop at file ≡ bytes ++ drop (length bytes) (drop at file)
begins_there file at bytes h =
    sym (take-append-drop (length bytes) (drop at file)) ∙ ap (λ (l : List ℕ). l ++ drop (length bytes) (drop at file)) h

-- bytes of a file stand where they are
pub stands_taken : (file : List ℕ) (at n : ℕ) (bytes : List ℕ) → at + n ≤ length file → bytes ≡ take n (drop at file)
    → StandsAt file at bytes
stands_taken file at n bytes within is =
    let len : length bytes ≡ n = omega (arith, ap length is, length-take n (drop at file), length-drop at file) in
    ap (λ (k : ℕ). take k (drop at file)) len ∙ sym is

-- fields are read again where they stand
pub fields_again : (fs : List Field) (at : ℕ) (xs rest : List ℕ) → FieldsFit fs → drop at xs ≡ bytes_of fs ++ rest
    → fields_like fs at xs ≡ fs
fields_again [] at xs rest fits here = refl
fields_again (f ∷ fs) at xs rest fits here =
    let front : drop at xs ≡ field_bytes f ++ (bytes_of fs ++ rest) = here ∙ append_assoc (field_bytes f) (bytes_of fs) rest in
    let back : drop (at + width_of f) xs ≡ bytes_of fs ++ rest =
    sym (drop-drop (width_of f) at xs) ∙ ap (drop (width_of f)) front
    ∙ drop_at (field_bytes f) (bytes_of fs ++ rest) (width_of f) (length-field_bytes f fits.0) in
    ap (λ (g : Field). g ∷ fields_like fs (at + width_of f) xs) (read_like-field_bytes f at xs (bytes_of fs ++ rest) fits.0 front)
    ∙ ap (λ (gs : List Field). f ∷ gs) (fields_again fs (at + width_of f) xs rest fits.1 back)

pub again : (fs : List Field) (at : ℕ) (file : List ℕ) → FieldsFit fs → StandsAt file at (bytes_of fs) → fields_like fs at file ≡ fs
again fs at file fits h = fields_again fs at file _ fits (begins_there file at (bytes_of fs) h)

pub phdr_again : (file : List ℕ) (at : ℕ) (p : Phdr) → FieldsFit (phdr_fields p) → StandsAt file at (bytes_of (phdr_fields p))
    → phdr_at at file ≡ p
phdr_again file at p fits h =
    let like : phdr_fields (phdr_at at file) ≡ fields_like (phdr_fields p) at file = simp add_assoc in
    let same : phdr_fields (phdr_at at file) ≡ phdr_fields p = like ∙ again (phdr_fields p) at file fits h in
    same_phdr (phdr_at at file) p same

pub dyn_again : (file : List ℕ) (at : ℕ) (d : Dyn) → FieldsFit (dyn_fields d) → StandsAt file at (bytes_of (dyn_fields d))
    → dyn_at at file ≡ d
dyn_again file at d fits h =
    let same : dyn_fields (dyn_at at file) ≡ dyn_fields d = again (dyn_fields d) at file fits h in
    same_dyn (dyn_at at file) d same

pub ehdr_again : (file : List ℕ) (at : ℕ) (h : Ehdr) → FieldsFit (ehdr_fields h) → StandsAt file at (bytes_of (ehdr_fields h))
    → ehdr_at at file ≡ h
ehdr_again file at h fits stands =
    let like : ehdr_fields (ehdr_at at file) ≡ fields_like (ehdr_fields h) at file = simp add_assoc in
    let same : ehdr_fields (ehdr_at at file) ≡ ehdr_fields h = like ∙ again (ehdr_fields h) at file fits stands in
    same_ehdr (ehdr_at at file) h same

-- a record stands at each place that has room for it
pub ehdr_stands : (file : List ℕ) (at : ℕ) → IsBytes file → at + 64 ≤ length file
    → StandsAt file at (bytes_of (ehdr_fields (ehdr_at at file)))
ehdr_stands file at fits within =
    let s = stands (ehdr_fields (ehdr_at at file)) at file fits within (simp add_assoc) in s.stand

pub phdr_stands : (file : List ℕ) (at : ℕ) → IsBytes file → at + 56 ≤ length file
    → StandsAt file at (bytes_of (phdr_fields (phdr_at at file)))
phdr_stands file at fits within =
    let s = stands (phdr_fields (phdr_at at file)) at file fits within (simp add_assoc) in s.stand
