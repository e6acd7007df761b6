-- A record stands at each place of a file that has room for it, and it is the one that is read.
use Rattle.std.proofs.Common.{◌≡◌, ℕ, zero, suc, ◌+◌, ◌^◌, ◌<◌, ◌≤◌, List, [], ◌∷◌, ◌++◌, length, take, drop, refl, sym, ap, subst, ◌∙◌}
use Rattle.std.proofs.Common.{arith, Result, Ok, Err, add_assoc, Fits, drop-drop, length-take, length-drop}
use Rattle.std.specs.Prelude.{IsErr, ◌↔◌}
use Rattle.std.specs.Int.{w64, cast_signed}
use Rattle.std.proofs.Math.Facts.{sfits_to_z}
use Rattle.byteorder.specs.Numbers.{little_from-lt}
use Rattle.elf_base.specs.declared.header.Ehdr.{Ehdr}
use Rattle.elf_base.specs.declared.segment.Phdr.{Phdr}
use Rattle.elf_base.specs.declared.dynamic.Dyn.{Dyn}
use Rattle.elf_base.specs.declared.place.Short.{Short}
use Rattle.elf_base.specs.Field.{Field, number, signed, raw, width_of, field_bytes, bytes_of, total_width, FieldFits, FieldsFit, StandsAt}
use Rattle.elf_base.specs.Place.{number_at}
use Rattle.elf_base.specs.Records.{ehdr_fields, phdr_fields, dyn_fields}
use Rattle.elf_base.specs.Standing.{ehdr_at, phdr_at, dyn_at}
use Rattle.elf_base.specs.Laws.Lengths.{IsBytes, length-bytes_of}
use Rattle.elf_base.specs.Laws.Reads.{fields_like, read_like, IsBytes-drop, field_bytes-read_like}

nothing_taken : (j : ℕ) → take {A = ℕ} j [] ≡ []
nothing_taken zero = refl
nothing_taken (suc j) = refl

pub take-add : (i j : ℕ) (xs : List ℕ) → take (i + j) xs ≡ take i xs ++ take j (drop i xs)
take-add zero j xs = let same : zero + j ≡ j = omega arith in ap (λ (k : ℕ). take k xs) same
take-add (suc i) j [] = let same : suc i + j ≡ suc (i + j) = omega arith in rw same (sym (nothing_taken j))
take-add (suc i) j (x ∷ xs) = let same : suc i + j ≡ suc (i + j) = omega arith in rw same (ap (λ (l : List ℕ). x ∷ l) (take-add i j xs))

-- the bytes of the fields that stand from a place on
pub bytes_of-standing : (fs : List Field) (at : ℕ) (xs : List ℕ) → IsBytes xs → at + total_width fs ≤ length xs
    → bytes_of (fields_like fs at xs) ≡ take (total_width fs) (drop at xs)
bytes_of-standing [] at xs fits h = refl
bytes_of-standing (f ∷ fs) at xs fits h =
    let first = field_bytes-read_like f at xs fits (omega arith) in
    let others = bytes_of-standing fs (at + width_of f) xs fits (omega arith) in
    let rest : drop (at + width_of f) xs ≡ drop (width_of f) (drop at xs) = sym (drop-drop (width_of f) at xs) in
    ap (λ (l : List ℕ). l ++ bytes_of (fields_like fs (at + width_of f) xs)) first
    ∙ ap (λ (l : List ℕ). take (width_of f) (drop at xs) ++ l) (others ∙ ap (take (total_width fs)) rest)
    ∙ sym (take-add (width_of f) (total_width fs) (drop at xs))

-- such fields fit their widths
pub number_fits : (width at : ℕ) (xs : List ℕ) → IsBytes xs → number_at width at xs < 256 ^ width
unfolding number_at
number_fits width at xs fits = little_from-lt 0 width (drop at xs) (IsBytes-drop at xs fits)

pub field_fits : (f : Field) (at : ℕ) (xs : List ℕ) → IsBytes xs → at + width_of f ≤ length xs → FieldFits (read_like f at xs)
field_fits (number width n) at xs fits h = number_fits width at xs fits
field_fits (signed z) at xs fits h =
    let low = number_fits 8 at xs fits in
    let whole : Fits w64 (number_at 8 at xs) = record { fits = omega arith } in
    sfits_to_z whole
field_fits (raw width bytes) at xs fits h = omega (arith, length-take width (drop at xs), length-drop at xs)

pub fields_fit : (fs : List Field) (at : ℕ) (xs : List ℕ) → IsBytes xs → at + total_width fs ≤ length xs → FieldsFit (fields_like fs at xs)
fields_fit [] at xs fits h = tt
fields_fit (f ∷ fs) at xs fits h = (field_fits f at xs fits (omega arith), fields_fit fs (at + width_of f) xs fits (omega arith))

pub same_width : (fs : List Field) (at : ℕ) (xs : List ℕ) → total_width (fields_like fs at xs) ≡ total_width fs
same_width [] at xs = refl
same_width (number width n ∷ fs) at xs = ap (λ (k : ℕ). width + k) (same_width fs (at + width) xs)
same_width (signed z ∷ fs) at xs = ap (λ (k : ℕ). 8 + k) (same_width fs (at + 8) xs)
same_width (raw width bytes ∷ fs) at xs = ap (λ (k : ℕ). width + k) (same_width fs (at + width) xs)

-- what a reader of records asks of the record that stands at a place
pub record Stands (fs : List Field) (at : ℕ) (xs : List ℕ) : Type 0 where
  pub fit : FieldsFit fs
  pub stand : StandsAt xs at (bytes_of fs)

pub stands : (fs : List Field) (at : ℕ) (xs : List ℕ) → IsBytes xs → at + total_width fs ≤ length xs → fs ≡ fields_like fs at xs
    → Stands fs at xs
stands fs at xs fits h like =
    let fit : FieldsFit fs = subst FieldsFit (sym like) (fields_fit fs at xs fits h) in
    let bytes : bytes_of fs ≡ take (total_width fs) (drop at xs) = ap bytes_of like ∙ bytes_of-standing fs at xs fits h in
    record { fit = fit; stand = ap (λ (k : ℕ). take k (drop at xs)) (length-bytes_of fs fit) ∙ sym bytes }

-- the program header that is read
pub reads_phdr : (file : List ℕ) (at : ℕ) (result : Result Phdr Short) → IsBytes file → at + 56 ≤ length file
    → ((p : Phdr) → FieldsFit (phdr_fields p) → StandsAt file at (bytes_of (phdr_fields p)) → result ≡ Ok p) → result ≡ Ok (phdr_at at file)
reads_phdr file at result fits h only =
    let s = stands (phdr_fields (phdr_at at file)) at file fits h (simp add_assoc) in
    only (phdr_at at file) s.fit s.stand

-- the dynamic entry that is read
pub reads_dyn : (file : List ℕ) (at : ℕ) (result : Result Dyn Short) → IsBytes file → at + 16 ≤ length file
    → ((d : Dyn) → FieldsFit (dyn_fields d) → StandsAt file at (bytes_of (dyn_fields d)) → result ≡ Ok d) → result ≡ Ok (dyn_at at file)
reads_dyn file at result fits h only =
    let s = stands (dyn_fields (dyn_at at file)) at file fits h refl in
    only (dyn_at at file) s.fit s.stand

-- the header that is read
pub reads_ehdr : (file : List ℕ) (at : ℕ) (result : Result Ehdr Short) → IsBytes file → at + 64 ≤ length file
    → ((e : Ehdr) → FieldsFit (ehdr_fields e) → StandsAt file at (bytes_of (ehdr_fields e)) → result ≡ Ok e) → result ≡ Ok (ehdr_at at file)
reads_ehdr file at result fits h only =
    let s = stands (ehdr_fields (ehdr_at at file)) at file fits h (simp add_assoc) in
    only (ehdr_at at file) s.fit s.stand
