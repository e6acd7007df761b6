-- A record that is read field by field has the bytes that stand there, and is the only one that has them.
use Rattle.std.proofs.Common.{◌≡◌, ℕ, ◌+◌, ◌*◌, ◌^◌, ◌<◌, ◌≤◌, List, [], ◌∷◌, ◌++◌, length, get_or, take, drop, refl, sym, ap, subst, ◌∙◌}
use Rattle.std.proofs.Common.{arith, inl, inr, append_assoc, length-append, length-take, length-drop, get_or-drop, get_or-take}
use Rattle.std.proofs.Common.{take-append-drop, take_at, drop_at, drop-drop}
use mir.ValLaws.{of_z_fits}
use Rattle.std.specs.Int.{w64, cast_signed, cast_unsigned}
use Rattle.std.proofs.lemmas.Bool.{cases_lt}
use Rattle.std.proofs.lemmas.List.{get_or_past, drop_all}
use Rattle.std.proofs.lemmas.Int.{of_z-to_z, to_z-of_z}
use Rattle.byteorder.specs.Endian.{little_bytes, little_number}
use Rattle.byteorder.specs.Numbers.{little_from-lt, little_number-reads_back}
use Rattle.elf_base.specs.Field.{Field, number, signed, raw, width_of, field_bytes, bytes_of, total_width, FieldFits, FieldsFit, StandsAt}
use Rattle.elf_base.specs.Place.{Taken, number_at}
use Rattle.elf_base.specs.Laws.Lengths.{IsBytes, little_bytes-little_number, length-field_bytes, length-bytes_of}

-- the field of the same kind and width that some bytes begin with
abbrev pub read_like : Field → ℕ → List ℕ → Field
read_like (number width _) at xs = number width (number_at width at xs)
read_like (signed _) at xs = signed (cast_signed w64 (number_at 8 at xs))
read_like (raw width _) at xs = raw width (take width (drop at xs))

-- the fields of the same kinds and widths that stand from a place on
abbrev pub fields_like : List Field → ℕ → List ℕ → List Field
fields_like [] at xs = []
fields_like (f ∷ fs) at xs = read_like f at xs ∷ fields_like fs (at + width_of f) xs

pub IsBytes-drop : (n : ℕ) (xs : List ℕ) → IsBytes xs → IsBytes (drop n xs)
IsBytes-drop n xs h i = rw get_or-drop (h (n + i))

pub IsBytes-take : (n : ℕ) (xs : List ℕ) → IsBytes xs → IsBytes (take n xs)
IsBytes-take n xs h i =
    elim (cases_lt i n) [
      | inl lt ↦ rw (get_or-take n xs i 0 lt) (h i)
      | inr le ↦ rw (get_or_past (take n xs) i 0 (omega (arith, length-take n xs))) (omega arith)
    ]

-- a field that is read has the bytes that it was read from
pub field_bytes-read_like : (f : Field) (at : ℕ) (xs : List ℕ) → IsBytes xs → at + width_of f ≤ length xs
    → field_bytes (read_like f at xs) ≡ take (width_of f) (drop at xs)
unfolding field_bytes number_at
field_bytes-read_like (number width n) at xs fits h =
    little_bytes-little_number width (drop at xs) (IsBytes-drop at xs fits) (omega (arith, length-drop at xs))
field_bytes-read_like (signed z) at xs fits h =
    ap (little_bytes 8) (of_z-to_z w64 (little_number 8 (drop at xs)) (little_from-lt 0 8 (drop at xs) (IsBytes-drop at xs fits)))
    ∙ little_bytes-little_number 8 (drop at xs) (IsBytes-drop at xs fits) (omega (arith, length-drop at xs))
field_bytes-read_like (raw width bytes) at xs fits h = refl

pub bytes_of-fields_like : (fs : List Field) (at : ℕ) (xs : List ℕ) → IsBytes xs → at + total_width fs ≡ length xs
    → bytes_of (fields_like fs at xs) ≡ drop at xs
bytes_of-fields_like [] at xs fits h = sym (drop_all at xs (omega arith))
bytes_of-fields_like (f ∷ fs) at xs fits h =
    let first = field_bytes-read_like f at xs fits (omega arith) in
    let others = bytes_of-fields_like fs (at + width_of f) xs fits (omega arith) in
    let rest : drop (at + width_of f) xs ≡ drop (width_of f) (drop at xs) = sym (drop-drop (width_of f) at xs) in
    rw (first, others, rest) (take-append-drop (width_of f) (drop at xs))

-- a number is read again from its bytes
pub number_at-little_bytes : (width at n : ℕ) (xs rest : List ℕ) → n < 256 ^ width → drop at xs ≡ little_bytes width n ++ rest
    → number_at width at xs ≡ n
unfolding number_at
number_at-little_bytes width at n xs rest fits here = ap (little_number width) here ∙ little_number-reads_back width n rest fits

-- a field is read again from its bytes
pub read_like-field_bytes : (f : Field) (at : ℕ) (xs rest : List ℕ) → FieldFits f → drop at xs ≡ field_bytes f ++ rest
    → read_like f at xs ≡ f
unfolding field_bytes
read_like-field_bytes (number width n) at xs rest fits here = ap (number width) (number_at-little_bytes width at n xs rest fits here)
read_like-field_bytes (signed z) at xs rest fits here =
    ap (λ (n : ℕ). signed (cast_signed w64 n)) (number_at-little_bytes 8 at (cast_unsigned w64 z) xs rest
    (of_z_fits w64 z fits).fits here) ∙ ap signed (to_z-of_z w64 z fits)
read_like-field_bytes (raw width bytes) at xs rest fits here = ap (raw width) (ap (take width) here ∙ take_at bytes rest width fits)

pub fields_like-bytes_of : (fs : List Field) (at : ℕ) (front : List ℕ) → FieldsFit fs → length front ≡ at
    → fields_like fs at (front ++ bytes_of fs) ≡ fs
fields_like-bytes_of [] at front fits h = refl
fields_like-bytes_of (f ∷ fs) at front fits h =
    let here : drop at (front ++ bytes_of (f ∷ fs)) ≡ field_bytes f ++ bytes_of fs = drop_at front (bytes_of (f ∷ fs)) at h in
    let first : read_like f at (front ++ bytes_of (f ∷ fs)) ≡ f =
    read_like-field_bytes f at (front ++ bytes_of (f ∷ fs)) (bytes_of fs) fits.0 here in
    let longer : length (front ++ field_bytes f) ≡ at + width_of f =
    omega (arith, length-append front (field_bytes f), length-field_bytes f fits.0) in
    let others : fields_like fs (at + width_of f) (front ++ bytes_of (f ∷ fs)) ≡ fs =
    ap (fields_like fs (at + width_of f)) (sym (append_assoc front (field_bytes f) (bytes_of fs)))
    ∙ fields_like-bytes_of fs (at + width_of f) (front ++ field_bytes f) fits.1 longer in
    ap (λ (g : Field). g ∷ fields_like fs (at + width_of f) (front ++ bytes_of (f ∷ fs))) first ∙ ap (λ (gs : List Field). f ∷ gs) others

-- the record that is read stands there
pub is_found : (file : List ℕ) (at n : ℕ) (part : List ℕ) (fs : List Field) → IsBytes file → Taken file at n part → total_width fs ≡ n
    → fs ≡ fields_like fs 0 part → StandsAt file at (bytes_of fs)
is_found file at n part fs fits t width like =
    let part_fits : IsBytes part = subst IsBytes (sym t.part_is) (IsBytes-take n (drop at file) (IsBytes-drop at file fits)) in
    let len = t.len in
    let same : bytes_of fs ≡ part = ap bytes_of like ∙ bytes_of-fields_like fs 0 part part_fits (omega arith) in
    ap (λ (k : ℕ). take k (drop at file)) (ap length same ∙ len) ∙ sym t.part_is ∙ sym same

-- a record that stands there is the one that is read
pub is_only : (file : List ℕ) (at n : ℕ) (part : List ℕ) (gs fs : List Field) → Taken file at n part → total_width gs ≡ n → FieldsFit gs
    → StandsAt file at (bytes_of gs) → fs ≡ fields_like gs 0 part → fs ≡ gs
is_only file at n part gs fs t width fits stands like =
    let len : length (bytes_of gs) ≡ n = length-bytes_of gs fits ∙ width in
    let same : part ≡ bytes_of gs = t.part_is ∙ ap (λ (k : ℕ). take k (drop at file)) (sym len) ∙ stands in
    like ∙ ap (fields_like gs 0) same ∙ fields_like-bytes_of gs 0 [] fits refl

-- no record stands where the bytes end before it does
pub is_within : (file : List ℕ) (at n : ℕ) (gs : List Field) → total_width gs ≡ n → FieldsFit gs → StandsAt file at (bytes_of gs) → 0 < n
    → length file < at + n → ⊥
is_within file at n gs width fits stands some short =
    let len : length (bytes_of gs) ≡ n = length-bytes_of gs fits ∙ width in
    omega (arith, ap length stands, length-take (length (bytes_of gs)) (drop at file), length-drop at file)

-- a signed number that was read and kept again
pub cast_signed-twice : (n : ℕ) → n < 2 ^ 64 → cast_signed w64 (cast_unsigned w64 (cast_signed w64 n)) ≡ cast_signed w64 n
cast_signed-twice n h = ap (cast_signed w64) (of_z-to_z w64 n h)

-- a number of one byte is that byte
pub byte_number : (at : ℕ) (xs : List ℕ) → number_at 1 at xs ≡ get_or xs at 0
unfolding number_at
byte_number at xs =
    let same : get_or (drop at xs) 0 0 + 256 * 0 ≡ get_or (drop at xs) 0 0 = omega arith in
    let place : at + 0 ≡ at = omega arith in
    same ∙ get_or-drop at xs 0 0 ∙ ap (λ (k : ℕ). get_or xs k 0) place
