-- Fields that are written one after the other over a record leave the record's bytes.
use Rattle.std.proofs.Common.{◌≡◌, ℕ, ◌+◌, ◌-◌, ◌<◌, ◌≤◌, List, [], ◌∷◌, ◌++◌, length, get_or, take, drop, sym, ap, ◌∙◌, arith}
use Rattle.std.proofs.Common.{append_assoc, length-append, length-take, length-drop, drop-drop, take_at, take_all, get_or-set_same}
use borrow.Rule.Slice.PartMut.{put_mid}
use Rattle.std.specs.Int.{byte_at}
use Rattle.std.proofs.Math.ListN.{set, length-set}
use Rattle.std.proofs.lemmas.List.{append-nil, drop_all, take_more, take-set, drop-set-lt, take-append-drop}
use Rattle.elf_base.specs.Field.{Field, number, signed, raw, width_of, field_bytes, bytes_of, total_width}
use Rattle.elf_base.specs.Laws.Lengths.{length-number, length-signed, length-raw}
use Rattle.elf_base.specs.Place.{put_at}

-- what a record holds once its fields were written from a place on
abbrev pub put_fields : ℕ → List Field → List ℕ → List ℕ
put_fields at [] out = out
put_fields at (f ∷ fs) out = put_fields (at + width_of f) fs (put_at at (field_bytes f) out)

-- the bytes that a field holds as they are have its width
abbrev pub RawFit : List Field → Type 0
RawFit [] = Unit {0}
RawFit (number width n ∷ fs) = RawFit fs
RawFit (signed z ∷ fs) = RawFit fs
RawFit (raw width bytes ∷ fs) = (length bytes ≡ width) × RawFit fs

step : (at w : ℕ) (xs rest out : List ℕ) → length xs ≡ w → at + w ≤ length out
    → take (at + w) (put_at at xs out) ++ rest ≡ take at out ++ (xs ++ rest)
unfolding put_at
step at w xs rest out sized h =
    let front : length (take at out ++ xs) ≡ at + w = omega (arith, length-append (take at out) xs, length-take at out) in
    let start : take (at + w) (put_at at xs out) ≡ take at out ++ xs =
    take_at (take at out ++ xs) (drop (at + length xs) out) (at + w) front in
    ap (λ (l : List ℕ). l ++ rest) start ∙ append_assoc (take at out) xs rest

length-put_at : (at : ℕ) (xs out : List ℕ) → at + length xs ≤ length out → length (put_at at xs out) ≡ length out
unfolding put_at
length-put_at at xs out h = omega (
  arith,
  length-append (take at out ++ xs) (drop (at + length xs) out),
  length-append (take at out) xs,
  length-take at out,
  length-drop (at + length xs) out,
)

-- one field more
put_fields-more : (at : ℕ) (f : Field) (fs : List Field) (out : List ℕ) → length (field_bytes f) ≡ width_of f
    → at + (width_of f + total_width fs) ≡ length out
    → (at + width_of f + total_width fs ≡ length (put_at at (field_bytes f) out)
    → put_fields (at + width_of f) fs (put_at at (field_bytes f) out)
    ≡ take (at + width_of f) (put_at at (field_bytes f) out) ++ bytes_of fs)
    → put_fields at (f ∷ fs) out ≡ take at out ++ bytes_of (f ∷ fs)
put_fields-more at f fs out sized h others =
    let len = length-put_at at (field_bytes f) out (omega arith) in
    others (omega arith) ∙ step at (width_of f) (field_bytes f) (bytes_of fs) out sized (omega arith)

pub put_fields-from : (fs : List Field) (at : ℕ) (out : List ℕ) → RawFit fs → at + total_width fs ≡ length out
    → put_fields at fs out ≡ take at out ++ bytes_of fs
put_fields-from [] at out fits h = sym (append-nil (take at out) ∙ take_all at out (omega arith))
put_fields-from (number width n ∷ fs) at out fits h =
    put_fields-more at (number width n) fs out (length-number width n) h
    (put_fields-from fs (at + width) (put_at at (field_bytes (number width n)) out) fits)
put_fields-from (signed z ∷ fs) at out fits h =
    put_fields-more at (signed z) fs out (length-signed z) h (put_fields-from fs (at + 8) (put_at at (field_bytes (signed z)) out) fits)
put_fields-from (raw width bytes ∷ fs) at out fits h =
    put_fields-more at (raw width bytes) fs out (length-raw width bytes fits.0) h
    (put_fields-from fs (at + width) (put_at at (field_bytes (raw width bytes)) out) fits.1)

-- all fields of a record that was as long
pub put_fields-whole : (fs : List Field) (out now : List ℕ) → RawFit fs → length out ≡ total_width fs → now ≡ put_fields 0 fs out
    → now ≡ bytes_of fs
put_fields-whole fs out now fits h e = e ∙ put_fields-from fs 0 out fits (omega arith)

-- a write to the rest of a record from a place on, of which only the first bytes change
pub put_mid-put_at : (at : ℕ) (xs out sub : List ℕ) → at + length xs ≤ length out
    → sub ≡ xs ++ drop (length xs) (take (length out - at) (drop at out)) → put_mid at (length out - at) out sub ≡ put_at at xs out
unfolding put_at
put_mid-put_at at xs out sub h e =
    let all : take (length out - at) (drop at out) ≡ drop at out =
    take_all (length out - at) (drop at out) (omega (arith, length-drop at out)) in
    let none : drop (length out - at) (drop at out) ≡ [] = drop_all (length out - at) (drop at out) (omega (arith, length-drop at out)) in
    let moved : drop (length xs) (drop at out) ≡ drop (at + length xs) out = drop-drop (length xs) at out in
    let same : sub ≡ xs ++ drop (at + length xs) out =
    e ∙ ap (λ (l : List ℕ). xs ++ drop (length xs) l) all ∙ ap (λ (l : List ℕ). xs ++ l) moved in
    ap (λ (l : List ℕ). take at out ++ (sub ++ l)) none ∙ ap (λ (l : List ℕ). take at out ++ l) (append-nil sub ∙ same)
    ∙ sym (append_assoc (take at out) xs (drop (at + length xs) out))

-- a number of one byte is that byte
one_byte : (value : ℕ) → value < 256 → field_bytes (number 1 value) ≡ value ∷ []
unfolding field_bytes
one_byte value fits =
    let low : byte_at 0 value ≡ value = omega arith in
    ap (λ (b : ℕ). b ∷ []) low

-- a byte that is set
pub set-put_at : (at value : ℕ) (out : List ℕ) → at < length out → value < 256
    → set out at value ≡ put_at at (field_bytes (number 1 value)) out
unfolding put_at
set-put_at at value out within fits =
    let longer : at < length (set out at value) = omega (arith, length-set out at value) in
    let byte : get_or (set out at value) at 0 ≡ value = get_or-set_same out at value 0 within in
    let front : take (at + 1) (set out at value) ≡ take at out ++ value ∷ [] =
    take_more (set out at value) at 0 longer ∙ ap (λ (b : ℕ). take at (set out at value) ++ b ∷ []) byte
    ∙ ap (λ (l : List ℕ). l ++ value ∷ []) (take-set out at value) in
    let back : drop (at + 1) (set out at value) ≡ drop (at + 1) out = drop-set-lt (at + 1) out at value (omega arith) in
    sym (take-append-drop (at + 1) (set out at value))
    ∙ ap (λ (l : List ℕ). l ++ drop (at + 1) (set out at value)) front ∙ ap (λ (l : List ℕ). (take at out ++ value ∷ []) ++ l) back
    ∙ ap (λ (l : List ℕ). (take at out ++ l) ++ drop (at + length l) out) (sym (one_byte value fits))
