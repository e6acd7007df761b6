-- What regions hold after bytes of one of them were replaced.
use Rattle.std.proofs.Common.{◌≡◌, ℕ, zero, suc, ◌+◌, ◌-◌, ◌%◌, ◌<◌, ◌≤◌, true, false, cond, List, [], ◌∷◌, length, get_or, set, refl}
use Rattle.std.proofs.Common.{sym, ◌∙◌, ap, ap₂, arith, inl, inr, true≢false, mod-eq_of_lt}
use Rattle.std.specs.List.{AllPairs}
use Rattle.std.proofs.Math.Path.{fun_ext}
use Rattle.std.proofs.lemmas.Bool.{cases_lt, cases_Bool}
use Rattle.mt_base.specs.Memory.{Extent, is_between, is_in_extent, store_bytes}
use Rattle.mt_base.specs.Laws.Memory.{store_bytes_inside, store_bytes_below, store_bytes_above}
use Rattle.tag_mem.specs.declared.region.Region.{Region}
use Rattle.tag_mem.specs.Regions.{extent_of, extents_of, byte_in, AreApart, put_list}
use Rattle.tag_mem.proofs.Mapped.{IsAt, between_from, between_parts, byte_at_region, first_not, at_tail, apart_tail}
use Rattle.tag_mem.proofs.Bytes.{put_list_below, put_list_inside, put_list_above}

-- the extents stay where the new region has that of the old
pub extents_of-set : (regions : List Region) (i : ℕ) (r s : Region) → IsAt regions i r → extent_of s ≡ extent_of r →
    extents_of (set regions i s) ≡ extents_of regions
extents_of-set [] i r s here same = refl
extents_of-set (x ∷ rs) zero r s here same = ap (λ e. e ∷ extents_of rs) (same ∙ ap extent_of (sym here.is))
extents_of-set (x ∷ rs) (suc i) r s here same = ap (λ es. extent_of x ∷ es) (extents_of-set rs i r s (at_tail x rs i r here) same)

-- an address of that region, and any other
pub byte_in-set_there : (regions : List Region) (i : ℕ) (r s : Region) (at : ℕ) → AllPairs AreApart (extents_of regions) →
    IsAt regions i r → extent_of s ≡ extent_of r → is_in_extent (extent_of r) at ≡ true →
    byte_in (set regions i s) at ≡ get_or s.bytes.items (at - s.start) 0 % 256
byte_in-set_there [] i r s at apart here same holds = absurd (omega (arith, here.in_range))
byte_in-set_there (x ∷ rs) zero r s at apart here same holds = rw (ap (λ e. is_in_extent e at) same ∙ holds) refl
byte_in-set_there (x ∷ rs) (suc i) r s at apart here same holds =
    rw (first_not x rs i r at apart (at_tail x rs i r here) holds)
    (byte_in-set_there rs i r s at (apart_tail x rs apart) (at_tail x rs i r here) same holds)

pub byte_in-set_elsewhere : (regions : List Region) (i : ℕ) (r s : Region) (at : ℕ) → IsAt regions i r → extent_of s ≡ extent_of r →
    is_in_extent (extent_of r) at ≡ false → byte_in (set regions i s) at ≡ byte_in regions at
byte_in-set_elsewhere [] i r s at here same other = refl
byte_in-set_elsewhere (x ∷ rs) zero r s at here same other =
    rw (ap (λ e. is_in_extent e at) same ∙ other, ap (λ y. is_in_extent (extent_of y) at) here.is ∙ other) refl
byte_in-set_elsewhere (x ∷ rs) (suc i) r s at here same other =
    ap (λ b. cond (is_in_extent (extent_of x) at) (get_or x.bytes.items (at - x.start) 0 % 256) b)
    (byte_in-set_elsewhere rs i r s at (at_tail x rs i r here) same other)

-- an element of a list with a part that was put, and the byte of a store there
put_reads : (xs : List ℕ) (f : ℕ → ℕ) (start offset : ℕ) (bytes : List ℕ) (j : ℕ) → offset + length bytes ≤ length xs → j < length xs →
    ((k : ℕ) → get_or bytes k 0 < 256) → get_or xs j 0 % 256 ≡ f (start + j) →
    get_or (put_list xs offset bytes) j 0 % 256 ≡ store_bytes f (start + offset) bytes (start + j)
put_reads xs f start offset bytes j room within small was = elim (cases_lt j offset) [
  | inl below ↦
      ap (λ n. n % 256) (put_list_below xs offset bytes j room below)
      ∙ was
      ∙ sym (store_bytes_below f (start + offset) bytes (start + j) (omega (arith, below)))
  | inr from ↦ elim (cases_lt j (offset + length bytes)) [
    | inl inside ↦
        ap (λ n. get_or (put_list xs offset bytes) n 0 % 256) (let e : j ≡ offset + (j - offset) = omega (arith, from) in e)
        ∙ ap (λ n. n % 256) (put_list_inside xs offset bytes (j - offset) room (omega (arith, from, inside)))
        ∙ mod-eq_of_lt (small (j - offset))
        ∙ sym (store_bytes_inside f (start + offset) bytes (j - offset) (omega (arith, from, inside)))
        ∙ ap (store_bytes f (start + offset) bytes) (let e : start + offset + (j - offset) ≡ start + j = omega (arith, from) in e)
    | inr above ↦
        ap (λ n. n % 256) (put_list_above xs offset bytes j room above)
        ∙ was
        ∙ sym (store_bytes_above f (start + offset) bytes (start + j) (omega (arith, above)))
  ]
]

-- a store within an interval changes nothing outside it
store_outside : (f : ℕ → ℕ) (start bytes offset : ℕ) (new : List ℕ) (at : ℕ) → offset + length new ≤ bytes →
    is_between start bytes at ≡ false → store_bytes f (start + offset) new at ≡ f at
store_outside f start bytes offset new at room other = elim (cases_lt at (start + offset)) [
  | inl below ↦ store_bytes_below f (start + offset) new at below
  | inr from ↦ elim (cases_lt at (start + offset + length new)) [
    | inl inside ↦ absurd (true≢false (sym (between_from start bytes at (omega (arith, from)) (omega (arith, inside, room))) ∙ other))
    | inr above ↦ store_bytes_above f (start + offset) new at above
  ]
]

-- the bytes that were put there
pub byte_in-put : (regions : List Region) (i : ℕ) (r s : Region) (offset : ℕ) (bytes : List ℕ) → AllPairs AreApart (extents_of regions) →
    IsAt regions i r → extent_of s ≡ extent_of r → s.bytes.items ≡ put_list r.bytes.items offset bytes →
    offset + length bytes ≤ length r.bytes.items → ((k : ℕ) → get_or bytes k 0 < 256) →
    byte_in (set regions i s) ≡ store_bytes (byte_in regions) (r.start + offset) bytes
byte_in-put regions i r s offset bytes apart here same items room small =
    fun_ext (λ at. elim (cases_Bool (is_in_extent (extent_of r) at)) [
      | inl holds ↦
          byte_in-set_there regions i r s at apart here same holds
          ∙ ap₂ (λ xs b. get_or xs (at - b) 0 % 256) items (ap (λ (e : Extent). e.start) same)
          ∙ put_reads r.bytes.items (byte_in regions) r.start offset bytes (at - r.start) room (within at holds) small
          (sym (byte_at_region regions i r at apart here holds) ∙ ap (byte_in regions) (sym (back at holds)))
          ∙ ap (store_bytes (byte_in regions) (r.start + offset) bytes) (back at holds)
      | inr other ↦
          byte_in-set_elsewhere regions i r s at here same other
          ∙ sym (store_outside (byte_in regions) r.start (length r.bytes.items) offset bytes at room other)
    ])
  where
    within : (at : ℕ) → is_in_extent (extent_of r) at ≡ true → at - r.start < length r.bytes.items
    within at holds = let b = between_parts r.start (length r.bytes.items) at holds in omega (arith, b.from, b.below)

    back : (at : ℕ) → is_in_extent (extent_of r) at ≡ true → r.start + (at - r.start) ≡ at
    back at holds = let b = between_parts r.start (length r.bytes.items) at holds in omega (arith, b.from)
