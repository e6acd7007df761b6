-- What shows that regions are well placed, one after another, what is known of an address where they are, and that their
-- bytes and tags are in range.
use Rattle.std.specs.Prelude.{◌≡◌, ℕ, zero, suc, ◌+◌, ◌≤◌, ◌*◌, ◌/◌, ◌%◌, ◌^◌, ◌<◌, List, [], ◌∷◌, true, false, refl}
use Rattle.std.proofs.Common.{true≢false, sym, arith, inl, inr}
use Rattle.std.proofs.lemmas.Bool.{cases_Bool, or_right}
use Rattle.std.specs.Global.{Vec}
use Rattle.std.specs.List.{All, AllPairs}
use Rattle.std.proofs.lemmas.Bool.Decides.{nat_tests}
use Rattle.std.proofs.lemmas.List.Elements.{All-nil, All-cons, All-tail}
use Rattle.mt_base.specs.Granules.{granule_of}
use Rattle.mt_base.specs.Memory.{Span, Extent, is_between, is_in_extent, is_in_span, is_mapped}
use Rattle.tag_mem.specs.declared.region.Region.{Region}
use Rattle.tag_mem.specs.Regions.{extent_of, byte_in, tag_in, IsWhole, AreApart, IsApartFrom, IsWellPlaced}

pub byte_in-lt : (regions : List Region) (at : ℕ) → byte_in regions at < 256
byte_in-lt [] at = omega arith
byte_in-lt (r ∷ rs) at = elim (cases_Bool (is_in_extent (extent_of r) at)) [
  | inl holds ↦ rw holds (omega arith)
  | inr other ↦ rw other (byte_in-lt rs at)
]

pub tag_in-lt : (regions : List Extent) (tags : List (Vec ℕ)) (granule : ℕ) → tag_in regions tags granule < 16
tag_in-lt [] tags granule = omega arith
tag_in-lt (e ∷ es) [] granule = omega arith
tag_in-lt (e ∷ es) (t ∷ ts) granule = elim (cases_Bool (is_in_extent e (granule * 16))) [
  | inl holds ↦ rw holds (omega arith)
  | inr other ↦ rw other (tag_in-lt es ts granule)
]

-- ---- where regions may lie

-- an interval that ends before another starts shares no address with it
intervals_apart : (a m b n at : ℕ) → a + m ≤ b → is_between a m at ≡ true → is_between b n at ≡ true → ⊥
intervals_apart a m b n at below first second = grind (arith, nat_tests)

pub apart_below : (r s : Extent) → r.start + r.bytes ≤ s.start → AreApart r s
apart_below r s below at first second = intervals_apart r.start r.bytes s.start s.bytes at below first second

pub apart_above : (r s : Extent) → s.start + s.bytes ≤ r.start → AreApart r s
apart_above r s below at first second = intervals_apart s.start s.bytes r.start r.bytes at below second first

pub guard_below : (guard : Span) (r : Extent) → guard.start + guard.bytes ≤ r.start → IsApartFrom guard r
guard_below guard r below at first second = intervals_apart guard.start guard.bytes r.start r.bytes at below first second

pub guard_above : (guard : Span) (r : Extent) → r.start + r.bytes ≤ guard.start → IsApartFrom guard r
guard_above guard r below at first second = intervals_apart r.start r.bytes guard.start guard.bytes at below second first

-- no region, and one more
pub no_regions : (guard : Span) → guard.start % 16 ≡ 0 → guard.bytes % 16 ≡ 0 → IsWellPlaced [] guard
no_regions guard start bytes = record {
  whole = All-nil IsWhole;
  guard_start_whole = start;
  guard_bytes_whole = bytes;
  apart = λ i j d h below. absurd (omega (arith, below));
  guard_apart = All-nil (IsApartFrom guard);
}

pub one_more : (guard : Span) (r : Extent) (rs : List Extent) → IsWhole r → IsApartFrom guard r → All (AreApart r) rs →
    IsWellPlaced rs guard → IsWellPlaced (r ∷ rs) guard
one_more guard r rs whole guarded apart placed = record {
  whole = All-cons IsWhole r rs whole placed.whole;
  guard_start_whole = placed.guard_start_whole;
  guard_bytes_whole = placed.guard_bytes_whole;
  apart = pairs;
  guard_apart = All-cons (IsApartFrom guard) r rs guarded placed.guard_apart;
}
  where
    pairs : AllPairs AreApart (r ∷ rs)
    pairs zero zero d h below = absurd (omega (arith, h))
    pairs zero (suc j) d h below = apart j d (omega (arith, below))
    pairs (suc i) zero d h below = absurd (omega (arith, h))
    pairs (suc i) (suc j) d h below = placed.apart i j d (omega (arith, h)) (omega (arith, below))

-- ---- what is known of an address where regions are well placed

apart_unmapped : (regions : List Extent) (guard : Span) (at : ℕ) → All (IsApartFrom guard) regions → is_in_span guard at ≡ true →
    is_mapped regions at ≡ false
apart_unmapped [] guard at apart inside = refl
apart_unmapped (r ∷ rs) guard at apart inside = elim (cases_Bool (is_in_extent r at)) [
  | inl holds ↦ absurd (apart 0 r (omega arith) at inside holds)
  | inr other ↦ rw other (apart_unmapped rs guard at (All-tail (IsApartFrom guard) r rs apart) inside)
]

-- no region holds an address of the guard
pub guard_unmapped : (regions : List Extent) (guard : Span) (at : ℕ) → IsWellPlaced regions guard → is_in_span guard at ≡ true →
    is_mapped regions at ≡ false
guard_unmapped regions guard at placed inside = apart_unmapped regions guard at placed.guard_apart inside

whole_below : (regions : List Extent) (at : ℕ) → All IsWhole regions → is_mapped regions at ≡ true → at < 2 ^ 64
whole_below [] at whole mapped = absurd (true≢false (sym mapped))
whole_below (r ∷ rs) at whole mapped = elim (cases_Bool (is_in_extent r at)) [
  | inl holds ↦ let fits = (whole 0 r (omega arith)).within in grind (arith, nat_tests)
  | inr other ↦ whole_below rs at (All-tail IsWhole r rs whole) (rw other at mapped)
]

-- an address that one holds has 64 bits
pub mapped_below : (regions : List Extent) (guard : Span) (at : ℕ) → IsWellPlaced regions guard → is_mapped regions at ≡ true → at < 2 ^ 64
mapped_below regions guard at placed mapped = whole_below regions at placed.whole mapped

whole_interval : (start bytes at b : ℕ) → start % 16 ≡ 0 → bytes % 16 ≡ 0 → is_between start bytes at ≡ true → at / 16 * 16 ≤ b →
    b < at / 16 * 16 + 16 → is_between start bytes b ≡ true
whole_interval start bytes at b start_whole bytes_whole holds from below = grind (arith, nat_tests)

granule_of_extent : (r : Extent) (at k : ℕ) → IsWhole r → k < 16 → is_in_extent r at ≡ true →
    is_in_extent r (granule_of at * 16 + k) ≡ true
granule_of_extent r at k whole below holds =
    whole_interval r.start r.bytes at (at / 16 * 16 + k) whole.start_whole whole.bytes_whole holds (omega arith) (omega (arith, below))

whole_granule : (regions : List Extent) (at k : ℕ) → All IsWhole regions → k < 16 → is_mapped regions at ≡ true →
    is_mapped regions (granule_of at * 16 + k) ≡ true
whole_granule [] at k whole below mapped = absurd (true≢false (sym mapped))
whole_granule (r ∷ rs) at k whole below mapped = elim (cases_Bool (is_in_extent r at)) [
  | inl holds ↦ rw (granule_of_extent r at k (whole 0 r (omega arith)) below holds) refl
  | inr other ↦ or_right (is_in_extent r (granule_of at * 16 + k)) (is_mapped rs (granule_of at * 16 + k))
      (whole_granule rs at k (All-tail IsWhole r rs whole) below (rw other at mapped))
]

-- with an address they hold each of the 16 of its granule
pub granule_mapped : (regions : List Extent) (guard : Span) (at k : ℕ) → IsWellPlaced regions guard → k < 16 →
    is_mapped regions at ≡ true → is_mapped regions (granule_of at * 16 + k) ≡ true
granule_mapped regions guard at k placed below mapped = whole_granule regions at k placed.whole below mapped
