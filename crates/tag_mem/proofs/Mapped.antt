-- Which addresses regions hold, and what one region that holds an address says of it.
use Rattle.std.proofs.Common.{◌≡◌, ℕ, zero, suc, ◌+◌, ◌-◌, ◌%◌, ◌^◌, ◌<◌, ◌≤◌, Bool, true, false, ◌&&◌, ◌||◌, List, [], ◌∷◌, length}
use Rattle.std.proofs.Common.{get_or, refl, ◌∙◌, ap, arith, inl, inr}
use Rattle.std.specs.List.{All, AllPairs, list_any}
use Rattle.std.proofs.lemmas.Bool.{cases_Bool, and_left, or_from}
use Rattle.std.proofs.lemmas.Bool.Decides.{nat_tests}
use Rattle.std.proofs.lemmas.List.Folds.{list_any_none, list_any_at}
use Rattle.mt_base.specs.Memory.{Extent, is_between, is_in_extent, is_mapped}
use Rattle.tag_mem.specs.declared.region.Region.{Region}
use Rattle.tag_mem.specs.Regions.{extent_of, extents_of, byte_in, IsWhole, AreApart}

-- ---- intervals

pub between_from : (start bytes at : ℕ) → start ≤ at → at < start + bytes → is_between start bytes at ≡ true
between_from start bytes at h k = grind (arith, nat_tests)

pub between_below : (start bytes at : ℕ) → at < start → is_between start bytes at ≡ false
between_below start bytes at h = grind (arith, nat_tests)

pub between_above : (start bytes at : ℕ) → start + bytes ≤ at → is_between start bytes at ≡ false
between_above start bytes at h = grind (arith, nat_tests)

pub record IsBetween (start bytes at : ℕ) : Type 0 where
  pub from : start ≤ at
  pub below : at < start + bytes

pub between_parts : (start bytes at : ℕ) → is_between start bytes at ≡ true → IsBetween start bytes at
between_parts start bytes at h = record { from = grind (arith, nat_tests); below = grind (arith, nat_tests) }

-- ---- the regions of a list

-- no region holds the address
pub none_holds : (regions : List Region) (at : ℕ) →
    ((k : ℕ) (d : Region) → k < length regions → is_in_extent (extent_of (get_or regions k d)) at ≡ false) →
    is_mapped (extents_of regions) at ≡ false
none_holds [] at none = refl
none_holds (r ∷ rs) at none =
    or_from (is_in_extent (extent_of r) at) (is_mapped (extents_of rs) at) (none 0 r (omega arith))
    (none_holds rs at (λ k d h. none (suc k) d (omega (arith, h))))

-- no region holds a number that is no address
pub past_addresses : (regions : List Extent) (at : ℕ) → All IsWhole regions → 2 ^ 64 ≤ at → is_mapped regions at ≡ false
past_addresses regions at whole past =
    list_any_none (λ r. is_in_extent r at) regions
    (λ k d h. let within = (whole k d h).within in between_above _ _ at (omega (arith, within, past)))

-- ---- one region that holds an address

pub get_or_extents : (regions : List Region) (i : ℕ) (r : Region) →
    get_or (extents_of regions) i (extent_of r) ≡ extent_of (get_or regions i r)
get_or_extents [] i r = refl
get_or_extents (x ∷ rs) zero r = refl
get_or_extents (x ∷ rs) (suc i) r = get_or_extents rs i r

pub length_extents : (regions : List Region) → length (extents_of regions) ≡ length regions
length_extents [] = refl
length_extents (x ∷ rs) = ap suc (length_extents rs)

-- the regions behind the first are apart too
pub apart_tail : (x : Region) (rs : List Region) → AllPairs AreApart (extents_of (x ∷ rs)) → AllPairs AreApart (extents_of rs)
apart_tail x rs apart i j d h below = apart (suc i) (suc j) d (omega (arith, h)) (omega (arith, below))

-- the region at that place
pub record IsAt (regions : List Region) (i : ℕ) (r : Region) : Type 0 where
  pub in_range : i < length regions
  pub is : get_or regions i r ≡ r

pub at_tail : (x : Region) (rs : List Region) (i : ℕ) (r : Region) → IsAt (x ∷ rs) (suc i) r → IsAt rs i r
at_tail x rs i r here = record { in_range = omega (arith, here.in_range); is = here.is }

-- the first region does not hold what a later one does, nor a later one what the first does
pub first_not : (x : Region) (rs : List Region) (i : ℕ) (r : Region) (at : ℕ) → AllPairs AreApart (extents_of (x ∷ rs)) → IsAt rs i r →
    is_in_extent (extent_of r) at ≡ true → is_in_extent (extent_of x) at ≡ false
first_not x rs i r at apart here holds = elim (cases_Bool (is_in_extent (extent_of x) at)) [
  | inl both ↦
      absurd (apart 0 (suc i) (extent_of r) (omega arith) (omega (arith, here.in_range, length_extents rs)) at both
      (ap (λ e. is_in_extent e at) (get_or_extents rs i r ∙ ap extent_of here.is) ∙ holds))
  | inr other ↦ other
]

later_not : (x : Region) (rs : List Region) (at : ℕ) (q : Extent → Bool) → AllPairs AreApart (extents_of (x ∷ rs)) →
    is_in_extent (extent_of x) at ≡ true → list_any (λ e. is_in_extent e at && q e) (extents_of rs) ≡ false
later_not x rs at q apart holds = list_any_none (λ e. is_in_extent e at && q e) (extents_of rs) each
  where
    each : All (λ e. (is_in_extent e at && q e) ≡ false) (extents_of rs)
    each k d below = elim (cases_Bool (is_in_extent (get_or (extents_of rs) k d) at)) [
      | inl both ↦ absurd (apart 0 (suc k) d (omega arith) (omega (arith, below)) at holds both)
      | inr other ↦ and_left (is_in_extent (get_or (extents_of rs) k d) at) (q (get_or (extents_of rs) k d)) other
    ]

-- what it holds there
pub byte_at_region : (regions : List Region) (i : ℕ) (r : Region) (at : ℕ) → AllPairs AreApart (extents_of regions) → IsAt regions i r →
    is_in_extent (extent_of r) at ≡ true → byte_in regions at ≡ get_or r.bytes.items (at - r.start) 0 % 256
byte_at_region [] i r at apart here holds = absurd (omega (arith, here.in_range))
byte_at_region (x ∷ rs) zero r at apart here holds =
    rw (ap (λ y. is_in_extent (extent_of y) at) here.is ∙ holds) (ap (λ y. get_or y.bytes.items (at - y.start) 0 % 256) here.is)
byte_at_region (x ∷ rs) (suc i) r at apart here holds =
    rw (first_not x rs i r at apart (at_tail x rs i r here) holds)
    (byte_at_region rs i r at (apart_tail x rs apart) (at_tail x rs i r here) holds)

or_false : (b : Bool) → (b || false) ≡ b
or_false true = refl
or_false false = refl

-- what it says of the address
pub any_at_region : (regions : List Region) (i : ℕ) (r : Region) (at : ℕ) (q : Extent → Bool) → AllPairs AreApart (extents_of regions) →
    IsAt regions i r → is_in_extent (extent_of r) at ≡ true → list_any (λ e. is_in_extent e at && q e) (extents_of regions)
    ≡ q (extent_of r)
any_at_region [] i r at q apart here holds = absurd (omega (arith, here.in_range))
any_at_region (x ∷ rs) zero r at q apart here holds =
    rw (
      ap (λ y. is_in_extent (extent_of y) at) here.is
          ∙ holds,
      later_not x rs at q apart (ap (λ y. is_in_extent (extent_of y) at) here.is ∙ holds),
    )
    (or_false (q (extent_of x)) ∙ ap (λ y. q (extent_of y)) here.is)
any_at_region (x ∷ rs) (suc i) r at q apart here holds =
    rw (first_not x rs i r at apart (at_tail x rs i r here) holds)
    (any_at_region rs i r at q (apart_tail x rs apart) (at_tail x rs i r here) holds)

pub mapped_at_region : (regions : List Region) (i : ℕ) (r : Region) (at : ℕ) → IsAt regions i r → is_in_extent (extent_of r) at ≡ true →
    is_mapped (extents_of regions) at ≡ true
mapped_at_region regions i r at here holds =
    list_any_at (λ e. is_in_extent e at) (extents_of regions) i (extent_of r) (omega (arith, here.in_range, length_extents regions))
    (ap (λ e. is_in_extent e at) (get_or_extents regions i r ∙ ap extent_of here.is) ∙ holds)
