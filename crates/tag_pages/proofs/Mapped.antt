-- Which addresses regions hold, and what one region that holds an address says of it.
use Rattle.std.proofs.Common.{◌≡◌, ℕ, zero, suc, ◌+◌, ◌-◌, ◌^◌, ◌<◌, ◌≤◌, Bool, true, false, ◌&&◌, ◌||◌, List, [], ◌∷◌, length}
use Rattle.std.proofs.Common.{get_or, refl, sym, ◌∙◌, ap, subst, arith, inl, inr, true≢false}
use Rattle.std.specs.List.{All, AllPairs, list_any}
use Rattle.std.proofs.lemmas.Bool.{cases_Bool, and_left, or_from}
use Rattle.std.proofs.lemmas.Bool.Decides.{nat_tests}
use Rattle.std.proofs.lemmas.List.Folds.{list_any_none, list_any_at}
use Rattle.mt_base.specs.Memory.{Extent, is_between, is_in_extent, is_mapped}
use Rattle.tag_mem.specs.Regions.{IsWhole, AreApart}
use Rattle.tag_pages.specs.declared.bounds.Bounds.{Bounds}
use Rattle.tag_pages.specs.Parts.{extent, extents}

-- ---- intervals

pub between_from : (start bytes at : ℕ) → start ≤ at → at < start + bytes → is_between start bytes at ≡ true
between_from start bytes at h k = grind (arith, nat_tests)

pub between_below : (start bytes at : ℕ) → at < start → is_between start bytes at ≡ false
between_below start bytes at h = grind (arith, nat_tests)

pub between_above : (start bytes at : ℕ) → start + bytes ≤ at → is_between start bytes at ≡ false
between_above start bytes at h = grind (arith, nat_tests)

pub record IsBetween (start bytes at : ℕ) : Type 0 where
  pub from : start ≤ at
  pub below : at < start + bytes

pub between_parts : (start bytes at : ℕ) → is_between start bytes at ≡ true → IsBetween start bytes at
between_parts start bytes at h = record { from = grind (arith, nat_tests); below = grind (arith, nat_tests) }

-- ---- the regions of a list

pub get_or_extents : (bounds : List Bounds) (i : ℕ) (b : Bounds) → get_or (extents bounds) i (extent b) ≡ extent (get_or bounds i b)
get_or_extents [] i b = refl
get_or_extents (x ∷ bs) zero b = refl
get_or_extents (x ∷ bs) (suc i) b = get_or_extents bs i b

pub length_extents : (bounds : List Bounds) → length (extents bounds) ≡ length bounds
length_extents [] = refl
length_extents (x ∷ bs) = ap suc (length_extents bs)

-- no region holds the address
pub none_holds : (bounds : List Bounds) (at : ℕ) →
    ((k : ℕ) (d : Bounds) → k < length bounds → is_in_extent (extent (get_or bounds k d)) at ≡ false) → is_mapped (extents bounds) at
    ≡ false
none_holds [] at none = refl
none_holds (b ∷ bs) at none =
    or_from (is_in_extent (extent b) at) (is_mapped (extents bs) at) (none 0 b (omega arith))
    (none_holds bs at (λ k d h. none (suc k) d (omega (arith, h))))

-- no region holds a number that is no address
pub past_addresses : (regions : List Extent) (at : ℕ) → All IsWhole regions → 2 ^ 64 ≤ at → is_mapped regions at ≡ false
past_addresses regions at whole past =
    list_any_none (λ r. is_in_extent r at) regions
    (λ k d h. let within = (whole k d h).within in between_above _ _ at (omega (arith, within, past)))

-- ---- one region that holds an address

-- the region at that place
pub record IsAt (regions : List Extent) (i : ℕ) (e : Extent) : Type 0 where
  pub in_range : i < length regions
  pub is : get_or regions i e ≡ e

at_tail : (x : Extent) (es : List Extent) (i : ℕ) (e : Extent) → IsAt (x ∷ es) (suc i) e → IsAt es i e
at_tail x es i e here = record { in_range = omega (arith, here.in_range); is = here.is }

apart_tail : (x : Extent) (es : List Extent) → AllPairs AreApart (x ∷ es) → AllPairs AreApart es
apart_tail x es apart i j d h below = apart (suc i) (suc j) d (omega (arith, h)) (omega (arith, below))

first_not : (x : Extent) (es : List Extent) (i : ℕ) (e : Extent) (at : ℕ) → AllPairs AreApart (x ∷ es) → IsAt es i e →
    is_in_extent e at ≡ true → is_in_extent x at ≡ false
first_not x es i e at apart here holds = elim (cases_Bool (is_in_extent x at)) [
  | inl both ↦ absurd (apart 0 (suc i) e (omega arith) (omega (arith, here.in_range)) at both (ap (λ y. is_in_extent y at) here.is ∙ holds))
  | inr other ↦ other
]

later_not : (x : Extent) (es : List Extent) (at : ℕ) (q : Extent → Bool) → AllPairs AreApart (x ∷ es) → is_in_extent x at ≡ true →
    list_any (λ e. is_in_extent e at && q e) es ≡ false
later_not x es at q apart holds = list_any_none (λ e. is_in_extent e at && q e) es each
  where
    each : All (λ e. (is_in_extent e at && q e) ≡ false) es
    each k d below = elim (cases_Bool (is_in_extent (get_or es k d) at)) [
      | inl both ↦ absurd (apart 0 (suc k) d (omega arith) (omega (arith, below)) at holds both)
      | inr other ↦ and_left (is_in_extent (get_or es k d) at) (q (get_or es k d)) other
    ]

or_false : (b : Bool) → (b || false) ≡ b
or_false true = refl
or_false false = refl

-- what it says of the address
pub any_at_region : (es : List Extent) (i : ℕ) (e : Extent) (at : ℕ) (q : Extent → Bool) → AllPairs AreApart es → IsAt es i e →
    is_in_extent e at ≡ true → list_any (λ x. is_in_extent x at && q x) es ≡ q e
any_at_region [] i e at q apart here holds = absurd (omega (arith, here.in_range))
any_at_region (x ∷ es) zero e at q apart here holds =
    rw (ap (λ y. is_in_extent y at) here.is ∙ holds, later_not x es at q apart (ap (λ y. is_in_extent y at) here.is ∙ holds))
    (or_false (q x) ∙ ap q here.is)
any_at_region (x ∷ es) (suc i) e at q apart here holds =
    rw (first_not x es i e at apart (at_tail x es i e here) holds)
    (any_at_region es i e at q (apart_tail x es apart) (at_tail x es i e here) holds)

pub mapped_at_region : (es : List Extent) (i : ℕ) (e : Extent) (at : ℕ) → IsAt es i e → is_in_extent e at ≡ true →
    is_mapped es at ≡ true
mapped_at_region es i e at here holds =
    list_any_at (λ x. is_in_extent x at) es i e here.in_range (ap (λ x. is_in_extent x at) here.is ∙ holds)

-- ---- the region at a place of a list of bounds

get_or_any : {X : Type 0} (xs : List X) (i : ℕ) (d e : X) → i < length xs → get_or xs i d ≡ get_or xs i e
get_or_any [] i d e h = absurd (omega (arith, h))
get_or_any (x ∷ xs) zero d e h = refl
get_or_any (x ∷ xs) (suc i) d e h = get_or_any xs i d e (omega (arith, h))

pub bounds_at : (bounds : List Bounds) (i : ℕ) (d : Bounds) → i < length bounds → IsAt (extents bounds) i (extent (get_or bounds i d))
bounds_at bounds i d below = record {
  in_range = omega (arith, below, length_extents bounds);
  is = get_or_extents bounds i (get_or bounds i d) ∙ ap extent (get_or_any bounds i (get_or bounds i d) d below);
}

pub whole_at : (es : List Extent) (i : ℕ) (e : Extent) → All IsWhole es → IsAt es i e → IsWhole e
whole_at es i e whole here = subst IsWhole here.is (whole i e here.in_range)

-- ---- the region that holds an address

pub record HasHolder (bounds : List Bounds) (at : ℕ) : Type 0 where
  pub place : ℕ
  pub in_range : place < length bounds
  pub holds : (d : Bounds) → is_in_extent (extent (get_or bounds place d)) at ≡ true

pub holder_of : (bounds : List Bounds) (at : ℕ) → is_mapped (extents bounds) at ≡ true → HasHolder bounds at
holder_of [] at mapped = absurd (true≢false (sym mapped))
holder_of (b ∷ bs) at mapped = elim (cases_Bool (is_in_extent (extent b) at)) [
  | inl holds ↦ record { place = 0; in_range = omega arith; holds = λ d. holds }
  | inr other ↦ let rest = holder_of bs at (rw other at mapped) in
      record { place = suc rest.place; in_range = omega (arith, rest.in_range); holds = rest.holds }
]
