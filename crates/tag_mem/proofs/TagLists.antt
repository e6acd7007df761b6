-- The tags of regions that stand in a list for each of them.
use Rattle.std.proofs.Common.{◌≡◌, ◌≢◌, ℕ, zero, suc, ◌-◌, ◌*◌, ◌/◌, ◌%◌, ◌<◌, true, false, cond, List, [], ◌∷◌, length, get_or, set}
use Rattle.std.proofs.Common.{replicate, refl, sym, ◌∙◌, ap, ap₂, arith, inl, inr, mod-eq_of_lt}
use Rattle.std.specs.Global.{Vec}
use Rattle.std.specs.List.{All, AllPairs}
use Rattle.std.proofs.Math.Path.{fun_ext}
use Rattle.std.proofs.lemmas.Bool.{cases_Bool, cases_eq}
use Rattle.std.proofs.lemmas.List.{length-replicate, get_or-set_same, get_or-set_other}
use Rattle.mt_base.specs.Granules.{granule_of}
use Rattle.mt_base.specs.Memory.{Extent, is_in_extent, store_tag}
use Rattle.mt_base.specs.Laws.Memory.{store_tag_same, store_tag_other}
use Rattle.tag_mem.specs.declared.region.Region.{Region}
use Rattle.tag_mem.specs.Regions.{extent_of, extents_of, tag_in, AreApart, IsWhole, HaveTags}
use Rattle.tag_mem.proofs.Mapped.{IsAt, between_from, between_parts, get_or_extents, length_extents}
use Rattle.tag_mem.proofs.Judged.{get_or_any}

-- the extent at that place, with its tags
pub record IsTaggedAt (es : List Extent) (ts : List (Vec ℕ)) (i : ℕ) (e : Extent) (t : Vec ℕ) : Type 0 where
  pub in_range : i < length es
  pub count : length ts ≡ length es
  pub extent : get_or es i e ≡ e
  pub tags : get_or ts i t ≡ t

tail : (x : Extent) (es : List Extent) (y : Vec ℕ) (ts : List (Vec ℕ)) (i : ℕ) (e : Extent) (t : Vec ℕ) →
    IsTaggedAt (x ∷ es) (y ∷ ts) (suc i) e t → IsTaggedAt es ts i e t
tail x es y ts i e t here =
    record { in_range = omega (arith, here.in_range); count = omega (arith, here.count); extent = here.extent; tags = here.tags }

extents_tail : (x : Extent) (es : List Extent) → AllPairs AreApart (x ∷ es) → AllPairs AreApart es
extents_tail x es apart i j d h below = apart (suc i) (suc j) d (omega (arith, h)) (omega (arith, below))

first_extent_not : (x : Extent) (es : List Extent) (i : ℕ) (e : Extent) (at : ℕ) → AllPairs AreApart (x ∷ es) → i < length es →
    get_or es i e ≡ e → is_in_extent e at ≡ true → is_in_extent x at ≡ false
first_extent_not x es i e at apart below is holds = elim (cases_Bool (is_in_extent x at)) [
  | inl both ↦ absurd (apart 0 (suc i) e (omega arith) (omega (arith, below)) at both (ap (λ y. is_in_extent y at) is ∙ holds))
  | inr other ↦ other
]

-- the tag of a granule of that extent
pub tag_in_there : (es : List Extent) (ts : List (Vec ℕ)) (i : ℕ) (e : Extent) (t : Vec ℕ) (granule : ℕ) → AllPairs AreApart es →
    IsTaggedAt es ts i e t → is_in_extent e (granule * 16) ≡ true → tag_in es ts granule ≡ get_or t.items (granule - e.start / 16) 0 % 16
tag_in_there [] ts i e t granule apart here holds = absurd (omega (arith, here.in_range))
tag_in_there (x ∷ es) [] i e t granule apart here holds = absurd (omega (arith, here.count))
tag_in_there (x ∷ es) (y ∷ ts) zero e t granule apart here holds =
    rw (ap (λ z. is_in_extent z (granule * 16)) here.extent ∙ holds)
    (ap₂ (λ (z : Extent) (v : Vec ℕ). get_or v.items (granule - z.start / 16) 0 % 16) here.extent here.tags)
tag_in_there (x ∷ es) (y ∷ ts) (suc i) e t granule apart here holds =
    rw (first_extent_not x es i e (granule * 16) apart (omega (arith, here.in_range)) here.extent holds)
    (tag_in_there es ts i e t granule (extents_tail x es apart) (tail x es y ts i e t here) holds)

-- after other tags were put for that extent
tag_in-set_there : (es : List Extent) (ts : List (Vec ℕ)) (i : ℕ) (e : Extent) (t s : Vec ℕ) (granule : ℕ) → AllPairs AreApart es →
    IsTaggedAt es ts i e t → is_in_extent e (granule * 16) ≡ true →
    tag_in es (set ts i s) granule ≡ get_or s.items (granule - e.start / 16) 0 % 16
tag_in-set_there [] ts i e t s granule apart here holds = absurd (omega (arith, here.in_range))
tag_in-set_there (x ∷ es) [] i e t s granule apart here holds = absurd (omega (arith, here.count))
tag_in-set_there (x ∷ es) (y ∷ ts) zero e t s granule apart here holds =
    rw (ap (λ z. is_in_extent z (granule * 16)) here.extent ∙ holds)
    (ap (λ (z : Extent). get_or s.items (granule - z.start / 16) 0 % 16) here.extent)
tag_in-set_there (x ∷ es) (y ∷ ts) (suc i) e t s granule apart here holds =
    rw (first_extent_not x es i e (granule * 16) apart (omega (arith, here.in_range)) here.extent holds)
    (tag_in-set_there es ts i e t s granule (extents_tail x es apart) (tail x es y ts i e t here) holds)

tag_in-set_elsewhere : (es : List Extent) (ts : List (Vec ℕ)) (i : ℕ) (e : Extent) (t s : Vec ℕ) (granule : ℕ) → IsTaggedAt es ts i e t →
    is_in_extent e (granule * 16) ≡ false → tag_in es (set ts i s) granule ≡ tag_in es ts granule
tag_in-set_elsewhere [] ts i e t s granule here other = absurd (omega (arith, here.in_range))
tag_in-set_elsewhere (x ∷ es) [] i e t s granule here other = absurd (omega (arith, here.count))
tag_in-set_elsewhere (x ∷ es) (y ∷ ts) zero e t s granule here other =
    rw (ap (λ z. is_in_extent z (granule * 16)) here.extent ∙ other) refl
tag_in-set_elsewhere (x ∷ es) (y ∷ ts) (suc i) e t s granule here other =
    ap (λ n. cond (is_in_extent x (granule * 16)) (get_or y.items (granule - x.start / 16) 0 % 16) n)
    (tag_in-set_elsewhere es ts i e t s granule (tail x es y ts i e t here) other)

-- an address of a whole extent, and its granule
pub granule_within : (e : Extent) (at : ℕ) → IsWhole e → is_in_extent e at ≡ true → is_in_extent e (granule_of at * 16) ≡ true
granule_within e at whole holds = let b = between_parts e.start e.bytes at holds in
    between_from e.start e.bytes (granule_of at * 16) (omega (arith, b.from, whole.start_whole)) (omega (arith, b.below))

pub granule_place : (e : Extent) (at : ℕ) → IsWhole e → is_in_extent e at ≡ true → granule_of at - e.start / 16 ≡ (at - e.start) / 16
granule_place e at whole holds = let b = between_parts e.start e.bytes at holds in omega (arith, b.from, whole.start_whole)

-- one tag that was put is the tag of its granule alone
pub tag_in-put : (es : List Extent) (ts : List (Vec ℕ)) (i : ℕ) (e : Extent) (t s : Vec ℕ) (at tag : ℕ) → AllPairs AreApart es →
    IsWhole e → IsTaggedAt es ts i e t → is_in_extent e at ≡ true → (at - e.start) / 16 < length t.items → tag < 16 →
    s.items ≡ set t.items ((at - e.start) / 16) tag → tag_in es (set ts i s) ≡ store_tag (tag_in es ts) at tag
tag_in-put es ts i e t s at tag apart whole here holds room small items = fun_ext (λ granule. elim (cases_eq granule (granule_of at)) [
  | inl same ↦
      ap (tag_in es (set ts i s)) same
      ∙ tag_in-set_there es ts i e t s (granule_of at) apart here (granule_within e at whole holds)
      ∙ ap₂ (λ xs n. get_or xs n 0 % 16) items (granule_place e at whole holds)
      ∙ ap (λ n. n % 16) (get_or-set_same t.items ((at - e.start) / 16) tag 0 room)
      ∙ mod-eq_of_lt small
      ∙ sym (store_tag_same (tag_in es ts) at tag granule same)
  | inr other ↦ elim (cases_Bool (is_in_extent e (granule * 16))) [
    | inl inside ↦
        tag_in-set_there es ts i e t s granule apart here inside
        ∙ ap (λ xs. get_or xs (granule - e.start / 16) 0 % 16) items
        ∙ ap (λ n. n % 16)
        (get_or-set_other t.items ((at - e.start) / 16) (granule - e.start / 16) tag 0 (apart_places granule other inside))
        ∙ sym (tag_in_there es ts i e t granule apart here inside)
        ∙ sym (store_tag_other (tag_in es ts) at tag granule other)
    | inr outside ↦
        tag_in-set_elsewhere es ts i e t s granule here outside
        ∙ sym (store_tag_other (tag_in es ts) at tag granule other)
  ]
])
  where
    apart_places : (granule : ℕ) → granule ≢ granule_of at → is_in_extent e (granule * 16) ≡ true →
        granule - e.start / 16 ≢ (at - e.start) / 16
    apart_places granule other inside same =
        let b = between_parts e.start e.bytes (granule * 16) inside in
        let c = between_parts e.start e.bytes at holds in
        omega (arith, other, same, b.from, c.from, whole.start_whole)

-- where each tag of each list is 0
pub tag_in_zero : (es : List Extent) (ts : List (Vec ℕ)) (granule : ℕ) →
    ((k : ℕ) (t : Vec ℕ) (n : ℕ) → k < length ts → get_or (get_or ts k t).items n 0 ≡ 0) → tag_in es ts granule ≡ 0
tag_in_zero [] ts granule zeros = refl
tag_in_zero (e ∷ es) [] granule zeros = refl
tag_in_zero (e ∷ es) (t ∷ ts) granule zeros = elim (cases_Bool (is_in_extent e (granule * 16))) [
  | inl holds ↦ rw holds (ap (λ n. n % 16) (zeros 0 t (granule - e.start / 16) (omega arith)))
  | inr other ↦ rw other (tag_in_zero es ts granule (λ k u n below. zeros (suc k) u n (omega (arith, below))))
]

-- ---- the lists of tags of a list of regions

-- the tags of the region at a place
pub record HasTags (regions : List Region) (tags : List (Vec ℕ)) (i : ℕ) (r : Region) (t : Vec ℕ) : Type 0 where
  pub tagged : IsTaggedAt (extents_of regions) tags i (extent_of r) t
  pub size : length t.items * 16 ≡ length r.bytes.items

pub has_tags : (regions : List Region) (tags : List (Vec ℕ)) (i : ℕ) (r : Region) (t : Vec ℕ) → HaveTags (extents_of regions) tags →
    IsAt regions i r → t ≡ get_or tags i t → HasTags regions tags i r t
has_tags regions tags i r t have here is = record {
  tagged = record { in_range = within; count = have.count; extent = extent; tags = sym is };
  size = ap (λ (v : Vec ℕ). length v.items * 16) is ∙ have.each i (extent_of r) t within ∙ ap (λ (e : Extent). e.bytes) extent;
}
  where
    within : i < length (extents_of regions)
    within = omega (arith, here.in_range, length_extents regions)

    extent : get_or (extents_of regions) i (extent_of r) ≡ extent_of r
    extent = get_or_extents regions i r ∙ ap extent_of here.is

-- lists of as many zeros as the regions have granules
pub record AreZeros (regions : List Region) (tags : List (Vec ℕ)) : Type 0 where
  pub count : length tags ≡ length regions
  pub zeros : (k : ℕ) (r : Region) (t : Vec ℕ) → k < length regions →
      (get_or tags k t).items ≡ replicate (length (get_or regions k r).bytes.items / 16) 0

zero_at : (n k : ℕ) → ◌≡◌ {A = ℕ} (get_or (replicate n 0) k 0) 0
zero_at zero k = refl
zero_at (suc n) zero = refl
zero_at (suc n) (suc k) = zero_at n k

pub zeros_tag : (regions : List Region) (tags : List (Vec ℕ)) (granule : ℕ) → AreZeros regions tags →
    tag_in (extents_of regions) tags granule ≡ 0
zeros_tag [] tags granule zeros = refl
zeros_tag (x ∷ rs) tags granule zeros =
    tag_in_zero (extents_of (x ∷ rs)) tags granule
    (λ k t n below. ap (λ xs. get_or xs n 0) (zeros.zeros k x t (omega (arith, below, zeros.count)))
    ∙ zero_at (length (get_or (x ∷ rs) k x).bytes.items / 16) n)

pub zeros_have_tags : (regions : List Region) (tags : List (Vec ℕ)) → All IsWhole (extents_of regions) → AreZeros regions tags →
    HaveTags (extents_of regions) tags
zeros_have_tags [] tags whole zeros = record { count = zeros.count; each = λ k e t below. absurd (omega (arith, below)) }
zeros_have_tags (x ∷ rs) tags whole zeros = record {
  count = zeros.count ∙ sym (length_extents (x ∷ rs));
  each = λ k e t below. each k e t (omega (arith, below, length_extents (x ∷ rs)));
}
  where
    each : (k : ℕ) (e : Extent) (t : Vec ℕ) → k < length (x ∷ rs) →
        length (get_or tags k t).items * 16 ≡ (get_or (extents_of (x ∷ rs)) k e).bytes
    each k e t below =
        let within : k < length (extents_of (x ∷ rs)) = omega (arith, below, length_extents (x ∷ rs)) in
        let here : get_or (extents_of (x ∷ rs)) k e ≡ extent_of (get_or (x ∷ rs) k x) =
        get_or_any (extents_of (x ∷ rs)) k e (extent_of x) within ∙ get_or_extents (x ∷ rs) k x in
        let bytes_whole : length (get_or (x ∷ rs) k x).bytes.items % 16 ≡ 0 =
        ap (λ (y : Extent). y.bytes % 16) (sym here) ∙ (whole k e within).bytes_whole in
        ap (λ xs. length xs * 16) (zeros.zeros k x t below)
        ∙ ap (λ n. n * 16) (length-replicate (length (get_or (x ∷ rs) k x).bytes.items / 16) 0)
        ∙ omega (arith, bytes_whole)
        ∙ ap (λ (y : Extent). y.bytes) (sym here)
