-- The loops that tag objects: what memory has so far.
use Rattle.std.proofs.Common.{◌≡◌, ◌≤◌, ◌<◌, ℕ, suc, ◌+◌, ◌*◌, ◌/◌, ◌%◌, true, false, if◌then◌else◌, List, [], ◌∷◌, length, drop}
use Rattle.std.proofs.Common.{get_or, refl, sym, ap, subst, ◌∙◌, inl, inr, arith, add-one, drop-cons}
use mathlib.Core.Path.{fun_ext}
use Rattle.std.proofs.lemmas.Bool.{cases_Bool}
use Rattle.std.proofs.lemmas.Bool.Decides.{nat_tests}
use Rattle.mt_base.specs.Memory.{Span, Extent, is_between, store_tag}
use Rattle.mt_base.specs.Laws.Memory.{store_tag_same, store_tag_other}
use Rattle.tag_mem.specs.declared.access.TagMemory.{Ghosts}
use Rattle.memtag_desc.specs.declared.interval.Interval.{Interval}
use Rattle.tag_startup.specs.Memory.{CanBeTagged, IsTagged, with_object, with_objects}
use Rattle.tag_startup.specs.Parts.{load_address}
use Rattle.tag_startup.specs.Tags.{tag_after}

-- ---- one object

-- the tags with this one at so many granules from an address on
pub with_granules : (ℕ → ℕ) → ℕ → ℕ → ℕ → ℕ → ℕ
with_granules tags start n tag granule = if is_between start (16 * n) (granule * 16) then tag else tags granule

no_granules : (tags : ℕ → ℕ) (start tag : ℕ) → tags ≡ with_granules tags start 0 tag
unfolding with_granules
no_granules tags start tag = fun_ext (λ granule. sym (rw (outside (granule * 16)) refl))
  where
    outside : (at : ℕ) → is_between start (16 * 0) at ≡ false
    outside at = grind (arith, nat_tests)

one_more : (tags : ℕ → ℕ) (start n tag granule : ℕ) → start % 16 ≡ 0 →
    store_tag (with_granules tags start n tag) (start + 16 * n) tag granule ≡ with_granules tags start (n + 1) tag granule
unfolding with_granules
one_more tags start n tag granule whole = elim (cases_Bool (is_between start (16 * n) (granule * 16))) [
  | inl before ↦
      rw (more (granule * 16) before) (store_tag_other _ (start + 16 * n) tag granule
      (λ e. not_last (granule * 16) before (omega (arith, e, whole)))
      ∙ rw before refl)
  | inr other ↦ elim (cases_Bool (is_between start (16 * (n + 1)) (granule * 16))) [
    | inl last ↦ rw last (store_tag_same _ (start + 16 * n) tag granule
        (omega (arith, whole, (is_last (granule * 16) other last).0, (is_last (granule * 16) other last).1)))
    | inr past ↦ rw past (store_tag_other _ (start + 16 * n) tag granule (λ e. not_past (granule * 16) past (omega (arith, e, whole)))
        ∙ rw other refl)
  ]
]
  where
    more : (at : ℕ) → is_between start (16 * n) at ≡ true → is_between start (16 * (n + 1)) at ≡ true
    more at h = grind (arith, nat_tests)

    not_last : (at : ℕ) → is_between start (16 * n) at ≡ true → at ≡ start + 16 * n → ⊥
    not_last at h e = grind (arith, nat_tests)

    is_last : (at : ℕ) → is_between start (16 * n) at ≡ false → is_between start (16 * (n + 1)) at ≡ true →
        (start + 16 * n ≤ at) × (at < start + 16 * n + 16)
    is_last at h g = (grind (arith, nat_tests), grind (arith, nat_tests))

    not_past : (at : ℕ) → is_between start (16 * (n + 1)) at ≡ false → at ≡ start + 16 * n → ⊥
    not_past at h e = grind (arith, nat_tests)

-- so many granules of the object have its tag
abbrev pub Granules : {M : Type 0} → Ghosts M → M → M → Interval → ℕ → ℕ → Type 0
Granules shown old now i n tag = IsTagged shown old now (with_granules (shown.tags old) (load_address + i.start) n tag)

pub none_tagged : {M : Type 0} (shown : Ghosts M) (memory : M) (i : Interval) (tag : ℕ) → Granules shown memory memory i 0 tag
none_tagged shown memory i tag = record {
  tags = no_granules (shown.tags memory) (load_address + i.start) tag;
  byte = refl;
  regions = refl;
  guard = refl;
}

pub granule_tagged : {M : Type 0} (shown : Ghosts M) (old now next : M) (i : Interval) (n tag : ℕ) → i.start % 16 ≡ 0 →
    Granules shown old now i n tag → IsTagged shown now next (store_tag (shown.tags now) (load_address + i.start + 16 * n) tag) →
    Granules shown old next i (n + 1) tag
granule_tagged shown old now next i n tag whole so_far is = record {
  tags = is.tags
      ∙ ap (λ tags. store_tag tags (load_address + i.start + 16 * n) tag) so_far.tags
      ∙ fun_ext (λ granule. one_more (shown.tags old) (load_address + i.start) n tag granule (omega (arith, whole)));
  byte = is.byte ∙ so_far.byte;
  regions = is.regions ∙ so_far.regions;
  guard = is.guard ∙ so_far.guard;
}

pub all_tagged : {M : Type 0} (shown : Ghosts M) (old now : M) (i : Interval) (n tag : ℕ) → i.bytes % 16 ≡ 0 → i.bytes / 16 ≡ n →
    Granules shown old now i n tag → IsTagged shown old now (with_object (shown.tags old) i tag)
unfolding with_granules
all_tagged shown old now i n tag whole count so_far = record {
  tags = so_far.tags
      ∙ ap {B = ℕ → ℕ} (λ bytes granule. if is_between (load_address + i.start) bytes (granule * 16) then tag else shown.tags old granule)
      (let e : 16 * n ≡ i.bytes = omega (arith, whole, count) in e);
  byte = so_far.byte;
  regions = so_far.regions;
  guard = so_far.guard;
}

-- ---- several objects

-- those that are left, put on what memory has, are all of them put on what it had
pub record StillTags {M : Type 0} (shown : Ghosts M) (old now : M) (first tag : ℕ) (all left : List Interval) : Type 0 where
  pub tags : with_objects (shown.tags now) tag left ≡ with_objects (shown.tags old) first all
  pub byte : shown.byte now ≡ shown.byte old
  pub regions : shown.regions now ≡ shown.regions old
  pub guard : shown.guard now ≡ shown.guard old

next_object : {M : Type 0} (shown : Ghosts M) (old now next : M) (first tag : ℕ) (all left : List Interval) (i : Interval) →
    StillTags shown old now first tag all (i ∷ left) → IsTagged shown now next (with_object (shown.tags now) i tag) →
    StillTags shown old next first (tag_after tag) all left
unfolding with_objects
next_object shown old now next first tag all left i so_far is = record {
  tags = ap (λ tags. with_objects tags (tag_after tag) left) is.tags ∙ so_far.tags;
  byte = is.byte ∙ so_far.byte;
  regions = is.regions ∙ so_far.regions;
  guard = is.guard ∙ so_far.guard;
}

pub object_tagged : {M : Type 0} (shown : Ghosts M) (old now next : M) (first tag after k : ℕ) (all : List Interval) (d : Interval) →
    k < length all → StillTags shown old now first tag all (drop k all) →
    IsTagged shown now next (with_object (shown.tags now) (get_or all k d) tag) → after ≡ tag_after tag →
    StillTags shown old next first after all (drop (k + 1) all)
object_tagged shown old now next first tag after k all d inside so_far tagged follows =
    subst (λ t. StillTags shown old next first t all (drop (k + 1) all)) (sym follows)
    (subst (λ n. StillTags shown old next first (tag_after tag) all (drop n all)) (sym (add-one k))
    (next_object shown old now next first tag all (drop (suc k) all) (get_or all k d)
    (subst (StillTags shown old now first tag all) (drop-cons all k d inside) so_far) tagged))

pub objects_tagged : {M : Type 0} (shown : Ghosts M) (old now : M) (first tag : ℕ) (all left : List Interval) → left ≡ [] →
    StillTags shown old now first tag all left → IsTagged shown old now (with_objects (shown.tags old) first all)
unfolding with_objects
objects_tagged shown old now first tag all left none so_far = record {
  tags = ap (with_objects (shown.tags now) tag) (sym none) ∙ so_far.tags;
  byte = so_far.byte;
  regions = so_far.regions;
  guard = so_far.guard;
}

-- what can be tagged can be where memory is the same
pub taggable : (regions other : List Extent) (guard second : Span) (i : Interval) → other ≡ regions → second ≡ guard →
    CanBeTagged regions guard i → CanBeTagged other second i
taggable regions other guard second i same alike can =
    subst (λ g. CanBeTagged other g i) (sym alike) (subst (λ r. CanBeTagged r guard i) (sym same) can)
