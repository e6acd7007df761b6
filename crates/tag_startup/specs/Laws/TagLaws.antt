-- The tags of objects: those put in order are the tags at the start, each granule of an object has the object's tag, and all other
-- granules have the tag 0.
use Rattle.std.proofs.Common.{◌≡◌, ◌≤◌, ◌<◌, ℕ, zero, suc, ◌+◌, ◌*◌, true, false, List, [], ◌∷◌, length, get_or, slice_index}
use Rattle.std.proofs.Common.{refl, sym, ◌∙◌, inl, inr, arith}
use mathlib.Core.Path.{fun_ext}
use Rattle.std.proofs.lemmas.Bool.{cases_Bool}
use Rattle.std.proofs.lemmas.Bool.Decides.{nat_tests}
use Rattle.mt_base.specs.Memory.{is_between}
use Rattle.mt_base.specs.Tags.{base}
use Rattle.memtag_desc.specs.declared.interval.Interval.{Interval}
use Rattle.memtag_desc.specs.Descriptors.{Describes, HaveDescription, end_of}
use Rattle.memtag_desc.specs.Laws.OneSpelling.{have_description}
use Rattle.tag_startup.specs.Memory.{with_object, with_objects}
use Rattle.tag_startup.specs.Parts.{load_address}
use Rattle.tag_startup.specs.Tags.{has_granule, tag_after, tags_from, loaded_tag}

-- the tag of the object of a number
unfoldable pub nth_tag : ℕ → ℕ → ℕ
nth_tag tag zero = tag
nth_tag tag (suc k) = nth_tag (tag_after tag) k

-- ---- where no object is

-- an object behind an address has no granule before it
before_object : (i : Interval) (granule from : ℕ) → granule * 16 < load_address + from → from ≤ i.start → has_granule i granule ≡ false
before_object i granule from below behind = interval (load_address + i.start) i.bytes (granule * 16) (omega (arith, below, behind))
  where
    interval : (start bytes at : ℕ) → at < start → is_between start bytes at ≡ false
    interval start bytes at h = grind (arith, nat_tests)

behind_object : (i : Interval) (granule : ℕ) → has_granule i granule ≡ true → granule * 16 < load_address + end_of i
behind_object i granule has = omega (arith, interval (load_address + i.start) i.bytes (granule * 16) has)
  where
    interval : (start bytes at : ℕ) → is_between start bytes at ≡ true → at < start + bytes
    interval start bytes at h = grind (arith, nat_tests)

-- objects behind an address put no tag before it
objects_before : (tags : ℕ → ℕ) (tag from : ℕ) (intervals : List Interval) (granule : ℕ) → HaveDescription from intervals →
    granule * 16 < load_address + from → with_objects tags tag intervals granule ≡ tags granule
unfolding with_objects
objects_before tags tag from [] granule have below = refl
objects_before tags tag from (i ∷ intervals) granule have below =
    objects_before (with_object tags i tag) (tag_after tag) (end_of i) intervals granule have.5 (omega (arith, below, have.3))
    ∙ rw (before_object i granule from below have.3) refl

-- ---- tags put in order

put_in_order : (tags : ℕ → ℕ) (tag from : ℕ) (intervals : List Interval) (granule : ℕ) → HaveDescription from intervals →
    tags granule ≡ 0 → with_objects tags tag intervals granule ≡ tags_from tag intervals granule
unfolding with_objects
put_in_order tags tag from [] granule have none = none
put_in_order tags tag from (i ∷ intervals) granule have none = elim (cases_Bool (has_granule i granule)) [
  | inl has ↦ objects_before (with_object tags i tag) (tag_after tag) (end_of i) intervals granule have.5 (behind_object i granule has)
      ∙ rw has refl
  | inr other ↦ put_in_order (with_object tags i tag) (tag_after tag) (end_of i) intervals granule have.5 (rw other none)
      ∙ rw other refl
]

-- the tags of the objects that the bytes describe, put on memory without tags
pub put_tags : (tags : ℕ → ℕ) (tag : ℕ) (intervals : List Interval) (bytes : List ℕ) → Describes intervals bytes →
    ((granule : ℕ) → tags granule ≡ 0) → with_objects tags tag intervals ≡ tags_from tag intervals
put_tags tags tag intervals bytes described none = fun_ext (λ granule.
    put_in_order tags tag 0 intervals granule (have_description intervals bytes described) (none granule))

-- ---- what the tags are

none_before : (tag from : ℕ) (intervals : List Interval) (granule : ℕ) → HaveDescription from intervals →
    granule * 16 < load_address + from → tags_from tag intervals granule ≡ 0
none_before tag from [] granule have below = refl
none_before tag from (i ∷ intervals) granule have below =
    rw (before_object i granule from below have.3)
    (none_before (tag_after tag) (end_of i) intervals granule have.5 (omega (arith, below, have.3)))

tag_of_nth : (tag from : ℕ) (intervals : List Interval) (k : ℕ) (d : Interval) (granule : ℕ) → HaveDescription from intervals →
    k < length intervals → has_granule (get_or intervals k d) granule ≡ true → tags_from tag intervals granule ≡ nth_tag tag k
unfolding nth_tag
tag_of_nth tag from [] k d granule have inside has = absurd (omega (arith, inside))
tag_of_nth tag from (i ∷ intervals) zero d granule have inside has = rw has refl
tag_of_nth tag from (i ∷ intervals) (suc k) d granule have inside has = elim (cases_Bool (has_granule i granule)) [
  | inl also ↦ absurd (apart (end_of i) intervals k have.5 (behind_object i granule also) (omega (arith, inside)) has)
  | inr other ↦ rw other (tag_of_nth (tag_after tag) (end_of i) intervals k d granule have.5 (omega (arith, inside)) has)
]
  where
    apart : (from : ℕ) (xs : List Interval) (k : ℕ) → HaveDescription from xs → granule * 16 < load_address + from → k < length xs →
        has_granule (get_or xs k d) granule ≡ true → ⊥
    apart from [] k have below inside has = omega (arith, inside)
    apart from (x ∷ xs) zero have below inside has = no (sym has ∙ before_object x granule from below have.3)
      where
        no : true ≡ false → ⊥
        no e = cc
    apart from (x ∷ xs) (suc k) have below inside has =
        apart (end_of x) xs k have.5 (omega (arith, below, have.3)) (omega (arith, inside)) has

-- each granule of the object of a number has its tag
pub object_tag : (intervals : List Interval) (bytes choices : List ℕ) (k : ℕ) (d : Interval) (granule : ℕ) → Describes intervals bytes →
    k < length intervals → has_granule (get_or intervals k d) granule ≡ true →
    loaded_tag intervals choices granule ≡ nth_tag (base (slice_index choices 0)) k
unfolding loaded_tag
object_tag intervals bytes choices k d granule described inside has =
    tag_of_nth (base (slice_index choices 0)) 0 intervals k d granule (have_description intervals bytes described) inside has

none_elsewhere : (tag : ℕ) (intervals : List Interval) (granule : ℕ) →
    ((k : ℕ) (d : Interval) → k < length intervals → has_granule (get_or intervals k d) granule ≡ false) →
    tags_from tag intervals granule ≡ 0
none_elsewhere tag [] granule none = refl
none_elsewhere tag (i ∷ intervals) granule none =
    rw (none 0 i (omega arith)) (none_elsewhere (tag_after tag) intervals granule (λ k d inside. none (suc k) d (omega (arith, inside))))

-- a granule of no object has the tag 0
pub other_tag : (intervals : List Interval) (choices : List ℕ) (granule : ℕ) →
    ((k : ℕ) (d : Interval) → k < length intervals → has_granule (get_or intervals k d) granule ≡ false) →
    loaded_tag intervals choices granule ≡ 0
unfolding loaded_tag
other_tag intervals choices granule none = none_elsewhere (base (slice_index choices 0)) intervals granule none

-- without objects all tags are 0
pub no_tags : (choices : List ℕ) → loaded_tag [] choices ≡ (λ _. 0)
unfolding loaded_tag
no_tags choices = refl
