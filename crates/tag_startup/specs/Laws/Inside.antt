-- The objects of an image that starts, and the places of its relocations, are in its writable part.
use Rattle.std.proofs.Common.{◌≡◌, ◌≤◌, ◌<◌, ℕ, zero, suc, ◌+◌, ◌%◌, ◌==◌, Bool, false, not, ◌&&◌, List, [], ◌∷◌, length, get_or}
use Rattle.std.proofs.Common.{Option, Some, None, nat_le, refl, sym, ◌∙◌, inl, inr, arith}
use Rattle.std.specs.List.{All, position, position_or_len}
use Rattle.std.proofs.lemmas.Bool.{cases_lt}
use Rattle.std.proofs.lemmas.Bool.Decides.{nat_tests}
use Rattle.std.proofs.lemmas.List.Sums.{fails_before_first}
use Rattle.elf_image.specs.Image.{Image}
use Rattle.elf_image.specs.Places.{dynamic_place, memory_end}
use Rattle.elf_image.specs.declared.parts.RelativeReloc.{RelativeReloc}
use Rattle.memtag_desc.specs.declared.interval.Interval.{Interval}
use Rattle.memtag_desc.specs.Descriptors.{HaveDescription, end_of}
use Rattle.memtag_desc.specs.Laws.OneSpelling.{have_description}
use Rattle.tag_startup.specs.Starts.{AreObjects, counted_on, first_outside, is_outside, is_misplaced}

-- ---- the first of a list that passes a test

position_there : {A : Type 0} (test : A → Bool) (xs : List A) → position_or_len test xs < length xs →
    position test xs ≡ Some (position_or_len test xs)
position_there test xs there = grind (arith, nat_tests)

position_none : {A : Type 0} (test : A → Bool) (xs : List A) → length xs ≤ position_or_len test xs → position test xs ≡ None
position_none test xs past = grind (arith, nat_tests)

some_none : (n : ℕ) → ◌≡◌ {A = Option ℕ} (Some n) None → ⊥
some_none n e = cc

some_is : (n m : ℕ) → ◌≡◌ {A = Option ℕ} (Some n) (Some m) → n ≡ m
some_is n m e = cc

-- where there is none, no element passes
pub none_passes : {A : Type 0} (test : A → Bool) (xs : List A) (k : ℕ) (d : A) → position test xs ≡ None → k < length xs →
    test (get_or xs k d) ≡ false
none_passes test xs k d none inside = elim (cases_lt (position_or_len test xs) (length xs)) [
  | inl there ↦ absurd (some_none (position_or_len test xs) (sym (position_there test xs there) ∙ none))
  | inr past ↦ fails_before_first test xs k d (omega (arith, inside, past))
]

-- the first one is an element
pub first_within : {A : Type 0} (test : A → Bool) (xs : List A) (k : ℕ) → position test xs ≡ Some k → k < length xs
first_within test xs k is = elim (cases_lt (position_or_len test xs) (length xs)) [
  | inl there ↦ omega (arith, there, some_is (position_or_len test xs) k (sym (position_there test xs there) ∙ is))
  | inr past ↦ absurd (some_none k (sym is ∙ position_none test xs past))
]

-- ---- objects and places

pub record IsWithin (image : Image) (i : Interval) : Type 0 where
  pub from : dynamic_place image ≤ i.start
  pub to : end_of i ≤ memory_end image

pub record IsPlaced (image : Image) (r : RelativeReloc) : Type 0 where
  pub whole : r.place % 8 ≡ 0
  pub from : dynamic_place image ≤ r.place
  pub to : r.place + 8 ≤ memory_end image

within_parts : (start end from to : ℕ) → not (nat_le start from && nat_le to end) ≡ false → (start ≤ from) × (to ≤ end)
within_parts start end from to is = (grind (arith, nat_tests), grind (arith, nat_tests))

placed_parts : (start end place : ℕ) → not (place % 8 == 0 && (nat_le start place && nat_le (place + 8) end)) ≡ false →
    (place % 8 ≡ 0) × (start ≤ place) × (place + 8 ≤ end)
placed_parts start end place is = (grind (arith, nat_tests), grind (arith, nat_tests), grind (arith, nat_tests))

none_counted : (count : ℕ) (one two : Option ℕ) → counted_on count one two ≡ None → (one ≡ None) × (two ≡ None)
none_counted count None None is = (refl, refl)
none_counted count None (Some k) is = absurd (some_none (count + k) is)
none_counted count (Some k) two is = absurd (some_none k is)

none_outside : (image : Image) (intervals : List Interval) → first_outside image intervals ≡ None →
    (position (is_outside (dynamic_place image) (memory_end image)) intervals ≡ None)
    × (position (is_misplaced (dynamic_place image) (memory_end image)) image.relocs ≡ None)
unfolding first_outside
none_outside image intervals is = none_counted (length intervals) _ _ is

pub objects_within : (image : Image) (intervals : List Interval) → AreObjects image intervals → All (IsWithin image) intervals
objects_within image intervals are k d inside =
    let fails = none_passes (is_outside (dynamic_place image) (memory_end image)) intervals k d
    (none_outside image intervals are.inside).0 inside in
    let parts = within_parts (dynamic_place image) (memory_end image) (get_or intervals k d).start (end_of (get_or intervals k d)) fails in
    record { from = parts.0; to = parts.1 }

pub relocs_placed : (image : Image) (intervals : List Interval) → AreObjects image intervals → All (IsPlaced image) image.relocs
relocs_placed image intervals are k d inside =
    let fails = none_passes (is_misplaced (dynamic_place image) (memory_end image)) image.relocs k d
    (none_outside image intervals are.inside).1 inside in
    let parts = placed_parts (dynamic_place image) (memory_end image) (get_or image.relocs k d).place fails in
    record { whole = parts.0; from = parts.1; to = parts.2 }

-- ---- an object is whole granules

pub record IsWholeObject (i : Interval) : Type 0 where
  pub start : i.start % 16 ≡ 0
  pub bytes : i.bytes % 16 ≡ 0
  pub some : 0 < i.bytes

each_whole : (from : ℕ) (intervals : List Interval) → HaveDescription from intervals → All IsWholeObject intervals
each_whole from [] have k d inside = absurd (omega (arith, inside))
each_whole from (i ∷ intervals) have zero d inside = record { start = have.0; bytes = have.1; some = have.2 }
each_whole from (i ∷ intervals) have (suc k) d inside = each_whole (end_of i) intervals have.5 k d (omega (arith, inside))

pub objects_whole : (image : Image) (intervals : List Interval) → AreObjects image intervals → All IsWholeObject intervals
objects_whole image intervals are = each_whole 0 intervals (have_description intervals image.descriptors are.described)
