-- What the place of a relocation holds at the start: the pointer of the last relocation there. A pointer to an object has its tag.
use Rattle.std.proofs.Common.{◌≡◌, ◌≢◌, ◌≤◌, ◌<◌, ℕ, ◌+◌, ◌-◌, ◌*◌, ◌/◌, ◌%◌, ◌^◌, true, false, List, length, get_or}
use Rattle.std.proofs.Common.{Some, slice_index, refl, sym, ap, ap₂, ◌∙◌, inl, inr, arith, w64}
use Rattle.std.specs.Int.{cast_unsigned}
use Rattle.std.proofs.lemmas.Bool.{cases_lt}
use Rattle.std.proofs.lemmas.Bool.Decides.{nat_tests}
use Rattle.mt_base.specs.Granules.{granule_of}
use Rattle.mt_base.specs.Memory.{bytes_of, is_between, is_mapped, load, store}
use Rattle.mt_base.specs.Laws.Memory.{length-bytes_of, load-store_same, load_same, store_bytes_inside}
use Rattle.mt_base.specs.Tags.{base}
use Rattle.mt_base.specs.Wrapping.{wrapping_add, wrapping_sub}
use Rattle.elf_image.specs.Image.{Image}
use Rattle.elf_image.specs.Places.{IsValid}
use Rattle.elf_image.specs.declared.parts.RelativeReloc.{RelativeReloc}
use Rattle.memtag_desc.specs.declared.interval.Interval.{Interval}
use Rattle.tag_startup.specs.Laws.Inside.{IsWholeObject, IsWithin, objects_whole, objects_within, relocs_placed}
use Rattle.tag_startup.specs.Laws.PlaceLaws.{find_that}
use Rattle.tag_startup.specs.Laws.TagLaws.{nth_tag, object_tag}
use Rattle.tag_startup.specs.Laws.Writable.{writable_mapped}
use Rattle.tag_startup.specs.Loaded.{before_relocations, loaded_byte}
use Rattle.tag_startup.specs.Parts.{load_address}
use Rattle.tag_startup.specs.Relocated.{Before, byte_by, is_at_place, pointer, relocated_byte, tag_there, tagged_address, target}
use Rattle.tag_startup.specs.Starts.{AreObjects}
use Rattle.tag_startup.specs.Tags.{loaded_tag}

-- ---- what a place holds

-- no relocation behind that one has its place
pub record IsLast (relocs : List RelativeReloc) (k : ℕ) (d : RelativeReloc) : Type 0 where
  pub inside : k < length relocs
  pub last : (j : ℕ) → k < j → j < length relocs → (get_or relocs j d).place ≢ (get_or relocs k d).place

in_place : (place j : ℕ) → j < 8 → is_between place 8 (place + j) ≡ true
in_place place j small = grind (arith, nat_tests)

-- places that are multiples of 8 share no byte
other_place : (place other j : ℕ) → place % 8 ≡ 0 → other % 8 ≡ 0 → other ≢ place → j < 8 →
    is_between (load_address + other) 8 (load_address + place + j) ≡ false
other_place place other j whole also differ small = elim (cases_lt other place) [
  | inl before ↦ behind (load_address + other) (load_address + place + j) (omega (arith, whole, also, before))
  | inr from ↦ ahead (load_address + other) (load_address + place + j) (omega (arith, whole, also, differ, from, small))
]
  where
    behind : (start at : ℕ) → start + 8 ≤ at → is_between start 8 at ≡ false
    behind start at h = grind (arith, nat_tests)

    ahead : (start at : ℕ) → at < start → is_between start 8 at ≡ false
    ahead start at h = grind (arith, nat_tests)

pointer-lt : (memory : Before) (r : RelativeReloc) → pointer memory r < 2 ^ 64
unfolding pointer
pointer-lt memory r = omega arith

byte_there : (memory : Before) (relocs : List RelativeReloc) (r : RelativeReloc) (j : ℕ) →
    relocated_byte memory relocs (load_address + r.place + j) ≡ byte_by memory (Some r) (load_address + r.place + j) →
    relocated_byte memory relocs (load_address + r.place + j) ≡ get_or (bytes_of 8 (pointer memory r)) j 0
byte_there memory relocs r j is =
    is ∙ ap (λ n. get_or (bytes_of 8 (pointer memory r)) n 0)
    (let e : load_address + r.place + j - (load_address + r.place) ≡ j = omega arith in e)

found_there : (memory : Before) (relocs : List RelativeReloc) (at k : ℕ) (d : RelativeReloc) → k < length relocs →
    is_at_place at (get_or relocs k d) ≡ true →
    ((j : ℕ) → k < j → j < length relocs → is_at_place at (get_or relocs j d) ≡ false) →
    relocated_byte memory relocs at ≡ byte_by memory (Some (get_or relocs k d)) at
unfolding relocated_byte
found_there memory relocs at k d inside here last = ap (λ found. byte_by memory found at) (find_that at relocs k d inside here last)

-- the place of the last relocation there holds its pointer
pub place_holds : (image : Image) (objects : List Interval) (stack : ℕ) (tag : ℕ → ℕ) (k : ℕ) (d : RelativeReloc) →
    AreObjects image objects → IsLast image.relocs k d →
    load 8 (loaded_byte image stack tag) (load_address + (get_or image.relocs k d).place)
    ≡ pointer (before_relocations image stack tag) (get_or image.relocs k d)
unfolding loaded_byte
place_holds image objects stack tag k d are is =
    load_same 8 (relocated_byte memory image.relocs) (store 8 (λ _. 0) (load_address + r.place) (pointer memory r)) (load_address + r.place)
    (λ j small.
    byte_there memory image.relocs r j (found_there memory image.relocs (load_address + r.place + j) k d is.inside
    (in_place (load_address + r.place) j small)
    (λ n above below. other_place r.place (get_or image.relocs n d).place j (relocs_placed image objects are k d is.inside).whole
    (relocs_placed image objects are n d below).whole (is.last n above below) small))
    ∙ sym (store_bytes_inside (λ _. 0) (load_address + r.place) (bytes_of 8 (pointer memory r)) j
    (omega (arith, small, length-bytes_of 8 (pointer memory r)))))
    ∙ load-store_same 8 (λ _. 0) (load_address + r.place) (pointer memory r)
    ∙ (let e : pointer memory r % 256 ^ 8 ≡ pointer memory r = omega (arith, pointer-lt memory r) in e)
  where
    memory : Before
    memory = before_relocations image stack tag

    r : RelativeReloc
    r = get_or image.relocs k d

-- ---- the tag of a pointer to an object

inside_granule : (start bytes at : ℕ) → start % 16 ≡ 0 → bytes % 16 ≡ 0 → start ≤ at → at < start + bytes →
    is_between start bytes (at / 16 * 16) ≡ true
inside_granule start bytes at whole also from below = between start bytes (at / 16 * 16) (omega (arith, whole, from))
    (omega (arith, below))
  where
    between : (start bytes at : ℕ) → start ≤ at → at < start + bytes → is_between start bytes at ≡ true
    between start bytes at from below = grind (arith, nat_tests)

with_tag_there : (memory : Before) (r : RelativeReloc) (t : ℕ) → tag_there memory (tagged_address memory r) ≡ t →
    pointer memory r ≡ wrapping_add 64 (target r) (t * 2 ^ 56)
unfolding pointer
with_tag_there memory r t is = ap (λ u. wrapping_add 64 (target r) (u * 2 ^ 56)) is

mapped_tag : (memory : Before) (at : ℕ) → is_mapped memory.regions at ≡ true → tag_there memory at ≡ memory.tag (granule_of at)
mapped_tag memory at mapped = rw mapped refl

-- A relocation whose tagged address is in the object of a number: its pointer is its target with the tag of the object, which is that
-- of each granule of the object (`object_tag`).
pub object_pointer : (image : Image) (objects : List Interval) (choices : List ℕ) (stack k : ℕ) (d : Interval) (r : RelativeReloc) →
    IsValid image → AreObjects image objects → k < length objects →
    load_address + (get_or objects k d).start ≤ tagged_address (before_relocations image stack (loaded_tag objects choices)) r →
    tagged_address (before_relocations image stack (loaded_tag objects choices)) r
    < load_address + (get_or objects k d).start + (get_or objects k d).bytes →
    pointer (before_relocations image stack (loaded_tag objects choices)) r
    ≡ wrapping_add 64 (target r) (nth_tag (base (slice_index choices 0)) k * 2 ^ 56)
object_pointer image objects choices stack k d r valid are inside from below =
    with_tag_there memory r (nth_tag (base (slice_index choices 0)) k)
    (mapped_tag memory q (writable_mapped image stack q valid (record {
      from = omega (arith, from, within.from);
      below = omega (arith, below, within.to);
    }))
    ∙ object_tag objects image.descriptors choices k d (granule_of q) are.described inside
    (inside_granule (load_address + i.start) i.bytes q (omega (arith, whole.start)) whole.bytes from below))
  where
    memory : Before
    memory = before_relocations image stack (loaded_tag objects choices)

    q : ℕ
    q = tagged_address memory r

    i : Interval
    i = get_or objects k d

    within : IsWithin image (get_or objects k d)
    within = objects_within image objects are k d inside

    whole : IsWholeObject (get_or objects k d)
    whole = objects_whole image objects are k d inside

-- Where a place holds the negative of an offset, the tag is looked up at the start of what the offset counts from, however far it leads.
pub looks_back : (memory : Before) (r : RelativeReloc) (start offset : ℕ) → cast_unsigned w64 r.addend ≡ wrapping_add 64 start offset →
    load 8 memory.byte (load_address + r.place) ≡ wrapping_sub 64 0 offset → load_address + start < 2 ^ 64 →
    tagged_address memory r ≡ load_address + start
looks_back memory r start offset addend content low =
    ap₂ (λ a b. ((load_address + a) % 2 ^ 64 + b) % 2 ^ 64) addend content ∙ back start offset low
  where
    back : (start offset : ℕ) → load_address + start < 2 ^ 64 →
        ((load_address + (start + offset) % 2 ^ 64) % 2 ^ 64 + (0 + (2 ^ 64 - offset % 2 ^ 64)) % 2 ^ 64) % 2 ^ 64 ≡ load_address + start
    back start offset low = omega arith
