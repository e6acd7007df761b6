-- The loops over relocations: the pointers that were made, and the bytes so far.
use Rattle.std.proofs.Common.{◌≡◌, ◌<◌, ℕ, suc, ◌+◌, ◌*◌, ◌%◌, ◌^◌, Bool, true, false, List, [], ◌∷◌, length, drop, get_or, refl, sym}
use Rattle.std.proofs.Common.{ap, ap₂, subst, ◌∙◌, arith, add-one, drop-cons, w64}
use Rattle.std.specs.Prelude.{IsTrue}
use Rattle.std.specs.Int.{cast_unsigned}
use Rattle.mt_base.specs.Granules.{granule_of}
use Rattle.mt_base.specs.Memory.{Span, Extent, is_mapped, load, store}
use Rattle.mt_base.specs.Wrapping.{wrapping_add}
use Rattle.tag_mem.specs.declared.access.TagMemory.{Ghosts}
use Rattle.elf_image.specs.declared.parts.RelativeReloc.{RelativeReloc}
use Rattle.tag_startup.specs.Memory.{CanBeRelocated, IsStored, stored}
use Rattle.tag_startup.specs.Parts.{load_address}
use Rattle.tag_startup.specs.Relocated.{Before, pointer, tag_there, tagged_address, target}

-- ---- one pointer

add_low : (x y : ℕ) → (x + y % 2 ^ 64) % 2 ^ 64 ≡ (x + y) % 2 ^ 64
add_low x y = omega arith

target_alone : (x : ℕ) → x % 2 ^ 64 ≡ (x % 2 ^ 64 + 0 * 2 ^ 56) % 2 ^ 64
target_alone x = omega arith

with_that_tag : (memory : Before) (r : RelativeReloc) (t : ℕ) → tag_there memory (tagged_address memory r) ≡ t →
    (target r + t * 2 ^ 56 % 2 ^ 64) % 2 ^ 64 ≡ pointer memory r
unfolding pointer
with_that_tag memory r t is = add_low (target r) (t * 2 ^ 56) ∙ ap (λ u. wrapping_add 64 (target r) (u * 2 ^ 56)) (sym is)

without_tag : (memory : Before) (r : RelativeReloc) → tag_there memory (tagged_address memory r) ≡ 0 → target r ≡ pointer memory r
unfolding pointer
without_tag memory r is =
    target_alone (load_address + cast_unsigned w64 r.addend) ∙ ap (λ u. wrapping_add 64 (target r) (u * 2 ^ 56)) (sym is)

-- where its tag is looked up, by the numbers that the code has
looked_up : (memory : Before) (r : RelativeReloc) (v n : ℕ) → v ≡ target r →
    n ≡ load 8 memory.byte (load_address + r.place) → (v + n) % 2 ^ 64 ≡ tagged_address memory r
looked_up memory r v n place content = ap₂ (λ a b. (a + b) % 2 ^ 64) place content

tag_where_mapped : (memory : Before) (at : ℕ) → is_mapped memory.regions at ≡ true → tag_there memory at ≡ memory.tag (granule_of at)
tag_where_mapped memory at mapped = rw mapped refl

no_tag_elsewhere : (memory : Before) (at : ℕ) → is_mapped memory.regions at ≡ false → tag_there memory at ≡ 0
no_tag_elsewhere memory at none = rw none refl

pub tagged_pointer : (memory : Before) (r : RelativeReloc) (v n t : ℕ) → v ≡ target r →
    n ≡ load 8 memory.byte (load_address + r.place) → is_mapped memory.regions ((v + n) % 2 ^ 64) ≡ true →
    t ≡ memory.tag (granule_of ((v + n) % 2 ^ 64)) → (v + t * 2 ^ 56 % 2 ^ 64) % 2 ^ 64 ≡ pointer memory r
tagged_pointer memory r v n t place content mapped tag =
    ap (λ a. (a + t * 2 ^ 56 % 2 ^ 64) % 2 ^ 64) place
    ∙ with_that_tag memory r t (ap (tag_there memory) (sym (looked_up memory r v n place content))
    ∙ tag_where_mapped memory ((v + n) % 2 ^ 64) mapped ∙ sym tag)

pub untagged_pointer : (memory : Before) (r : RelativeReloc) (v n : ℕ) → v ≡ target r →
    n ≡ load 8 memory.byte (load_address + r.place) → is_mapped memory.regions ((v + n) % 2 ^ 64) ≡ false → v ≡ pointer memory r
untagged_pointer memory r v n place content none =
    place
    ∙ without_tag memory r (ap (tag_there memory) (sym (looked_up memory r v n place content))
    ∙ no_tag_elsewhere memory ((v + n) % 2 ^ 64) none)

-- a test that does not hold
pub is_false : (test : Bool) → (IsTrue test → false ≡ true) → test ≡ false
is_false true holds = let same : false ≡ true = holds refl in absurd (cc)
is_false false holds = refl

-- ---- all of them

-- the pointers that are left, put on what memory has, are all of them put on what it had
pub record StillStores {M : Type 0} (shown : Ghosts M) (old now : M) (relocs left : List RelativeReloc)
    (pointers rest : List ℕ) : Type 0 where
  pub byte : stored (shown.byte now) left rest ≡ stored (shown.byte old) relocs pointers
  pub tags : shown.tags now ≡ shown.tags old
  pub regions : shown.regions now ≡ shown.regions old
  pub guard : shown.guard now ≡ shown.guard old

next_pointer : {M : Type 0} (shown : Ghosts M) (old now next : M) (relocs left : List RelativeReloc) (pointers rest : List ℕ)
    (r : RelativeReloc) (p : ℕ) → StillStores shown old now relocs (r ∷ left) pointers (p ∷ rest) →
    IsStored shown now next (store 8 (shown.byte now) (load_address + r.place) p) → StillStores shown old next relocs left pointers rest
unfolding stored
next_pointer shown old now next relocs left pointers rest r p so_far is = record {
  byte = ap (λ byte. stored byte left rest) is.byte ∙ so_far.byte;
  tags = is.tags ∙ so_far.tags;
  regions = is.regions ∙ so_far.regions;
  guard = is.guard ∙ so_far.guard;
}

pub pointer_stored : {M : Type 0} (shown : Ghosts M) (old now next : M) (relocs : List RelativeReloc) (pointers : List ℕ) (k : ℕ)
    (d : RelativeReloc) → length pointers ≡ length relocs → k < length relocs →
    StillStores shown old now relocs (drop k relocs) pointers (drop k pointers) →
    IsStored shown now next (store 8 (shown.byte now) (load_address + (get_or relocs k d).place) (get_or pointers k 0)) →
    StillStores shown old next relocs (drop (k + 1) relocs) pointers (drop (k + 1) pointers)
pointer_stored shown old now next relocs pointers k d same inside so_far is =
    subst (λ n. StillStores shown old next relocs (drop n relocs) pointers (drop n pointers)) (sym (add-one k))
    (next_pointer shown old now next relocs (drop (suc k) relocs) pointers (drop (suc k) pointers) (get_or relocs k d) (get_or pointers k 0)
    (subst (λ rs. StillStores shown old now relocs rs pointers (get_or pointers k 0 ∷ drop (suc k) pointers)) (drop-cons relocs k d inside)
    (subst (λ ps. StillStores shown old now relocs (drop k relocs) pointers ps)
    (drop-cons pointers k 0 (omega (arith, same, inside))) so_far)) is)

pub pointers_put : {M : Type 0} (shown : Ghosts M) (old now : M) (relocs left : List RelativeReloc) (pointers rest : List ℕ) → left ≡ [] →
    StillStores shown old now relocs left pointers rest → IsStored shown old now (stored (shown.byte old) relocs pointers)
unfolding stored
pointers_put shown old now relocs left pointers rest none so_far = record {
  byte = ap (λ rs. stored (shown.byte now) rs rest) (sym none) ∙ so_far.byte;
  tags = so_far.tags;
  regions = so_far.regions;
  guard = so_far.guard;
}

-- what can be relocated can be where memory is the same
pub relocatable : (regions other : List Extent) (guard second : Span) (r : RelativeReloc) → other ≡ regions → second ≡ guard →
    CanBeRelocated regions guard r → CanBeRelocated other second r
relocatable regions other guard second r same alike can =
    subst (λ g. CanBeRelocated other g r) (sym alike) (subst (λ e. CanBeRelocated e guard r) (sym same) can)
