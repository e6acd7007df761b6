-- What stores leave, and where they are allowed (this project's own).
use Rattle.std.specs.Prelude.{◌≡◌, ℕ, zero, suc, ◌+◌, ◌-◌, ◌*◌, ◌%◌, true, false, List, length, None, refl}
use Rattle.std.proofs.Common.{arith, ap, sym, ◌∙◌, inl, inr, true≢false}
use Rattle.std.proofs.lemmas.Bool.{cases_Bool, cases_eq}
use Rattle.std.proofs.lemmas.Bool.Decides.{nat_tests}
use Rattle.mt_base.specs.Granules.{granule_of}
use Rattle.mt_base.specs.Memory.{is_between, is_protected, bytes_of, store, store_bytes, store_tag}
use Rattle.mt_base.specs.Laws.Memory.{length-bytes_of, some_byte_from, store_tag_same, store_tag_other}
use Rattle.mt_base.specs.Pointers.{address_of}
use Rattle.a64_code.specs.State.{State, tagged}
use Rattle.a64_code.specs.Access.{Access, tag_store, access_end}
use Rattle.a64_laws.specs.Laws.Effects.Accesses.{access_end-none}

-- bytes elsewhere stay
store_bytes_outside : (byte : ℕ → ℕ) (at : ℕ) (xs : List ℕ) (a : ℕ) → is_between at (length xs) a ≡ false →
    store_bytes byte at xs a ≡ byte a
unfolding store_bytes
store_bytes_outside byte at xs a outside = rw outside refl

pub store_outside : (n : ℕ) (byte : ℕ → ℕ) (at value a : ℕ) → is_between at n a ≡ false → store n byte at value a ≡ byte a
store_outside n byte at value a outside = store_bytes_outside byte at (bytes_of n value) a (rw (length-bytes_of n value) outside)

-- two stores of eight bytes, one behind the other
pub store_pair_outside : (byte : ℕ → ℕ) (at first second a : ℕ) → is_between at 16 a ≡ false →
    store 8 (store 8 byte at first) (at + 8) second a ≡ byte a
store_pair_outside byte at first second a outside =
    store_outside 8 (store 8 byte at first) (at + 8) second a (grind (arith, nat_tests))
    ∙ store_outside 8 byte at first a (grind (arith, nat_tests))

pub tagged_outside : (n : ℕ) (tag : ℕ → ℕ) (at value granule : ℕ) → is_between (granule_of at) n granule ≡ false →
    tagged n tag at value granule ≡ tag granule
tagged_outside zero tag at value granule outside = refl
tagged_outside (suc n) tag at value granule outside =
    tagged_outside n (store_tag tag at value) (at + 16) value granule (grind (arith, nat_tests))
    ∙ store_tag_other tag at value granule (grind (arith, nat_tests))

-- each of the granules has the tag
pub tagged_inside : (n : ℕ) (tag : ℕ → ℕ) (at value granule : ℕ) → is_between (granule_of at) n granule ≡ true →
    tagged n tag at value granule ≡ value
tagged_inside zero tag at value granule inside = absurd (grind (arith, nat_tests))
tagged_inside (suc n) tag at value granule inside = elim (cases_eq granule (granule_of at)) [
  | inl same ↦
      tagged_outside n (store_tag tag at value) (at + 16) value granule (grind (arith, nat_tests))
      ∙ store_tag_same tag at value granule same
  | inr other ↦ tagged_inside n (store_tag tag at value) (at + 16) value granule (grind (arith, nat_tests))
]

-- a byte that a store may write is not in a region that is not writable
pub allowed_unprotected : (s : State) (a : Access) → access_end s a ≡ None → a.writes ≡ true → (at : ℕ) →
    is_protected s.regions at ≡ true → is_between a.start a.bytes at ≡ false
allowed_unprotected s a none writes at protected = elim (cases_Bool (is_between a.start a.bytes at)) [
  | inl inside ↦
      absurd (true≢false
      (sym
      (some_byte_from (is_protected s.regions) a.start a.bytes (at - a.start) (grind (arith, nat_tests))
      (ap (is_protected s.regions) (let e : a.start + (at - a.start) ≡ at = grind (arith, nat_tests) in e) ∙ protected))
      ∙ rw writes at (access_end-none s a none).admitted.writable))
  | inr outside ↦ outside
]

other_granule : (start n at : ℕ) → start % 16 ≡ 0 → is_between start (16 * n) at ≡ false →
    is_between (granule_of start) n (granule_of at) ≡ false
other_granule start n at aligned outside = grind (arith, nat_tests)

-- and neither are the bytes of a granule whose tag it may store
pub allowed_untagged : (s : State) (n pointer : ℕ) → access_end s (tag_store n pointer) ≡ None → (at : ℕ) →
    is_protected s.regions at ≡ true →
    is_between (granule_of (address_of pointer)) n (granule_of at) ≡ false
allowed_untagged s n pointer none at protected =
    let outside = allowed_unprotected s (tag_store n pointer) none refl at protected in
    let aligned : address_of pointer % 16 ≡ 0 = (access_end-none s (tag_store n pointer) none).admitted.aligned in
    other_granule (address_of pointer) n at aligned outside
