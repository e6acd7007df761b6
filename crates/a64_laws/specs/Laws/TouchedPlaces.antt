-- The places that an instruction which passes the test may change: registers, and bytes and tags at SP (this project's own).
use Rattle.std.specs.Prelude.{◌≡◌, ℕ, ◌+◌, ◌*◌, ◌/◌, ◌%◌, ◌^◌, ◌≤◌, ◌==◌, Bool, true, false, not, ◌&&◌, ◌||◌, nat_lt}
use Rattle.std.specs.Prelude.{if◌then◌else◌, refl}
use Rattle.std.proofs.Common.{arith, sym, ◌∙◌, subst, inl, inr, true≢false}
use Rattle.std.proofs.lemmas.Bool.{cases_eq, ne_eqb, leb-true}
use Rattle.std.proofs.lemmas.Bool.Decides.{nat_tests}
use Rattle.mt_base.specs.Granules.{granule_of}
use Rattle.mt_base.specs.Memory.{is_between}
use Rattle.mt_base.specs.Extension.{sign_extend}
use Rattle.mt_base.specs.Pointers.{address_of}
use Rattle.a64_code.specs.declared.instr.Reg.{Reg}
use Rattle.a64_code.specs.State.{State, is_sp}
use Rattle.a64_code.specs.Shape.{Result}
use Rattle.a64_laws.specs.Touches.{Touch, result_within, store_within, tags_within, reach_from}

pub first_true : (a b : Bool) → (a && b) ≡ true → a ≡ true
first_true true b h = refl
first_true false b h = h

pub second_true : (a b : Bool) → (a && b) ≡ true → b ≡ true
second_true true b h = h
second_true false b h = absurd (true≢false (sym h))

-- ---- registers

pub register_within : (touch : Touch) (r : Reg) (sp : ℕ) (n : ℕ) → (nat_lt r.0 31 ≡ true → touch.registers r.0 ≡ true) →
    (reach_from touch sp).registers n ≡ false → (n == r.0) ≡ false
register_within touch r sp n within outside = elim (cases_eq n r.0) [
  | inl same ↦ absurd (by_small (nat_lt r.0 31) refl (subst (λ (k : ℕ). (touch.registers k || not (nat_lt k 31)) ≡ false) same outside))
  | inr other ↦ ne_eqb n r.0 other
]
  where
    by_small : (small : Bool) → nat_lt r.0 31 ≡ small → (touch.registers r.0 || not (nat_lt r.0 31)) ≡ false → ⊥
    by_small true is none = true≢false (let e : true ≡ false = rw (within is) at none in e)
    by_small false is none = by_touch (touch.registers r.0) (rw is at none)
      where
        by_touch : (touched : Bool) → (touched || true) ≡ false → ⊥
        by_touch true h = true≢false h
        by_touch false h = true≢false h

pub result_register : (touch : Touch) (r : Result) → result_within touch r ≡ true → nat_lt r.register.0 31 ≡ true →
    touch.registers r.register.0 ≡ true
result_register touch r within small = rw small at within

pub result_sp : (touch : Touch) (r : Result) → result_within touch r ≡ true → touch.sp ≡ false → is_sp r.takes_sp r.register ≡ false
result_sp touch r within none = by_number r.takes_sp (nat_lt r.register.0 31) within
  where
    by_number : (takes small : Bool) → (if small then touch.registers r.register.0 else if takes then touch.sp else true) ≡ true →
        (takes && not small) ≡ false
    by_number true true h = refl
    by_number true false h = absurd (true≢false (sym h ∙ none))
    by_number false small h = refl

pub neither : (a b : Bool) → a ≡ false → b ≡ false → (a || b) ≡ false
neither a b none none_too = rw (none, none_too) refl

-- ---- bytes

-- a store among the bytes from an address on
pub record StoresWithin (touch : Touch) (sp count pointer : ℕ) : Type 0 where
  pub kept : touch.sp ≡ false
  pub from : sp ≤ address_of pointer
  pub to : address_of pointer + count ≤ sp + touch.frame

not_true : (b : Bool) → not b ≡ true → b ≡ false
not_true true h = sym h
not_true false h = refl

pub store_bytes : (touch : Touch) (sp count pointer a : ℕ) → StoresWithin touch sp count pointer → (reach_from touch sp).bytes a ≡ false →
    is_between (address_of pointer) count a ≡ false
store_bytes touch sp count pointer a stores outside = apart (rw stores.kept at outside)
  where
    from : sp ≤ address_of pointer
    from = stores.from

    to : address_of pointer + count ≤ sp + touch.frame
    to = stores.to

    apart : is_between sp touch.frame a ≡ false → is_between (address_of pointer) count a ≡ false
    apart none = grind (arith, nat_tests)

base_address : (sp offset count frame : ℕ) → 1 ≤ count → sp + frame ≤ 2 ^ 56 → offset % 2 ^ 64 + count ≤ frame →
    address_of ((sp + offset) % 2 ^ 64) ≡ sp + offset % 2 ^ 64
base_address sp offset count frame some below fits = omega (arith, some, below, fits)

-- a store that passes the test where SP is 0, in a state with another SP
pub store_moved : (touch : Touch) (sp count offset : ℕ) (u : State) (rn : Reg) → 1 ≤ count → (touch.sp ≡ false → u.sp ≡ sp) →
    sp + touch.frame ≤ 2 ^ 56 →
    store_within touch count (((if nat_lt rn.0 31 then u.register rn.0 else 0) + offset) % 2 ^ 64) (not (not (nat_lt rn.0 31))) ≡ true →
    StoresWithin touch sp count (((if nat_lt rn.0 31 then u.register rn.0 else u.sp) + offset) % 2 ^ 64)
store_moved touch sp count offset u rn some same below within = by_base (nat_lt rn.0 31) within
  where
    by_base : (small : Bool) →
        store_within touch count (((if small then u.register rn.0 else 0) + offset) % 2 ^ 64) (not (not small)) ≡ true →
        StoresWithin touch sp count (((if small then u.register rn.0 else u.sp) + offset) % 2 ^ 64)
    by_base true h = absurd (true≢false (sym h))
    by_base false h =
        let kept : touch.sp ≡ false = not_true touch.sp (first_true (not touch.sp) _ h) in
        let fits_zero : (0 + offset) % 2 ^ 64 + count ≤ touch.frame =
        leb-true ((0 + offset) % 2 ^ 64 + count) touch.frame (second_true (not touch.sp) _ h) in
        let fits : offset % 2 ^ 64 + count ≤ touch.frame = omega (arith, fits_zero) in
        let place : address_of ((sp + offset) % 2 ^ 64) ≡ sp + offset % 2 ^ 64 =
        base_address sp offset count touch.frame some below fits in
        subst (λ (p : ℕ). StoresWithin touch sp count ((p + offset) % 2 ^ 64)) (sym (same kept))
        (record { kept = kept; from = omega (arith, place); to = omega (arith, place, fits) })

-- ---- tags

-- a store of the tags of so many granules of these bytes
pub record TagsWithin (touch : Touch) (sp count pointer : ℕ) : Type 0 where
  pub may : touch.tags ≡ true
  pub bytes : StoresWithin touch sp (16 * count) pointer
  pub from : granule_of sp ≤ granule_of (address_of pointer)
  pub to : granule_of (address_of pointer) + count ≤ granule_of sp + (touch.frame + 15) / 16

pub store_tags : (touch : Touch) (sp count pointer g : ℕ) → TagsWithin touch sp count pointer → (reach_from touch sp).tags g ≡ false →
    is_between (granule_of (address_of pointer)) count g ≡ false
store_tags touch sp count pointer g stores outside = apart (rw (stores.may, stores.bytes.kept) at outside)
  where
    from : granule_of sp ≤ granule_of (address_of pointer)
    from = stores.from

    to : granule_of (address_of pointer) + count ≤ granule_of sp + (touch.frame + 15) / 16
    to = stores.to

    apart : is_between (granule_of sp) ((touch.frame + 15) / 16) g ≡ false → is_between (granule_of (address_of pointer)) count g ≡ false
    apart none = grind (arith, nat_tests)

-- one that passes the test where SP is 0, in a state with another SP
pub tags_moved : (touch : Touch) (sp count simm9 : ℕ) (u : State) (rn : Reg) → 1 ≤ count → (touch.sp ≡ false → u.sp ≡ sp) →
    sp + touch.frame ≤ 2 ^ 56 →
    (not (nat_lt rn.0 31) && tags_within touch count (((if nat_lt rn.0 31 then u.register rn.0 else 0) + 16 * sign_extend 9 64 simm9) % 2 ^
    64)) ≡ true →
    TagsWithin touch sp count (((if nat_lt rn.0 31 then u.register rn.0 else u.sp) + 16 * sign_extend 9 64 simm9) % 2 ^ 64)
tags_moved touch sp count simm9 u rn some same below within = by_base (nat_lt rn.0 31) within
  where
    offset : ℕ
    offset = 16 * sign_extend 9 64 simm9

    by_base : (small : Bool) →
        (not small && tags_within touch count (((if small then u.register rn.0 else 0) + offset) % 2 ^ 64)) ≡ true →
        TagsWithin touch sp count (((if small then u.register rn.0 else u.sp) + offset) % 2 ^ 64)
    by_base true h = absurd (true≢false (sym h))
    by_base false h =
        let can : (touch.tags && not touch.sp) ≡ true = first_true (touch.tags && not touch.sp) _ h in
        let kept : touch.sp ≡ false = not_true touch.sp (second_true touch.tags (not touch.sp) can) in
        let fits_zero : (0 + offset) % 2 ^ 64 + 16 * count ≤ touch.frame =
        leb-true ((0 + offset) % 2 ^ 64 + 16 * count) touch.frame (second_true (touch.tags && not touch.sp) _ h) in
        let fits : offset % 2 ^ 64 + 16 * count ≤ touch.frame = omega (arith, fits_zero) in
        let place : address_of ((sp + offset) % 2 ^ 64) ≡ sp + offset % 2 ^ 64 =
        base_address sp offset (16 * count) touch.frame (omega (arith, some)) below fits in
        subst (λ (p : ℕ). TagsWithin touch sp count ((p + offset) % 2 ^ 64)) (sym (same kept))
        (record {
          may = first_true touch.tags (not touch.sp) can;
          bytes = record { kept = kept; from = omega (arith, place); to = omega (arith, place, fits) };
          from = omega (arith, place);
          to = omega (arith, place, fits);
        })
