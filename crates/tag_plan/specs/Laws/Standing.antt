-- Where the tagged slots of a well-formed frame stand: on whole granules, each after the one before (this project's own).
use Rattle.std.specs.Prelude.{◌≡◌, ◌≢◌, ℕ, zero, suc, ◌+◌, ◌*◌, ◌/◌, ◌%◌, ◌<◌, ◌≤◌, Bool, true, false, if◌then◌else◌, List, [], ◌∷◌, ◌++◌}
use Rattle.std.specs.Prelude.{length, slice_get, Some, take, drop, refl}
use Rattle.std.specs.List.{filter}
use Rattle.std.proofs.Common.{arith, ap, sym, ◌∙◌, subst, inl, inr}
use Rattle.std.proofs.lemmas.Bool.Decides.{nat_tests}
use Rattle.mt_base.specs.Granules.{granule_of}
use Rattle.mt_base.specs.Memory.{is_between}
use Rattle.mt_base.specs.Tags.{next_tag, zero_excluded}
use Rattle.slot_safety.specs.declared.kind.Kind.{Kind}
use Rattle.slot_safety.specs.declared.kind.Kind.TheVariants.{Safe, Tagged}
use Rattle.a64_code.specs.State.{tagged}
use Rattle.a64_laws.specs.Laws.Effects.Stores.{tagged_inside, tagged_outside}
use Rattle.frame_layout.specs.declared.frame.Slot.{Slot}
use Rattle.frame_layout.specs.WellFormed.{of_kind, is_tagged_slot, tagged_slots, Fill, IsTaggedWell}
use Rattle.tag_plan.specs.Effects.{with_slot, with_slots, has_granule, NoneHas, HaveSlotTags, HaveNoTags}
use Rattle.tag_plan.specs.Lists.{bytes_of}
use Rattle.tag_plan.specs.Laws.Several.{AreIn}
use Rattle.tag_plan.specs.Laws.Slots.{IsIn}

-- ---- slots one after another

-- some whole granules
pub record IsWhole (s : Slot) : Type 0 where
  pub start : s.start % 16 ≡ 0
  pub bytes : s.bytes % 16 ≡ 0
  pub some : 1 ≤ s.bytes

-- each starts where the one before ends or later; all of them stand between two places
abbrev pub Rising : ℕ → List Slot → ℕ → Type 0
Rising from [] to = from ≤ to
Rising from (s ∷ ss) to = (from ≤ s.start) × IsWhole s × Rising (s.start + s.bytes) ss to

pub rising-reaches : (from : ℕ) (ss : List Slot) (to : ℕ) → Rising from ss to → from ≤ to
rising-reaches from [] to rising = rising
rising-reaches from (s ∷ ss) to rising = omega (arith, rising.0, rising-reaches (s.start + s.bytes) ss to rising.2)

pub rising-lower : (lower from : ℕ) (ss : List Slot) (to : ℕ) → lower ≤ from → Rising from ss to → Rising lower ss to
rising-lower lower from [] to less rising = omega (arith, less, rising)
rising-lower lower from (s ∷ ss) to less rising = (omega (arith, less, rising.0), rising.1, rising.2)

pub rising-in : (bytes from : ℕ) (ss : List Slot) (to : ℕ) → to ≤ bytes → Rising from ss to → AreIn bytes ss
rising-in bytes from [] to within rising = tt
rising-in bytes from (s ∷ ss) to within rising = (
  record {
    start = rising.1.start;
    whole = rising.1.bytes;
    some = rising.1.some;
    within = omega (arith, within, rising-reaches (s.start + s.bytes) ss to rising.2);
  },
  rising-in bytes (s.start + s.bytes) ss to within rising.2,
)

-- some of them
filter_step : (p : Slot → Bool) (b : Bool) (from : ℕ) (s : Slot) (ss : List Slot) (to : ℕ) → from ≤ s.start → IsWhole s →
    Rising (s.start + s.bytes) (filter p ss) to → Rising from (if b then s ∷ filter p ss else filter p ss) to
filter_step p true from s ss to after whole rising = (after, whole, rising)
filter_step p false from s ss to after whole rising =
    rising-lower from (s.start + s.bytes) (filter p ss) to (omega (arith, after)) rising

pub rising-filter : (p : Slot → Bool) (from : ℕ) (ss : List Slot) (to : ℕ) → Rising from ss to → Rising from (filter p ss) to
rising-filter p from [] to rising = rising
rising-filter p from (s ∷ ss) to rising =
    filter_step p (p s) from s ss to rising.0 rising.1 (rising-filter p (s.start + s.bytes) ss to rising.2)

-- ---- their tags

-- a granule before all of them is of none
pub before-none : (sp granule from : ℕ) (ss : List Slot) (to : ℕ) → sp % 16 ≡ 0 → 16 * granule < sp + from → Rising from ss to →
    NoneHas sp ss granule
before-none sp granule from [] to aligned before rising = tt
before-none sp granule from (s ∷ ss) to aligned before rising = (
  grind (arith, nat_tests, rising.0, rising.1.start, aligned, before),
  before-none sp granule (s.start + s.bytes) ss to aligned (omega (arith, rising.0, before)) rising.2,
)

pub with_slots-outside : (sp base_tag granule : ℕ) (ss : List Slot) (tags : ℕ → ℕ) → NoneHas sp ss granule →
    with_slots sp base_tag ss tags granule ≡ tags granule
with_slots-outside sp base_tag granule [] tags none = refl
with_slots-outside sp base_tag granule (s ∷ ss) tags none =
    with_slots-outside sp base_tag granule ss (with_slot sp base_tag s tags) none.1
    ∙ tagged_outside (s.bytes / 16) tags (sp + s.start) (next_tag base_tag s.index zero_excluded) granule none.0

-- the granules of a slot lie before those of the slots after it
inside_before : (sp granule : ℕ) (s : Slot) → sp % 16 ≡ 0 → IsWhole s → has_granule sp s granule ≡ true →
    16 * granule < sp + (s.start + s.bytes)
inside_before sp granule s aligned whole inside = grind (arith, nat_tests, whole.start, whole.bytes, aligned, inside)

pub with_slots-inside : (sp base_tag granule from : ℕ) (ss : List Slot) (to k : ℕ) (s : Slot) (tags : ℕ → ℕ) → sp % 16 ≡ 0 →
    Rising from ss to → slice_get ss k ≡ Some s → has_granule sp s granule ≡ true →
    with_slots sp base_tag ss tags granule ≡ next_tag base_tag s.index zero_excluded
with_slots-inside sp base_tag granule from [] to k s tags aligned rising is inside = absurd (cc)
with_slots-inside sp base_tag granule from (x ∷ ss) to zero s tags aligned rising is inside =
    let same : x ≡ s = cc in
    let here : has_granule sp x granule ≡ true = ap (λ x. has_granule sp x granule) same ∙ inside in
    with_slots-outside sp base_tag granule ss (with_slot sp base_tag x tags)
    (before-none sp granule (x.start + x.bytes) ss to aligned (inside_before sp granule x aligned rising.1 here) rising.2)
    ∙ tagged_inside (x.bytes / 16) tags (sp + x.start) (next_tag base_tag x.index zero_excluded) granule here
    ∙ ap (λ x. next_tag base_tag x.index zero_excluded) same
with_slots-inside sp base_tag granule from (x ∷ ss) to (suc k) s tags aligned rising is inside =
    with_slots-inside sp base_tag granule (x.start + x.bytes) ss to k s (with_slot sp base_tag x tags) aligned rising.2 is inside

pub have_slot_tags : (sp base_tag from : ℕ) (ss : List Slot) (to : ℕ) (tags : ℕ → ℕ) → sp % 16 ≡ 0 → Rising from ss to →
    HaveSlotTags sp base_tag ss tags (with_slots sp base_tag ss tags)
have_slot_tags sp base_tag from ss to tags aligned rising = record {
  inside = λ k s granule is inside. with_slots-inside sp base_tag granule from ss to k s tags aligned rising is inside;
  outside = λ granule none. with_slots-outside sp base_tag granule ss tags none;
}

-- ---- slots without gaps between

abbrev pub AreWell : List Slot → Type 0
AreWell [] = Unit {0}
AreWell (s ∷ ss) = IsTaggedWell s × AreWell ss

pub fill-rising : (from : ℕ) (ss : List Slot) (to : ℕ) → from % 16 ≡ 0 → AreWell ss → Fill from ss to → Rising from ss to
fill-rising from [] to whole well filled = omega (arith, filled)
fill-rising from (s ∷ ss) to whole well filled = (
  omega (arith, filled.0),
  record { start = omega (arith, filled.0, whole); bytes = well.0.whole; some = well.0.some },
  subst (λ place. Rising (place + s.bytes) ss to) (sym filled.0)
      (fill-rising (from + s.bytes) ss to (omega (arith, whole, well.0.whole)) well.1 filled.1),
)

pub fill-bytes : (from : ℕ) (ss : List Slot) (to : ℕ) → Fill from ss to → to ≡ from + bytes_of ss
fill-bytes from [] to filled = omega (arith, filled)
fill-bytes from (s ∷ ss) to filled = omega (arith, fill-bytes (from + s.bytes) ss to filled.1)

pub bytes_of-whole : (ss : List Slot) → AreWell ss → bytes_of ss % 16 ≡ 0
bytes_of-whole [] well = refl
bytes_of-whole (s ∷ ss) well = omega (arith, well.0.whole, bytes_of-whole ss well.1)

-- a list in two parts
pub fill-split : (from : ℕ) (xs ys : List Slot) (to : ℕ) → Fill from (xs ++ ys) to →
    (middle : ℕ) × Fill from xs middle × Fill middle ys to
fill-split from [] ys to filled = (from, refl, filled)
fill-split from (x ∷ xs) ys to filled =
    let rest = fill-split (from + x.bytes) xs ys to filled.1 in
    (rest.0, (filled.0, rest.1), rest.2)

pub well-split : (xs ys : List Slot) → AreWell (xs ++ ys) → AreWell xs × AreWell ys
well-split [] ys well = (tt, well)
well-split (x ∷ xs) ys well = let rest = well-split xs ys well.1 in ((well.0, rest.0), rest.1)

-- ---- the tagged ones among slots

tagged_step : (s : Slot) (kind : Kind) (ss : List Slot) → s.kind ≡ kind → (s.kind ≡ Tagged → IsTaggedWell s) → AreWell (tagged_slots ss) →
    AreWell (if of_kind kind then s ∷ tagged_slots ss else tagged_slots ss)
tagged_step s Safe ss is well rest = rest
tagged_step s Tagged ss is well rest = (well is, rest)

pub tagged_well : (ss : List Slot) → ((k : ℕ) (s : Slot) → slice_get ss k ≡ Some s → s.kind ≡ Tagged → IsTaggedWell s) →
    AreWell (tagged_slots ss)
tagged_well [] each = tt
tagged_well (s ∷ ss) each =
    tagged_step s s.kind ss refl (each 0 s refl) (tagged_well ss (λ k x is. each (suc k) x is))

append_step : (s : Slot) (b : Bool) (xs ys zs : List Slot) → xs ≡ ys ++ zs →
    (if b then s ∷ xs else xs) ≡ (if b then s ∷ ys else ys) ++ zs
append_step s true xs ys zs same = ap (λ xs. s ∷ xs) same
append_step s false xs ys zs same = same

pub tagged_slots-append : (xs ys : List Slot) → tagged_slots (xs ++ ys) ≡ tagged_slots xs ++ tagged_slots ys
tagged_slots-append [] ys = refl
tagged_slots-append (x ∷ xs) ys =
    append_step x (is_tagged_slot x) (tagged_slots (xs ++ ys)) (tagged_slots xs) (tagged_slots ys) (tagged_slots-append xs ys)
