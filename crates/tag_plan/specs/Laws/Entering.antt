-- What the list that enters a scope does in a well-formed frame (this project's own).
use Rattle.std.specs.Prelude.{◌≡◌, ℕ, zero, suc, ◌+◌, ◌*◌, ◌^◌, ◌<◌, ◌≤◌, Bool, true, false, if◌then◌else◌, List, [], ◌∷◌, length}
use Rattle.std.specs.Prelude.{slice_get, Some, refl}
use Rattle.std.proofs.Common.{arith, ap, sym, ◌∙◌, subst}
use Rattle.mt_base.specs.Pointers.{tag_of}
use Rattle.slot_safety.specs.declared.kind.Kind.{Kind}
use Rattle.slot_safety.specs.declared.kind.Kind.TheVariants.{Safe, Tagged}
use Rattle.a64_code.specs.State.{State}
use Rattle.frame_layout.specs.declared.frame.Frame.{Frame}
use Rattle.frame_layout.specs.declared.frame.Slot.{Slot}
use Rattle.frame_layout.specs.WellFormed.{of_kind, tagged_slots, Fill, IsWellFormed}
use Rattle.tag_plan.specs.Effects.{IsFrame, Does, TagsSlots, HaveSlotTags, granules, with_slots, IsTaggedAt, AreNumbers}
use Rattle.tag_plan.specs.Lists.{enter_list, listed, and_slot, tagged_base}
use Rattle.tag_plan.specs.Laws.Frames.{does_within, frame-rising}
use Rattle.tag_plan.specs.Laws.Several.{slots_done}
use Rattle.tag_plan.specs.Laws.Standing.{Rising, IsWhole, rising-in, have_slot_tags}

-- ---- where tagged slots of given numbers stand

-- a tagged slot among those that fill a stretch
pub record IsAmong (from : ℕ) (s : Slot) (to : ℕ) : Type 0 where
  pub after : from ≤ s.start
  pub before : s.start + s.bytes ≤ to

fill_reaches : (from : ℕ) (ss : List Slot) (to : ℕ) → Fill from ss to → from ≤ to
fill_reaches from [] to filled = omega (arith, filled)
fill_reaches from (s ∷ ss) to filled = omega (arith, fill_reaches (from + s.bytes) ss to filled.1)

-- what the first of some slots takes of the stretch
rest_filled : (from : ℕ) (s : Slot) (kind : Kind) (ss : List Slot) (to : ℕ) →
    Fill from (if of_kind kind then s ∷ tagged_slots ss else tagged_slots ss) to →
    (place : ℕ) × (from ≤ place) × Fill place (tagged_slots ss) to
rest_filled from s Safe ss to filled = (from, omega arith, filled)
rest_filled from s Tagged ss to filled = (from + s.bytes, omega arith, filled.1)

first_filled : (from : ℕ) (s : Slot) (kind : Kind) (ss : List Slot) (to : ℕ) → kind ≡ Tagged →
    Fill from (if of_kind kind then s ∷ tagged_slots ss else tagged_slots ss) to →
    (s.start ≡ from) × Fill (s.start + s.bytes) (tagged_slots ss) to
first_filled from s Safe ss to is filled = absurd (cc)
first_filled from s Tagged ss to is filled =
    (filled.0, subst (λ place. Fill (place + s.bytes) (tagged_slots ss) to) (sym filled.0) filled.1)

pub is_among : (from : ℕ) (ss : List Slot) (to k : ℕ) (s : Slot) → Fill from (tagged_slots ss) to → slice_get ss k ≡ Some s →
    s.kind ≡ Tagged → IsAmong from s to
is_among from [] to k s filled is tag = absurd (cc)
is_among from (x ∷ ss) to zero s filled is tag =
    let same : x ≡ s = cc in
    let first = first_filled from x x.kind ss to (ap (λ x. x.kind) same ∙ tag) filled in
    let end = fill_reaches (x.start + x.bytes) (tagged_slots ss) to first.1 in
    subst (λ s. IsAmong from s to) same (record { after = omega (arith, first.0); before = end })
is_among from (x ∷ ss) to (suc k) s filled is tag =
    let rest = rest_filled from x x.kind ss to filled in
    let there = is_among rest.0 ss to k s rest.2 is tag in
    record { after = omega (arith, rest.1, there.after); before = there.before }

-- a slot of a larger number starts where the other ends, or later
in_order : (from : ℕ) (ss : List Slot) (to j k : ℕ) (s t : Slot) → Fill from (tagged_slots ss) to → j < k →
    slice_get ss j ≡ Some s → slice_get ss k ≡ Some t → s.kind ≡ Tagged → t.kind ≡ Tagged → s.start + s.bytes ≤ t.start
in_order from [] to j k s t filled less first second tag tag_too = absurd (cc)
in_order from (x ∷ ss) to j zero s t filled less first second tag tag_too = absurd (omega (arith, less))
in_order from (x ∷ ss) to zero (suc k) s t filled less first second tag tag_too =
    let same : x ≡ s = cc in
    let here = first_filled from x x.kind ss to (ap (λ x. x.kind) same ∙ tag) filled in
    subst (λ s. s.start + s.bytes ≤ t.start) same
    (is_among (x.start + x.bytes) ss to k t here.1 second tag_too).after
in_order from (x ∷ ss) to (suc j) (suc k) s t filled less first second tag tag_too =
    let rest = rest_filled from x x.kind ss to filled in
    in_order rest.0 ss to j k s t rest.2 (omega (arith, less)) first second tag tag_too

-- ---- slots of rising numbers rise

rising_step : (from : ℕ) (s : Slot) (kind : Kind) (ss : List Slot) (to : ℕ) →
    Rising from (if of_kind kind then s ∷ tagged_slots ss else tagged_slots ss) to → (place : ℕ) × Rising place (tagged_slots ss) to
rising_step from s Safe ss to rising = (from, rising)
rising_step from s Tagged ss to rising = (s.start + s.bytes, rising.2)

rising_here : (from : ℕ) (s : Slot) (kind : Kind) (ss : List Slot) (to : ℕ) → kind ≡ Tagged →
    Rising from (if of_kind kind then s ∷ tagged_slots ss else tagged_slots ss) to → IsWhole s
rising_here from s Safe ss to is rising = absurd (cc)
rising_here from s Tagged ss to is rising = rising.1

rising_at : (from : ℕ) (ss : List Slot) (to k : ℕ) (s : Slot) → Rising from (tagged_slots ss) to → slice_get ss k ≡ Some s →
    s.kind ≡ Tagged → IsWhole s
rising_at from [] to k s rising is tag = absurd (cc)
rising_at from (x ∷ ss) to zero s rising is tag =
    let same : x ≡ s = cc in
    subst IsWhole same (rising_here from x x.kind ss to (ap (λ x. x.kind) same ∙ tag) rising)
rising_at from (x ∷ ss) to (suc k) s rising is tag =
    let rest = rising_step from x x.kind ss to rising in
    rising_at rest.0 ss to k s rest.1 is tag

-- a place that no slot from a number on starts before
abbrev StartFrom : List Slot → ℕ → ℕ → Type 0
StartFrom ss number place = (k : ℕ) (s : Slot) → number ≤ k → slice_get ss k ≡ Some s → s.kind ≡ Tagged → place ≤ s.start

listed_rising : (f : Frame) (well : IsWellFormed f) (place number : ℕ) (ks : List ℕ) → StartFrom f.slots number place → place ≤ f.bytes →
    AreNumbers f.slots number ks → Rising place (listed f.slots ks) f.bytes
listed_rising f well place number [] starts within numbers = within
listed_rising f well place number (k ∷ ks) starts within numbers =
    let at = numbers.1 in
    let there = is_among well.first f.slots f.bytes k at.slot well.filled at.is at.tagged in
    subst (λ slot. Rising place (and_slot slot (listed f.slots ks)) f.bytes) (sym at.is) (
      starts k at.slot numbers.0 at.is at.tagged,
      rising_at well.first f.slots f.bytes k at.slot (frame-rising f well) at.is at.tagged,
      listed_rising f well (at.slot.start + at.slot.bytes) (suc k) ks
          (λ j s less is tag. in_order well.first f.slots f.bytes k j at.slot s well.filled (omega (arith, less)) at.is is at.tagged tag)
          there.before numbers.2,
    )

pub numbers-rising : (f : Frame) (well : IsWellFormed f) (number : ℕ) (ks : List ℕ) → AreNumbers f.slots number ks →
    Rising 0 (listed f.slots ks) f.bytes
numbers-rising f well number ks numbers = listed_rising f well 0 number ks (λ k s less is tag. omega arith) (omega arith) numbers

-- ---- entering

-- The slots have the tags that follow X28's, and nothing else is changed, whatever X28 is.
pub enter-does : (f : Frame) (number : ℕ) (ks : List ℕ) (s : State) → IsWellFormed f → AreNumbers f.slots number ks → IsFrame f.bytes s →
    s.pc + 4 * (12 * length (listed f.slots ks) + 24) < 2 ^ 64 →
    Does (enter_list f ks) (4 * granules (listed f.slots ks) + 24) (TagsSlots (listed f.slots ks)) s
enter-does f number ks s well numbers frame fits =
    does_within (omega arith) (slots_done f.bytes (listed f.slots ks) s frame well.most
    (rising-in f.bytes 0 (listed f.slots ks) f.bytes (omega arith) (numbers-rising f well number ks numbers)) (omega (arith, fits)))

pub entering-tags : (f : Frame) (number : ℕ) (ks : List ℕ) (s t : State) → IsWellFormed f → AreNumbers f.slots number ks →
    IsFrame f.bytes s → TagsSlots (listed f.slots ks) s t →
    HaveSlotTags s.sp (tag_of (s.register tagged_base.0)) (listed f.slots ks) s.tag t.tag
entering-tags f number ks s t well numbers frame left =
    subst (λ tags. HaveSlotTags s.sp (tag_of (s.register tagged_base.0)) (listed f.slots ks) s.tag tags) (sym left.tags)
    (have_slot_tags s.sp (tag_of (s.register tagged_base.0)) 0 (listed f.slots ks) f.bytes s.tag frame.aligned
    (numbers-rising f well number ks numbers))
