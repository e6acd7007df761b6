-- What slots promise, from places on: they stand apart, each on multiples of its alignment, and the tagged ones without gaps.
use Rattle.std.proofs.Common.{◌≡◌, refl, sym, ◌∙◌, ap, subst, ℕ, zero, suc, ◌+◌, ◌%◌, ◌<◌, ◌≤◌, List, [], ◌∷◌, length, take}
use Rattle.std.proofs.Common.{slice_get, Some, arith, lit≤}
use Rattle.std.proofs.Math.Nat.{le_trans}
use Rattle.c_type_base.specs.Layout.{round_up}
use Rattle.c_type_base.specs.Laws.LayoutLaws.{round_up-reaches, round_up-multiple}
use Rattle.slot_safety.specs.declared.kind.Kind.{Kind}
use Rattle.slot_safety.specs.declared.kind.Kind.TheVariants.{Safe, Tagged}
use Rattle.frame_layout.specs.declared.placed.Part.{Part}
use Rattle.frame_layout.specs.declared.frame.Slot.{Slot}
use Rattle.frame_layout.specs.Parts.{ArePositive}
use Rattle.frame_layout.specs.Frames.{safe_step, safe_end, tagged_step, tagged_end, count_step, slot_of, slots_from}
use Rattle.frame_layout.specs.WellFormed.{tagged_slots, Fill, IsTaggedWell}
use Rattle.frame_layout.specs.Laws.PartLaws.{AreSome}

-- ---- where slots end

safe_goes_on : (place : ℕ) (p : Part) (kind : Kind) → 1 ≤ p.align → place ≤ safe_step place p kind
safe_goes_on place p Safe positive =
    let up : place ≤ round_up place p.align = round_up-reaches place p.align positive in
    omega arith
safe_goes_on place p Tagged positive = omega arith

pub safe_reaches : (place : ℕ) (ps : List Part) → ArePositive ps → place ≤ safe_end place ps
safe_reaches place [] positive = omega arith
safe_reaches place (p ∷ ps) positive =
    le_trans (safe_goes_on place p p.kind (positive 0 p refl))
    (safe_reaches (safe_step place p p.kind) ps (λ k q is. positive (suc k) q is))

tagged_goes_on : (place : ℕ) (p : Part) (kind : Kind) → place ≤ tagged_step place p kind
tagged_goes_on place p Safe = omega arith
tagged_goes_on place p Tagged = omega arith

pub tagged_reaches : (place : ℕ) (ps : List Part) → place ≤ tagged_end place ps
tagged_reaches place [] = omega arith
tagged_reaches place (p ∷ ps) = le_trans (tagged_goes_on place p p.kind) (tagged_reaches (tagged_step place p p.kind) ps)

sum_whole : (a b : ℕ) → a % 16 ≡ 0 → b % 16 ≡ 0 → (a + b) % 16 ≡ 0
sum_whole a b first second = omega arith

tagged-step_whole : (place : ℕ) (p : Part) (kind : Kind) → place % 16 ≡ 0 → tagged_step place p kind % 16 ≡ 0
tagged-step_whole place p Safe whole = whole
tagged-step_whole place p Tagged whole = sum_whole place (round_up p.bytes 16) whole (round_up-multiple p.bytes 16)

-- tagged slots end on a granule where they start on one
pub tagged-whole : (place : ℕ) (ps : List Part) → place % 16 ≡ 0 → tagged_end place ps % 16 ≡ 0
tagged-whole place [] whole = whole
tagged-whole place (p ∷ ps) whole = tagged-whole (tagged_step place p p.kind) ps (tagged-step_whole place p p.kind whole)

-- safe slots that end before the first tagged one leave it where it is
safe-before : (safe tagged : ℕ) (p : Part) (ps : List Part) → safe_end safe (p ∷ ps) ≤ tagged →
    safe_end (safe_step safe p p.kind) ps ≤ tagged_step tagged p p.kind
safe-before safe tagged p ps before = le_trans before (tagged_goes_on tagged p p.kind)

-- ---- the tagged slots

fill_step : (safe tagged count to : ℕ) (p : Part) (kind : Kind) (rest : List Slot) →
    Fill (tagged_step tagged p kind) (tagged_slots rest) to → Fill tagged (tagged_slots (slot_of safe tagged count p kind ∷ rest)) to
fill_step safe tagged count to p Safe rest filled = filled
fill_step safe tagged count to p Tagged rest filled = (refl, filled)

-- they stand without gaps
pub slots-fill : (safe tagged count : ℕ) (ps : List Part) →
    Fill tagged (tagged_slots (slots_from safe tagged count ps)) (tagged_end tagged ps)
slots-fill safe tagged count [] = refl
slots-fill safe tagged count (p ∷ ps) =
    fill_step safe tagged count (tagged_end tagged (p ∷ ps)) p p.kind
    (slots_from (safe_step safe p p.kind) (tagged_step tagged p p.kind) (count_step count p.kind) ps)
    (slots-fill (safe_step safe p p.kind) (tagged_step tagged p p.kind) (count_step count p.kind) ps)

below_fifteen : (n : ℕ) → n % 15 < 15
below_fifteen n = omega arith

some_here : (safe tagged count : ℕ) (p : Part) (kind : Kind) → 1 ≤ p.bytes → 1 ≤ (slot_of safe tagged count p kind).bytes
some_here safe tagged count p Safe some = some
some_here safe tagged count p Tagged some = le_trans some (round_up-reaches p.bytes 16 (lit≤ tt))

-- each slot has at least one byte
pub slots-some : (safe tagged count : ℕ) (ps : List Part) → AreSome ps → (k : ℕ) (s : Slot) →
    slice_get (slots_from safe tagged count ps) k ≡ Some s → 1 ≤ s.bytes
slots-some safe tagged count [] some k s is = cc
slots-some safe tagged count (p ∷ ps) some zero s is =
    let same : slot_of safe tagged count p p.kind ≡ s = cc in
    subst (λ s. 1 ≤ s.bytes) same (some_here safe tagged count p p.kind (some 0 p refl))
slots-some safe tagged count (p ∷ ps) some (suc k) s is =
    slots-some (safe_step safe p p.kind) (tagged_step tagged p p.kind) (count_step count p.kind) ps (λ j q at. some (suc j) q at) k s is

tagged_well_here : (safe tagged count : ℕ) (p : Part) (kind : Kind) → 1 ≤ p.bytes → (slot_of safe tagged count p kind).kind ≡ Tagged →
    IsTaggedWell (slot_of safe tagged count p kind)
tagged_well_here safe tagged count p Safe some is = cc
tagged_well_here safe tagged count p Tagged some is = record {
  some = some_here safe tagged count p Tagged some;
  whole = round_up-multiple p.bytes 16;
  index = below_fifteen count;
}

pub tagged-well : (safe tagged count : ℕ) (ps : List Part) → AreSome ps → (k : ℕ) (s : Slot) →
    slice_get (slots_from safe tagged count ps) k ≡ Some s → s.kind ≡ Tagged → IsTaggedWell s
tagged-well safe tagged count [] some k s is tag = cc
tagged-well safe tagged count (p ∷ ps) some zero s is tag =
    let same : slot_of safe tagged count p p.kind ≡ s = cc in
    subst IsTaggedWell same (tagged_well_here safe tagged count p p.kind (some 0 p refl) (ap (λ s. s.kind) same ∙ tag))
tagged-well safe tagged count (p ∷ ps) some (suc k) s is tag =
    tagged-well (safe_step safe p p.kind) (tagged_step tagged p p.kind) (count_step count p.kind) ps
    (λ j q at. some (suc j) q at) k s is tag

-- the index of each tagged slot is the number of those before it, modulo 15
index_here : (safe tagged count : ℕ) (p : Part) (kind : Kind) → (slot_of safe tagged count p kind).kind ≡ Tagged →
    (slot_of safe tagged count p kind).index ≡ (count + 0) % 15
index_here safe tagged count p Safe is = cc
index_here safe tagged count p Tagged is = let same : count ≡ count + 0 = omega arith in ap (λ n. n % 15) same

index_step : (safe tagged count : ℕ) (p : Part) (kind : Kind) (before : List Slot) →
    count_step count kind + length (tagged_slots before)
    ≡ count + length (tagged_slots (slot_of safe tagged count p kind ∷ before))
index_step safe tagged count p Safe before = refl
index_step safe tagged count p Tagged before = omega arith

pub index-counts : (safe tagged count : ℕ) (ps : List Part) (k : ℕ) (s : Slot) →
    slice_get (slots_from safe tagged count ps) k ≡ Some s → s.kind ≡ Tagged →
    s.index ≡ (count + length (tagged_slots (take k (slots_from safe tagged count ps)))) % 15
index-counts safe tagged count [] k s is tag = cc
index-counts safe tagged count (p ∷ ps) zero s is tag =
    let same : slot_of safe tagged count p p.kind ≡ s = cc in
    sym (ap (λ s. s.index) same) ∙ index_here safe tagged count p p.kind (ap (λ s. s.kind) same ∙ tag)
index-counts safe tagged count (p ∷ ps) (suc k) s is tag =
    let rest = slots_from (safe_step safe p p.kind) (tagged_step tagged p p.kind) (count_step count p.kind) ps in
    index-counts (safe_step safe p p.kind) (tagged_step tagged p p.kind) (count_step count p.kind) ps k s is tag
    ∙ ap (λ n. n % 15) (index_step safe tagged count p p.kind (take k rest))

-- ---- where each slot stands

-- from a place on, and before another
pub record IsBetween (from to : ℕ) (s : Slot) : Type 0 where
  pub from_on : from ≤ s.start
  pub before : s.start + s.bytes ≤ to

-- by its kind, where the safe slots stand between two places and the tagged ones between two others
abbrev pub Stands : ℕ → ℕ → ℕ → ℕ → Slot → Kind → Type 0
Stands safe safe_to tagged tagged_to s Safe = IsBetween safe safe_to s
Stands safe safe_to tagged tagged_to s Tagged = IsBetween tagged tagged_to s

stands_here : (safe tagged count : ℕ) (p : Part) (ps : List Part) (kind : Kind) → 1 ≤ p.align → ArePositive ps →
    Stands safe (safe_end (safe_step safe p kind) ps) tagged (tagged_end (tagged_step tagged p kind) ps)
    (slot_of safe tagged count p kind) (slot_of safe tagged count p kind).kind
stands_here safe tagged count p ps Safe here positive = record {
  from_on = round_up-reaches safe p.align here;
  before = safe_reaches (round_up safe p.align + p.bytes) ps positive;
}
stands_here safe tagged count p ps Tagged here positive =
    let start : tagged ≤ tagged = omega arith in
    record { from_on = start; before = tagged_reaches (tagged + round_up p.bytes 16) ps }

stands_wider : (safe safe_before safe_to tagged tagged_before tagged_to : ℕ) (s : Slot) (kind : Kind) →
    safe_before ≤ safe → tagged_before ≤ tagged →
    Stands safe safe_to tagged tagged_to s kind → Stands safe_before safe_to tagged_before tagged_to s kind
stands_wider safe safe_before safe_to tagged tagged_before tagged_to s Safe first second stands =
    record { from_on = le_trans first stands.from_on; before = stands.before }
stands_wider safe safe_before safe_to tagged tagged_before tagged_to s Tagged first second stands =
    record { from_on = le_trans second stands.from_on; before = stands.before }

pub slots-stand : (safe tagged count : ℕ) (ps : List Part) → ArePositive ps → (k : ℕ) (s : Slot) →
    slice_get (slots_from safe tagged count ps) k ≡ Some s →
    Stands safe (safe_end safe ps) tagged (tagged_end tagged ps) s s.kind
slots-stand safe tagged count [] positive k s is = cc
slots-stand safe tagged count (p ∷ ps) positive zero s is =
    let same : slot_of safe tagged count p p.kind ≡ s = cc in
    subst (λ s. Stands safe (safe_end safe (p ∷ ps)) tagged (tagged_end tagged (p ∷ ps)) s s.kind) same
    (stands_here safe tagged count p ps p.kind (positive 0 p refl) (λ j q at. positive (suc j) q at))
slots-stand safe tagged count (p ∷ ps) positive (suc k) s is =
    stands_wider (safe_step safe p p.kind) safe (safe_end safe (p ∷ ps)) (tagged_step tagged p p.kind) tagged (tagged_end tagged (p ∷ ps))
    s s.kind (safe_goes_on safe p p.kind (positive 0 p refl)) (tagged_goes_on tagged p p.kind)
    (slots-stand (safe_step safe p p.kind) (tagged_step tagged p p.kind) (count_step count p.kind) ps
    (λ j q at. positive (suc j) q at) k s is)

-- a slot has a byte at this place of the frame
pub record Has (s : Slot) (place : ℕ) : Type 0 where
  pub from_on : s.start ≤ place
  pub before : place < s.start + s.bytes

-- the first slot and one behind it have no byte in common
apart_by : (safe tagged count : ℕ) (p : Part) (kind other : Kind) (safe_to tagged_to place : ℕ) (t : Slot) →
    safe_to ≤ tagged → Has (slot_of safe tagged count p kind) place → Has t place → safe_step safe p kind ≤ safe_to →
    Stands (safe_step safe p kind) safe_to (tagged_step tagged p kind) tagged_to t other → ⊥
apart_by safe tagged count p Safe Safe safe_to tagged_to place t first one two reaches stands =
    omega (arith, one.before, two.from_on, stands.from_on)
apart_by safe tagged count p Safe Tagged safe_to tagged_to place t first one two reaches stands =
    omega (arith, one.before, two.from_on, stands.from_on)
apart_by safe tagged count p Tagged Safe safe_to tagged_to place t first one two reaches stands =
    omega (arith, one.from_on, two.before, stands.before)
apart_by safe tagged count p Tagged Tagged safe_to tagged_to place t first one two reaches stands =
    omega (arith, one.before, two.from_on, stands.from_on)

apart-behind : (safe tagged count : ℕ) (p : Part) (ps : List Part) → ArePositive (p ∷ ps) → safe_end safe (p ∷ ps) ≤ tagged →
    (k : ℕ) (s t : Slot) (place : ℕ) → slot_of safe tagged count p p.kind ≡ s →
    slice_get (slots_from (safe_step safe p p.kind) (tagged_step tagged p p.kind) (count_step count p.kind) ps) k ≡ Some t →
    Has s place → Has t place → ⊥
apart-behind safe tagged count p ps positive first k s t place same is one two =
    let others : ArePositive ps = λ j q at. positive (suc j) q at in
    apart_by safe tagged count p p.kind t.kind (safe_end safe (p ∷ ps)) (tagged_end tagged (p ∷ ps)) place t first
    (subst (λ s. Has s place) (sym same) one) two (safe_reaches (safe_step safe p p.kind) ps others)
    (slots-stand (safe_step safe p p.kind) (tagged_step tagged p p.kind) (count_step count p.kind) ps others k t is)

-- no byte is of two slots
pub slots-apart : (safe tagged count : ℕ) (ps : List Part) → ArePositive ps → safe_end safe ps ≤ tagged →
    (j k : ℕ) (s t : Slot) (place : ℕ) →
    slice_get (slots_from safe tagged count ps) j ≡ Some s → slice_get (slots_from safe tagged count ps) k ≡ Some t →
    Has s place → Has t place → j ≡ k
slots-apart safe tagged count [] positive first j k s t place is1 is2 one two = cc
slots-apart safe tagged count (p ∷ ps) positive first zero zero s t place is1 is2 one two = refl
slots-apart safe tagged count (p ∷ ps) positive first zero (suc k) s t place is1 is2 one two =
    let same : slot_of safe tagged count p p.kind ≡ s = cc in
    absurd (apart-behind safe tagged count p ps positive first k s t place same is2 one two)
slots-apart safe tagged count (p ∷ ps) positive first (suc j) zero s t place is1 is2 one two =
    let same : slot_of safe tagged count p p.kind ≡ t = cc in
    absurd (apart-behind safe tagged count p ps positive first j t s place same is1 two one)
slots-apart safe tagged count (p ∷ ps) positive first (suc j) (suc k) s t place is1 is2 one two =
    ap suc (slots-apart (safe_step safe p p.kind) (tagged_step tagged p p.kind) (count_step count p.kind) ps
    (λ i q at. positive (suc i) q at) (safe-before safe tagged p ps first) j k s t place is1 is2 one two)

-- ---- alignment

aligned_here : (safe tagged count : ℕ) (p : Part) (kind : Kind) → (slot_of safe tagged count p kind).kind ≡ Safe →
    (slot_of safe tagged count p kind).start % p.align ≡ 0
aligned_here safe tagged count p Safe is = round_up-multiple safe p.align
aligned_here safe tagged count p Tagged is = cc

-- a safe slot stands on a multiple of its alignment
pub safe-aligned : (safe tagged count : ℕ) (ps : List Part) (k : ℕ) (p : Part) (s : Slot) → slice_get ps k ≡ Some p →
    slice_get (slots_from safe tagged count ps) k ≡ Some s → s.kind ≡ Safe → s.start % p.align ≡ 0
safe-aligned safe tagged count [] k p s there is safely = cc
safe-aligned safe tagged count (q ∷ ps) zero p s there is safely =
    let part_same : q ≡ p = cc in
    let same : slot_of safe tagged count q q.kind ≡ s = cc in
    subst (λ p. s.start % p.align ≡ 0) part_same
    (sym (ap (λ s. s.start % q.align) same) ∙ aligned_here safe tagged count q q.kind (ap (λ s. s.kind) same ∙ safely))
safe-aligned safe tagged count (q ∷ ps) (suc k) p s there is safely =
    safe-aligned (safe_step safe q q.kind) (tagged_step tagged q q.kind) (count_step count q.kind) ps k p s there is safely

granule_here : (safe tagged count : ℕ) (p : Part) (kind : Kind) → tagged % 16 ≡ 0 → (slot_of safe tagged count p kind).kind ≡ Tagged →
    (slot_of safe tagged count p kind).start % 16 ≡ 0
granule_here safe tagged count p Safe whole is = cc
granule_here safe tagged count p Tagged whole is = whole

-- a tagged slot starts on a granule
pub tagged-aligned : (safe tagged count : ℕ) (ps : List Part) → tagged % 16 ≡ 0 → (k : ℕ) (s : Slot) →
    slice_get (slots_from safe tagged count ps) k ≡ Some s → s.kind ≡ Tagged → s.start % 16 ≡ 0
tagged-aligned safe tagged count [] whole k s is tag = cc
tagged-aligned safe tagged count (p ∷ ps) whole zero s is tag =
    let same : slot_of safe tagged count p p.kind ≡ s = cc in
    sym (ap (λ s. s.start % 16) same) ∙ granule_here safe tagged count p p.kind whole (ap (λ s. s.kind) same ∙ tag)
tagged-aligned safe tagged count (p ∷ ps) whole (suc k) s is tag =
    tagged-aligned (safe_step safe p p.kind) (tagged_step tagged p p.kind) (count_step count p.kind) ps
    (tagged-step_whole tagged p p.kind whole) k s is tag
