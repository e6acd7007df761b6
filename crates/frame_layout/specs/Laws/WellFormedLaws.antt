-- What a frame promises: it is well formed, its slots stand within it and apart, each on multiples of its alignment, and the index of a
-- tagged slot is the number of those before it modulo 15.
use Rattle.std.proofs.Common.{◌≡◌, sym, ◌∙◌, ap, subst, ℕ, ◌+◌, ◌%◌, ◌<◌, ◌≤◌, List, length, take, slice_get, Some, arith, lit≤}
use Rattle.std.proofs.Math.Nat.{le_trans}
use Rattle.c_type_base.specs.declared.typed.StructInfo.{StructInfo}
use Rattle.c_type_base.specs.declared.typed.TFunction.{TFunction}
use Rattle.c_type_base.specs.Sizes.{AreObjects, HaveBytes}
use Rattle.c_type_base.specs.Layout.{round_up, LaidOut}
use Rattle.c_type_base.specs.Laws.LayoutLaws.{round_up-reaches, round_up-multiple}
use Rattle.slot_safety.specs.declared.kind.Kind.{Kind}
use Rattle.slot_safety.specs.declared.kind.Kind.TheVariants.{Safe, Tagged}
use Rattle.frame_layout.specs.declared.placed.Part.{Part}
use Rattle.frame_layout.specs.declared.frame.Slot.{Slot}
use Rattle.frame_layout.specs.Parts.{parts, ArePositive}
use Rattle.frame_layout.specs.StatementNeeds.{stmt_need}
use Rattle.frame_layout.specs.Frames.{safe_end, tagged_end, first_safe, first_tagged, frame_by, frame, largest_frame}
use Rattle.frame_layout.specs.WellFormed.{tagged_slots, Fill, IsWellFormed}
use Rattle.frame_layout.specs.Laws.PartLaws.{AreSome, parts-positive, parts-some}
use Rattle.frame_layout.specs.Laws.FrameLaws.{safe_reaches, tagged_reaches, tagged-whole, slots-fill, tagged-well, slots-some, index-counts}
use Rattle.frame_layout.specs.Laws.FrameLaws.{IsBetween, Stands, slots-stand, Has, slots-apart, safe-aligned, tagged-aligned}

granules_stay : (n : ℕ) → n % 16 ≡ 0 → round_up n 16 ≡ n
granules_stay n whole = omega arith

second_granule : (n : ℕ) → n % 16 ≡ 0 → 24 ≤ n → 32 ≤ n
second_granule n whole least = omega arith

start_below : (start bytes safe_to to : ℕ) → 1 ≤ bytes → start + bytes ≤ safe_to → safe_to ≤ to → start < to
start_below start bytes safe_to to some before within = omega arith

module _ (words : ℕ) (ps : List Part) (positive : ArePositive ps) where
  -- the words stand before the safe slots, these before the tagged ones, and these end within the frame
  pub safe_room : first_safe words ≤ safe_end (first_safe words) ps
  safe_room = safe_reaches (first_safe words) ps positive

  pub safe_first : safe_end (first_safe words) ps ≤ first_tagged words ps
  safe_first = round_up-reaches (safe_end (first_safe words) ps) 16 (lit≤ tt)

  pub tagged_within : tagged_end (first_tagged words ps) ps ≤ (frame_by words ps).bytes
  tagged_within = round_up-reaches (tagged_end (first_tagged words ps) ps) 16 (lit≤ tt)

  pub safe_within : safe_end (first_safe words) ps ≤ (frame_by words ps).bytes
  safe_within = le_trans safe_first (le_trans (tagged_reaches (first_tagged words ps) ps) tagged_within)

  first_whole : first_tagged words ps % 16 ≡ 0
  first_whole = round_up-multiple (safe_end (first_safe words) ps) 16

  first_least : 32 ≤ first_tagged words ps
  first_least =
      let words_after : 24 ≤ first_safe words = omega arith in
      second_granule (first_tagged words ps) first_whole (le_trans words_after (le_trans safe_room safe_first))

  -- the last tagged slot ends where the frame ends
  end_is : (frame_by words ps).bytes ≡ tagged_end (first_tagged words ps) ps
  end_is = granules_stay (tagged_end (first_tagged words ps) ps) (tagged-whole (first_tagged words ps) ps first_whole)

  -- where each slot stands
  pub stands : (k : ℕ) (s : Slot) → slice_get (frame_by words ps).slots k ≡ Some s →
      Stands (first_safe words) (safe_end (first_safe words) ps) (first_tagged words ps) (tagged_end (first_tagged words ps) ps) s s.kind
  stands = slots-stand (first_safe words) (first_tagged words ps) 0 ps positive

  within_by : (s : Slot) (kind : Kind) →
      Stands (first_safe words) (safe_end (first_safe words) ps) (first_tagged words ps) (tagged_end (first_tagged words ps) ps) s kind →
      IsBetween (first_safe words) (frame_by words ps).bytes s
  within_by s Safe there = record { from_on = there.from_on; before = le_trans there.before safe_within }
  within_by s Tagged there = record {
    from_on = le_trans safe_room (le_trans safe_first there.from_on);
    before = le_trans there.before tagged_within;
  }

  -- each slot stands behind the words and within the frame
  pub within : (k : ℕ) (s : Slot) → slice_get (frame_by words ps).slots k ≡ Some s →
      IsBetween (first_safe words) (frame_by words ps).bytes s
  within k s is = within_by s s.kind (stands k s is)

  -- no byte is of two slots
  pub apart : (j k : ℕ) (s t : Slot) (place : ℕ) → slice_get (frame_by words ps).slots j ≡ Some s →
      slice_get (frame_by words ps).slots k ≡ Some t → Has s place → Has t place → j ≡ k
  apart = slots-apart (first_safe words) (first_tagged words ps) 0 ps positive safe_first

  -- a safe slot stands on a multiple of its part's alignment
  pub aligned : (k : ℕ) (p : Part) (s : Slot) → slice_get ps k ≡ Some p → slice_get (frame_by words ps).slots k ≡ Some s →
      s.kind ≡ Safe → s.start % p.align ≡ 0
  aligned = safe-aligned (first_safe words) (first_tagged words ps) 0 ps

  -- a tagged slot stands on a granule
  pub on_granule : (k : ℕ) (s : Slot) → slice_get (frame_by words ps).slots k ≡ Some s → s.kind ≡ Tagged → s.start % 16 ≡ 0
  on_granule = tagged-aligned (first_safe words) (first_tagged words ps) 0 ps first_whole

  -- the index of a tagged slot is the number of tagged slots before it, modulo 15
  pub index : (k : ℕ) (s : Slot) → slice_get (frame_by words ps).slots k ≡ Some s → s.kind ≡ Tagged →
      s.index ≡ length (tagged_slots (take k (frame_by words ps).slots)) % 15
  index k s is tag =
      let n = length (tagged_slots (take k (frame_by words ps).slots)) in
      let same : 0 + n ≡ n = omega arith in
      index-counts (first_safe words) (first_tagged words ps) 0 ps k s is tag ∙ ap (λ n. n % 15) same

  safe_below : AreSome ps → (k : ℕ) (s : Slot) → slice_get (frame_by words ps).slots k ≡ Some s → s.kind ≡ Safe →
      s.start < (frame_by words ps).bytes
  safe_below some k s is safely =
      let bytes = slots-some (first_safe words) (first_tagged words ps) 0 ps some k s is in
      let there = within k s is in
      let to : (frame_by words ps).bytes ≤ (frame_by words ps).bytes = omega arith in
      start_below s.start s.bytes (frame_by words ps).bytes (frame_by words ps).bytes bytes there.before to

  -- a frame that is not too large is well formed
  pub frame-well : AreSome ps → (frame_by words ps).bytes ≤ largest_frame → IsWellFormed (frame_by words ps)
  frame-well some fits = record {
    whole = round_up-multiple (tagged_end (first_tagged words ps) ps) 16;
    least = le_trans first_least (le_trans (tagged_reaches (first_tagged words ps) ps) tagged_within);
    most = fits;
    first = first_tagged words ps;
    first_whole = first_whole;
    first_least = first_least;
    filled = subst (λ to. Fill (first_tagged words ps) (tagged_slots (frame_by words ps).slots) to) (sym end_is)
        (slots-fill (first_safe words) (first_tagged words ps) 0 ps);
    tagged = tagged-well (first_safe words) (first_tagged words ps) 0 ps some;
    safe = safe_below some;
  }

-- so is the frame of each function whose locals have types that objects may have
pub well_formed : (structs : List StructInfo) (f : TFunction) → LaidOut structs → AreObjects structs f.locals → HaveBytes structs →
    (frame structs f).bytes ≤ largest_frame → IsWellFormed (frame structs f)
well_formed structs f laid objects have =
    frame-well (stmt_need f.body) (parts structs f) (parts-positive structs laid f 0 f.locals)
    (parts-some structs have f 0 f.locals objects)
