-- What the lists of scopes do in a well-formed frame (this project's own).
use Rattle.std.specs.Prelude.{◌≡◌, ◌≢◌, ℕ, zero, suc, ◌+◌, ◌-◌, ◌*◌, ◌/◌, ◌%◌, ◌^◌, ◌<◌, ◌≤◌, Bool, true, false, if◌then◌else◌}
use Rattle.std.specs.Prelude.{List, [], ◌∷◌, ◌++◌, length, slice_get, Some, take, drop, refl, flat_map}
use Rattle.std.proofs.Common.{arith, ap, sym, ◌∙◌, subst, inl, inr}
use Rattle.std.proofs.lemmas.Bool.{cases_lt}
use Rattle.std.proofs.lemmas.Bool.Decides.{nat_tests}
use Rattle.std.proofs.lemmas.List.{take-append-drop}
use Rattle.mt_base.specs.Granules.{granule_of}
use Rattle.mt_base.specs.Memory.{is_between}
use Rattle.mt_base.specs.Pointers.{tag_of}
use Rattle.slot_safety.specs.declared.kind.Kind.{Kind}
use Rattle.slot_safety.specs.declared.kind.Kind.TheVariants.{Safe, Tagged}
use Rattle.a64_code.specs.State.{State, tagged}
use Rattle.a64_laws.specs.Laws.Effects.Stores.{tagged_inside, tagged_outside}
use Rattle.a64_laws.specs.Laws.Runs.{Runs-nil}
use Rattle.frame_layout.specs.declared.frame.Frame.{Frame}
use Rattle.frame_layout.specs.declared.frame.Slot.{Slot}
use Rattle.frame_layout.specs.WellFormed.{of_kind, is_tagged_slot, tagged_slots, Fill, IsWellFormed}
use Rattle.tag_plan.specs.Effects.{IsFrame, Does, Clears, TagsSlots, LeavesSlots, HaveSlotTags, HaveNoTags, NoneHas}
use Rattle.tag_plan.specs.Effects.{granules, has_granule, with_slots, IsTaggedAt, AreNumbers}
use Rattle.tag_plan.specs.Lists.{enter_list, leave_list, clear_list, clearing, bytes_of, between, listed, tagged_base, slot_list}
use Rattle.tag_plan.specs.Laws.Frames.{does_within, frame-well, clear_list-is}
use Rattle.tag_plan.specs.Laws.Several.{slots_done, clearing_done}
use Rattle.tag_plan.specs.Laws.Standing.{Rising, AreWell, IsWhole, rising-in, rising-lower, rising-reaches, have_slot_tags, fill-rising}
use Rattle.tag_plan.specs.Laws.Standing.{fill-bytes, fill-split, well-split, bytes_of-whole, tagged_slots-append}

-- ---- scopes that are left

-- the tagged slots among those between two numbers stand without gaps
pub record Stretch (f : Frame) (first last : ℕ) : Type 0 where
  pub from : ℕ
  pub to : ℕ
  pub filled : Fill from (tagged_slots (between f.slots first last)) to
  pub well : AreWell (tagged_slots (between f.slots first last))
  pub whole : from % 16 ≡ 0
  pub within : to ≤ f.bytes

rise_whole : (from : ℕ) (ss : List Slot) (to : ℕ) → from % 16 ≡ 0 → AreWell ss → Fill from ss to → to % 16 ≡ 0
rise_whole from ss to whole well filled = omega (arith, whole, bytes_of-whole ss well, fill-bytes from ss to filled)

-- a part of a list
part_stretch : (from : ℕ) (xs ys zs : List Slot) (to : ℕ) → from % 16 ≡ 0 → AreWell (tagged_slots (xs ++ (ys ++ zs))) →
    Fill from (tagged_slots (xs ++ (ys ++ zs))) to →
    (a b : ℕ) × Fill a (tagged_slots ys) b × AreWell (tagged_slots ys) × (a % 16 ≡ 0) × (b ≤ to)
part_stretch from xs ys zs to whole well filled =
    let same : tagged_slots (xs ++ (ys ++ zs)) ≡ tagged_slots xs ++ (tagged_slots ys ++ tagged_slots zs) =
    tagged_slots-append xs (ys ++ zs) ∙ ap (λ ss. tagged_slots xs ++ ss) (tagged_slots-append ys zs) in
    let wells = well-split (tagged_slots xs) (tagged_slots ys ++ tagged_slots zs) (subst AreWell same well) in
    let first = fill-split from (tagged_slots xs) (tagged_slots ys ++ tagged_slots zs) to (subst (λ ss. Fill from ss to) same filled) in
    let rest = fill-split first.0 (tagged_slots ys) (tagged_slots zs) to first.2 in
    let both = well-split (tagged_slots ys) (tagged_slots zs) wells.1 in
    let middle : first.0 % 16 ≡ 0 = rise_whole from (tagged_slots xs) first.0 whole wells.0 first.1 in
    let last : rest.0 % 16 ≡ 0 = rise_whole first.0 (tagged_slots ys) rest.0 middle both.0 rest.1 in (
      first.0,
      rest.0,
      rest.1,
      both.0,
      middle,
      rising-reaches rest.0 (tagged_slots zs) to
          (fill-rising rest.0 (tagged_slots zs) to last both.1 rest.2),
    )

pub stretch : (f : Frame) (first last : ℕ) → IsWellFormed f → Stretch f first last
stretch f first last well = record {
  from = part.0;
  to = part.1;
  filled = part.2;
  well = part.3;
  whole = part.4;
  within = part.5;
}
  where
    front : List Slot
    front = take first f.slots

    back : List Slot
    back = drop (last + 1 - first) (drop first f.slots)

    same : f.slots ≡ front ++ (between f.slots first last ++ back)
    same =
        sym (take-append-drop first f.slots)
        ∙ ap (λ ss. front ++ ss) (sym (take-append-drop (last + 1 - first) (drop first f.slots)))

    part : (a b : ℕ) × Fill a (tagged_slots (between f.slots first last)) b × AreWell (tagged_slots (between f.slots first last))
        × (a % 16 ≡ 0) × (b ≤ f.bytes)
    part = part_stretch well.first front (between f.slots first last) back f.bytes well.first_whole
        (subst (λ ss. AreWell (tagged_slots ss)) same (frame-well f well))
        (subst (λ ss. Fill well.first (tagged_slots ss) f.bytes) same well.filled)

-- ---- the granules of slots without gaps

slots_inside : (sp granule from : ℕ) (ss : List Slot) (to k : ℕ) (s : Slot) → sp % 16 ≡ 0 → Rising from ss to →
    slice_get ss k ≡ Some s → has_granule sp s granule ≡ true → (sp + from ≤ 16 * granule) × (16 * granule < sp + to)
slots_inside sp granule from [] to k s aligned rising is inside = absurd (cc)
slots_inside sp granule from (x ∷ ss) to zero s aligned rising is inside =
    let same : x ≡ s = cc in
    let here : has_granule sp x granule ≡ true = ap (λ x. has_granule sp x granule) same ∙ inside in
    let reaches : x.start + x.bytes ≤ to = rising-reaches (x.start + x.bytes) ss to rising.2 in (
      grind (arith, nat_tests, rising.0, rising.1.start, rising.1.bytes, aligned, here),
      grind (arith, nat_tests, reaches, rising.1.start, rising.1.bytes, aligned, here),
    )
slots_inside sp granule from (x ∷ ss) to (suc k) s aligned rising is inside =
    let rest = slots_inside sp granule (x.start + x.bytes) ss to k s aligned rising.2 is inside in
    (omega (arith, rising.0, rest.0), rest.1)

slots_outside : (sp granule from : ℕ) (ss : List Slot) (to : ℕ) → sp % 16 ≡ 0 → from % 16 ≡ 0 → AreWell ss → Fill from ss to →
    NoneHas sp ss granule → sp + from ≤ 16 * granule → to + sp ≤ 16 * granule
slots_outside sp granule from [] to aligned whole well filled none after = omega (arith, filled, after)
slots_outside sp granule from (s ∷ ss) to aligned whole well filled none after =
    slots_outside sp granule (from + s.bytes) ss to aligned (omega (arith, whole, well.0.whole)) well.1 filled.1 none.1
    (grind (arith, nat_tests, filled.0, whole, well.0.whole, aligned, none.0, after))

have_no_tags : (sp from : ℕ) (ss : List Slot) (to : ℕ) (tags : ℕ → ℕ) → sp % 16 ≡ 0 → from % 16 ≡ 0 → AreWell ss → Fill from ss to →
    HaveNoTags sp ss tags (tagged (bytes_of ss / 16) tags (sp + from) 0)
have_no_tags sp from ss to tags aligned whole well filled = record {
  inside = λ k s granule is inside.
      let there = slots_inside sp granule from ss to k s aligned (fill-rising from ss to whole well filled) is inside in
      tagged_inside (bytes_of ss / 16) tags (sp + from) 0 granule
      (grind (arith, nat_tests, there.0, there.1, aligned, whole, bytes, counted));
  outside = λ granule none.
      tagged_outside (bytes_of ss / 16) tags (sp + from) 0 granule (is_outside granule none);
}
  where
    bytes : to ≡ from + bytes_of ss
    bytes = fill-bytes from ss to filled

    counted : bytes_of ss % 16 ≡ 0
    counted = bytes_of-whole ss well

    is_outside : (granule : ℕ) → NoneHas sp ss granule → is_between (granule_of (sp + from)) (bytes_of ss / 16) granule ≡ false
    is_outside granule none = elim (cases_lt (16 * granule) (sp + from)) [
      | inl before ↦ grind (arith, nat_tests, before, aligned, whole)
      | inr after ↦
          let past = slots_outside sp granule from ss to aligned whole well filled none after in
          grind (arith, nat_tests, past, bytes, counted, aligned, whole)
    ]

-- ---- leaving

granules-bytes : (ss : List Slot) → AreWell ss → granules ss ≡ bytes_of ss / 16
granules-bytes [] well = refl
granules-bytes (s ∷ ss) well = omega (arith, granules-bytes ss well.1, well.0.whole, bytes_of-whole ss well.1)

leave_none : (s : State) → Does [] 24 (LeavesSlots []) s
leave_none s = record {
  to = s;
  steps = 0;
  few = omega arith;
  runs = Runs-nil s;
  left = record {
    tags = record { inside = λ k slot granule is inside. absurd (cc); outside = λ granule none. refl };
    kept = record {
      registers = λ r none. refl;
      same = record { sp = refl; flags = refl; byte = refl; regions = refl; guard = refl; choices = refl; drawn = refl; outside = refl };
    };
  };
}

leaves_by : (bytes from : ℕ) (ss : List Slot) (to : ℕ) (s : State) → IsFrame bytes s → bytes ≤ 262144 → to ≤ bytes → from % 16 ≡ 0 →
    AreWell ss → Fill from ss to → s.pc + 4 * 24 < 2 ^ 64 → Does (clear_list ss) (3 * granules ss / 4 + 24) (LeavesSlots ss) s
leaves_by bytes from [] to s frame most within whole well filled fits = leave_none s
leaves_by bytes from (x ∷ ss) to s frame most within whole well filled fits =
    let cleared = clearing_done bytes from (bytes_of (x ∷ ss) / 16) s frame most whole
    (omega (arith, within, fill-bytes from (x ∷ ss) to filled, bytes_of-whole (x ∷ ss) well)) (omega (arith, fits)) in
    subst (λ instrs. Does instrs (3 * granules (x ∷ ss) / 4 + 24) (LeavesSlots (x ∷ ss)) s)
    (sym (clear_list-is from (x ∷ ss) to filled (λ none. absurd (cc))))
    (record {
      to = cleared.to;
      steps = cleared.steps;
      few = omega (arith, cleared.few, granules-bytes (x ∷ ss) well);
      runs = cleared.runs;
      left = record {
        tags = subst (λ tags. HaveNoTags s.sp (x ∷ ss) s.tag tags) (sym cleared.left.tags)
            (have_no_tags s.sp from (x ∷ ss) to s.tag frame.aligned whole well filled);
        kept = cleared.left.kept;
      };
    })

-- the tagged slots between two numbers lose their tags
pub leave-does : (f : Frame) (first last : ℕ) (s : State) → IsWellFormed f → IsFrame f.bytes s → s.pc + 4 * 24 < 2 ^ 64 →
    Does (leave_list f first last) (3 * granules (tagged_slots (between f.slots first last)) / 4 + 24)
    (LeavesSlots (tagged_slots (between f.slots first last))) s
leave-does f first last s well frame fits =
    let there = stretch f first last well in
    leaves_by f.bytes there.from (tagged_slots (between f.slots first last)) there.to s frame well.most there.within there.whole
    there.well there.filled fits
