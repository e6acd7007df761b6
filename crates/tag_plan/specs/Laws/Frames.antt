-- What the four lists do in a well-formed frame (this project's own).
use Rattle.std.specs.Prelude.{◌≡◌, ◌≢◌, ℕ, zero, suc, ◌+◌, ◌-◌, ◌*◌, ◌/◌, ◌%◌, ◌^◌, ◌<◌, ◌≤◌, true, false, List, [], ◌∷◌, ◌++◌, length}
use Rattle.std.specs.Prelude.{slice_get, Some, take, drop, refl, flat_map}
use Rattle.std.specs.List.{filter}
use Rattle.std.proofs.Common.{arith, ap, sym, ◌∙◌, subst, inl, inr, lit≤}
use Rattle.std.proofs.lemmas.Bool.{cases_Bool}
use Rattle.std.proofs.lemmas.Bool.Decides.{nat_tests}
use Rattle.std.proofs.lemmas.List.{take-append-drop}
use Rattle.mt_base.specs.Granules.{granule_of}
use Rattle.mt_base.specs.Memory.{is_between}
use Rattle.mt_base.specs.Pointers.{tag_of}
use Rattle.mt_base.specs.Tags.{base}
use Rattle.slot_safety.specs.declared.kind.Kind.{Kind}
use Rattle.slot_safety.specs.declared.kind.Kind.TheVariants.{Safe, Tagged}
use Rattle.a64_code.specs.declared.instr.Instr.{Instr}
use Rattle.a64_code.specs.State.{State, tagged}
use Rattle.a64_code.specs.TagInstructions.{next_choice}
use Rattle.a64_laws.specs.Laws.Effects.Stores.{tagged_inside, tagged_outside}
use Rattle.a64_laws.specs.Laws.Runs.{Runs-nil}
use Rattle.frame_layout.specs.declared.frame.Frame.{Frame}
use Rattle.frame_layout.specs.declared.frame.Slot.{Slot}
use Rattle.frame_layout.specs.WellFormed.{of_kind, is_tagged_slot, tagged_slots, Fill, IsWellFormed}
use Rattle.tag_plan.specs.Effects.{IsFrame, Does, Entered, Exited, Clears, TagsSlots, LeavesSlots, HaveSlotTags, HaveNoTags, NoneHas}
use Rattle.tag_plan.specs.Effects.{granules, has_granule, with_slots, SameButScratch, IsTaggedAt, AreNumbers}
use Rattle.tag_plan.specs.Lists.{entry_list, exit_list, enter_list, leave_list, where_some, clear_list, clearing, bytes_of, between, listed}
use Rattle.tag_plan.specs.Lists.{outer_tagged, is_outer_slot, base_list, slot_list, and_slot, restore}
use Rattle.tag_plan.specs.Laws.Calls.{entry_done, exit_done}
use Rattle.tag_plan.specs.Laws.Several.{slots_done, clearing_done}
use Rattle.tag_plan.specs.Laws.Standing.{Rising, AreWell, IsWhole, rising-in, rising-filter, rising-reaches, have_slot_tags, fill-rising}
use Rattle.tag_plan.specs.Laws.Standing.{fill-bytes, fill-split, well-split, bytes_of-whole, tagged_well, tagged_slots-append}

pub does_within : {instrs : List Instr} {few most : ℕ} {leaves : State → State → Type 0} {s : State} → few ≤ most →
    Does instrs few leaves s → Does instrs most leaves s
does_within fits does =
    record { to = does.to; steps = does.steps; few = omega (arith, does.few, fits); runs = does.runs; left = does.left }

-- ---- the tagged slots of a frame

pub frame-well : (f : Frame) → IsWellFormed f → AreWell (tagged_slots f.slots)
frame-well f well = tagged_well f.slots well.tagged

pub frame-rising : (f : Frame) (well : IsWellFormed f) → Rising well.first (tagged_slots f.slots) f.bytes
frame-rising f well = fill-rising well.first (tagged_slots f.slots) f.bytes well.first_whole (frame-well f well) well.filled

pub outer-rising : (f : Frame) (well : IsWellFormed f) → Rising well.first (outer_tagged f.slots) f.bytes
outer-rising f well = rising-filter is_outer_slot well.first (tagged_slots f.slots) f.bytes (frame-rising f well)

where_some-some : (ss : List Slot) (instrs : List Instr) → ss ≢ [] → where_some ss instrs ≡ instrs
where_some-some [] instrs some = absurd (some refl)
where_some-some (s ∷ ss) instrs some = refl

-- a frame without tagged slots has nothing to do
pub entry-empty : (f : Frame) → tagged_slots f.slots ≡ [] → entry_list f ≡ []
entry-empty f none = ap (λ ss. where_some ss (base_list ++ flat_map slot_list (outer_tagged f.slots))) none

pub exit-empty : (f : Frame) → tagged_slots f.slots ≡ [] → exit_list f ≡ []
exit-empty f none = rw none refl

-- ---- the entry

pub entry-does : (f : Frame) (s : State) → IsWellFormed f → tagged_slots f.slots ≢ [] → IsFrame f.bytes s →
    s.pc + 4 * (12 * length (outer_tagged f.slots) + 24) < 2 ^ 64 →
    Does (entry_list f) (4 * granules (outer_tagged f.slots) + 24) (Entered f) s
entry-does f s well some frame fits =
    subst (λ instrs. Does instrs (4 * granules (outer_tagged f.slots) + 24) (Entered f) s)
    (sym (where_some-some (tagged_slots f.slots) (base_list ++ flat_map slot_list (outer_tagged f.slots)) some))
    (does_within (omega arith) (entry_done f s frame well.least well.most
    (rising-in f.bytes well.first (outer_tagged f.slots) f.bytes (omega arith) (outer-rising f well)) (omega (arith, fits))))

pub entered-tags : (f : Frame) (s t : State) → IsWellFormed f → IsFrame f.bytes s → Entered f s t →
    HaveSlotTags s.sp (base (next_choice s)) (outer_tagged f.slots) s.tag t.tag
entered-tags f s t well frame e =
    subst (λ tags. HaveSlotTags s.sp (base (next_choice s)) (outer_tagged f.slots) s.tag tags) (sym e.tags)
    (have_slot_tags s.sp (base (next_choice s)) well.first (outer_tagged f.slots) f.bytes s.tag frame.aligned (outer-rising f well))

-- ---- the exit

pub clear_list-is : (from : ℕ) (ss : List Slot) (to : ℕ) → Fill from ss to → ss ≢ [] → clear_list ss ≡ clearing from (bytes_of ss / 16)
clear_list-is from [] to filled some = absurd (some refl)
clear_list-is from (s ∷ ss) to filled some = ap (λ place. clearing place (bytes_of (s ∷ ss) / 16)) filled.0

-- the granules from the first tagged slot on
abbrev pub granules_from : ℕ → Frame → ℕ
granules_from first f = (f.bytes - first) / 16

exit_list-is : (f : Frame) (well : IsWellFormed f) → tagged_slots f.slots ≢ [] →
    exit_list f ≡ clearing well.first (granules_from well.first f) ++ restore
exit_list-is f well some =
    where_some-some (tagged_slots f.slots) (clear_list (tagged_slots f.slots) ++ restore) some
    ∙ ap (λ instrs. instrs ++ restore) (clear_list-is well.first (tagged_slots f.slots) f.bytes well.filled some)
    ∙ ap (λ n. clearing well.first n ++ restore) counted
  where
    counted : bytes_of (tagged_slots f.slots) / 16 ≡ granules_from well.first f
    counted = omega (arith, fill-bytes well.first (tagged_slots f.slots) f.bytes well.filled)

pub exit-does : (f : Frame) (s : State) (well : IsWellFormed f) → tagged_slots f.slots ≢ [] → IsFrame f.bytes s →
    s.pc + 4 * 40 < 2 ^ 64 →
    Does (exit_list f) (3 * (f.bytes / 16) / 4 + 40) (Exited well.first (granules_from well.first f)) s
exit-does f s well some frame fits =
    subst (λ instrs. Does instrs (3 * (f.bytes / 16) / 4 + 40) (Exited well.first (granules_from well.first f)) s)
    (sym (exit_list-is f well some))
    (does_within (omega arith) (exit_done f.bytes well.first (granules_from well.first f) s frame well.least well.most well.first_whole
    (omega (arith, reaches)) (omega (arith, fits))))
  where
    reaches : well.first ≤ f.bytes
    reaches = rising-reaches well.first (tagged_slots f.slots) f.bytes (frame-rising f well)

-- where the granules before the tagged slots have no tag, none of the frame has one after the exit
pub exited-clear : (f : Frame) (s t : State) (well : IsWellFormed f) → IsFrame f.bytes s →
    Exited well.first (granules_from well.first f) s t →
    ((granule : ℕ) → is_between (granule_of s.sp) (well.first / 16) granule ≡ true → s.tag granule ≡ 0) →
    (granule : ℕ) → is_between (granule_of s.sp) (f.bytes / 16) granule ≡ true → t.tag granule ≡ 0
exited-clear f s t well frame left before granule inside =
    ap (λ (tags : ℕ → ℕ). tags granule) left.tags
    ∙ elim (cases_Bool (is_between (granule_of (s.sp + well.first)) (granules_from well.first f) granule)) [
      | inl here ↦ tagged_inside (granules_from well.first f) s.tag (s.sp + well.first) 0 granule here
      | inr elsewhere ↦ tagged_outside (granules_from well.first f) s.tag (s.sp + well.first) 0 granule elsewhere
          ∙ before granule (grind (arith, nat_tests, frame.aligned, well.first_whole, well.whole, reaches, inside, elsewhere))
    ]
  where
    reaches : well.first ≤ f.bytes
    reaches = rising-reaches well.first (tagged_slots f.slots) f.bytes (frame-rising f well)
