-- What the lists leave (this project's own).
use Rattle.std.specs.Prelude.{◌≡◌, ◌≢◌, ℕ, suc, ◌+◌, ◌/◌, ◌%◌, ◌^◌, ◌<◌, ◌≤◌, Bool, true, false, ◌&&◌, nat_le, List, [], ◌∷◌}
use Rattle.std.specs.Prelude.{length, slice_get, Some}
use Rattle.mt_base.specs.Granules.{granule_of}
use Rattle.mt_base.specs.Memory.{is_between, store, load}
use Rattle.mt_base.specs.Pointers.{tag_of, with_tag}
use Rattle.mt_base.specs.Tags.{next_tag, zero_excluded, base}
use Rattle.slot_safety.specs.declared.kind.Kind.TheVariants.{Tagged}
use Rattle.a64_code.specs.declared.instr.Instr.{Instr}
use Rattle.a64_code.specs.declared.instr.Reg.{Reg}
use Rattle.a64_code.specs.State.{State, tagged}
use Rattle.a64_code.specs.TagInstructions.{next_choice}
use Rattle.a64_laws.specs.Laws.Effects.Open.{IsOpen}
use Rattle.a64_laws.specs.Runs.{Runs}
use Rattle.a64_laws.specs.Tagging.{SameButTags}
use Rattle.frame_layout.specs.declared.frame.Frame.{Frame}
use Rattle.frame_layout.specs.declared.frame.Slot.{Slot}
use Rattle.frame_layout.specs.WellFormed.{is_tagged_slot}
use Rattle.tag_plan.specs.Lists.{outer_tagged, tagged_base}

-- ---- where a list begins

-- SP is the lowest address of a frame of so many bytes, on a granule, and the frame's memory may be read and written
pub record IsFrame (bytes : ℕ) (s : State) : Type 0 where
  pub aligned : s.sp % 16 ≡ 0
  pub below : s.sp + bytes < 2 ^ 56
  pub memory : IsOpen s s.sp bytes

-- the registers that a list may change: X9 to X17
abbrev pub is_scratch : ℕ → Bool
is_scratch r = nat_le 9 r && nat_le r 17

-- the list leads in at most so many steps to a state of which this holds
pub record Does (instrs : List Instr) (most : ℕ) (leaves : State → State → Type 0) (from : State) : Type 0 where
  pub to : State
  pub steps : ℕ
  pub few : steps ≤ most
  pub runs : Runs instrs steps from to
  pub left : leaves from to

-- ---- tags

-- the granules of a slot, in the frame at SP, have the tag with its index after a base tag
abbrev pub with_slot : ℕ → ℕ → Slot → (ℕ → ℕ) → ℕ → ℕ
with_slot sp base_tag s tags = tagged (s.bytes / 16) tags (sp + s.start) (next_tag base_tag s.index zero_excluded)

-- those of each of some slots
abbrev pub with_slots : ℕ → ℕ → List Slot → (ℕ → ℕ) → ℕ → ℕ
with_slots sp base_tag [] tags = tags
with_slots sp base_tag (s ∷ ss) tags = with_slots sp base_tag ss (with_slot sp base_tag s tags)

-- how many granules some slots have
abbrev pub granules : List Slot → ℕ
granules [] = 0
granules (s ∷ ss) = s.bytes / 16 + granules ss

-- all but PC, tags and scratch registers is the same
pub record SameButScratch (s t : State) : Type 0 where
  pub registers : (r : ℕ) → is_scratch r ≡ false → t.register r ≡ s.register r
  pub same : SameButTags s t

-- ---- what each list leaves

-- the slots have their tags, counted from the tag of X28, and nothing else is changed
pub record TagsSlots (ss : List Slot) (s t : State) : Type 0 where
  pub tags : t.tag ≡ with_slots s.sp (tag_of (s.register tagged_base.0)) ss s.tag
  pub kept : SameButScratch s t

-- so many granules from a place of the frame on have tag 0, and nothing else is changed
pub record Clears (from granules : ℕ) (s t : State) : Type 0 where
  pub tags : t.tag ≡ tagged granules s.tag (s.sp + from) 0
  pub kept : SameButScratch s t

-- A function was entered whose frame has tagged slots: a choice was drawn, the slots that live as long as the call have their tags by it,
-- X28 is the tagged base, and what it was stands in the base word.
pub record Entered (f : Frame) (s t : State) : Type 0 where
  pub tags : t.tag ≡ with_slots s.sp (base (next_choice s)) (outer_tagged f.slots) s.tag
  pub base_register : t.register tagged_base.0 ≡ with_tag s.sp (base (next_choice s))
  pub byte : t.byte ≡ store 8 s.byte (s.sp + 16) (s.register tagged_base.0)
  pub drawn : t.drawn ≡ (s.drawn + 1) % length s.choices
  pub registers : (r : ℕ) → is_scratch r ≡ false → r ≢ tagged_base.0 → t.register r ≡ s.register r
  pub sp : t.sp ≡ s.sp
  pub flags : t.flags ≡ s.flags
  pub regions : t.regions ≡ s.regions
  pub guard : t.guard ≡ s.guard
  pub choices : t.choices ≡ s.choices
  pub outside : t.outside ≡ s.outside

-- It is left: so many granules from a place on have tag 0, and X28 is what stood in the base word.
pub record Exited (from granules : ℕ) (s t : State) : Type 0 where
  pub tags : t.tag ≡ tagged granules s.tag (s.sp + from) 0
  pub base_register : t.register tagged_base.0 ≡ load 8 s.byte (s.sp + 16)
  pub registers : (r : ℕ) → is_scratch r ≡ false → r ≢ tagged_base.0 → t.register r ≡ s.register r
  pub same : SameButTags s t

-- ---- the same in the slots' own words

-- a granule of the slot, in the frame at SP
abbrev pub has_granule : ℕ → Slot → ℕ → Bool
has_granule sp s granule = is_between (granule_of (sp + s.start)) (s.bytes / 16) granule

-- none of the slots has the granule
abbrev pub NoneHas : ℕ → List Slot → ℕ → Type 0
NoneHas sp [] granule = Unit {0}
NoneHas sp (s ∷ ss) granule = (has_granule sp s granule ≡ false) × NoneHas sp ss granule

-- each granule of the slots has the tag of its slot's index after a base tag, and all others have what they had
pub record HaveSlotTags (sp base_tag : ℕ) (ss : List Slot) (before after : ℕ → ℕ) : Type 0 where
  pub inside : (k : ℕ) (s : Slot) (granule : ℕ) → slice_get ss k ≡ Some s → has_granule sp s granule ≡ true →
      after granule ≡ next_tag base_tag s.index zero_excluded
  pub outside : (granule : ℕ) → NoneHas sp ss granule → after granule ≡ before granule

-- each granule of the slots has tag 0, and all others have what they had
pub record HaveNoTags (sp : ℕ) (ss : List Slot) (before after : ℕ → ℕ) : Type 0 where
  pub inside : (k : ℕ) (s : Slot) (granule : ℕ) → slice_get ss k ≡ Some s → has_granule sp s granule ≡ true → after granule ≡ 0
  pub outside : (granule : ℕ) → NoneHas sp ss granule → after granule ≡ before granule

-- some scopes were left: their slots have no tags, and nothing else is changed
pub record LeavesSlots (ss : List Slot) (s t : State) : Type 0 where
  pub tags : HaveNoTags s.sp ss s.tag t.tag
  pub kept : SameButScratch s t

-- a register has this number, and nothing else is changed
pub record Puts (rd : Reg) (value : ℕ) (s t : State) : Type 0 where
  pub is : t.register rd.0 ≡ value
  pub tags : t.tag ≡ s.tag
  pub registers : (r : ℕ) → r ≢ rd.0 → t.register r ≡ s.register r
  pub same : SameButTags s t

-- the pointer to a slot in the frame at SP, with its tag after a base tag where it is tagged
abbrev pub pointer_by : Bool → ℕ → ℕ → Slot → ℕ
pointer_by true sp base_tag s = with_tag (sp + s.start) (next_tag base_tag s.index zero_excluded)
pointer_by false sp base_tag s = sp + s.start

abbrev pub pointer_to : ℕ → ℕ → Slot → ℕ
pointer_to sp base_tag s = pointer_by (is_tagged_slot s) sp base_tag s

-- ---- which slots a scope names

-- there is a tagged slot of this number
pub record IsTaggedAt (ss : List Slot) (k : ℕ) : Type 0 where
  pub slot : Slot
  pub is : slice_get ss k ≡ Some slot
  pub tagged : slot.kind ≡ Tagged

-- numbers of tagged slots, each larger than the one before, from a number on
abbrev pub AreNumbers : List Slot → ℕ → List ℕ → Type 0
AreNumbers ss from [] = Unit {0}
AreNumbers ss from (k ∷ ks) = (from ≤ k) × IsTaggedAt ss k × AreNumbers ss (suc k) ks
