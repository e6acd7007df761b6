-- Well-formed frames (this project's own): what the code that tags and clears a frame relies on.
use Rattle.std.specs.Prelude.{◌≡◌, ℕ, ◌+◌, ◌%◌, ◌<◌, ◌≤◌, Bool, true, false, List, [], ◌∷◌, slice_get, Some}
use Rattle.std.specs.List.{filter}
use Rattle.slot_safety.specs.declared.kind.Kind.{Kind}
use Rattle.slot_safety.specs.declared.kind.Kind.TheVariants.{Safe, Tagged}
use Rattle.frame_layout.specs.declared.frame.Slot.{Slot}
use Rattle.frame_layout.specs.declared.frame.Frame.{Frame}
use Rattle.frame_layout.specs.Frames.{largest_frame}

-- whether it is the kind of tagged slots
abbrev pub of_kind : Kind → Bool
of_kind Safe = false
of_kind Tagged = true

abbrev pub is_tagged_slot : Slot → Bool
is_tagged_slot s = of_kind s.kind

-- the tagged ones among slots, in order of their numbers
abbrev pub tagged_slots : List Slot → List Slot
tagged_slots = filter is_tagged_slot

-- slots stand one behind another without gaps, from a place to another
abbrev pub Fill : ℕ → List Slot → ℕ → Type 0
Fill from [] to = from ≡ to
Fill from (s ∷ ss) to = (s.start ≡ from) × Fill (from + s.bytes) ss to

-- a tagged slot has some whole granules, and an index below 15
pub record IsTaggedWell (s : Slot) : Type 0 where
  pub some : 1 ≤ s.bytes
  pub whole : s.bytes % 16 ≡ 0
  pub index : s.index < 15

-- The bytes are a multiple of 16 from 32 to the most. The tagged slots fill the frame without gaps from a multiple of 16 that is at least
-- 32 to its end. Each safe slot starts below its end.
pub record IsWellFormed (f : Frame) : Type 0 where
  pub whole : f.bytes % 16 ≡ 0
  pub least : 32 ≤ f.bytes
  pub most : f.bytes ≤ largest_frame
  pub first : ℕ
  pub first_whole : first % 16 ≡ 0
  pub first_least : 32 ≤ first
  pub filled : Fill first (tagged_slots f.slots) f.bytes
  pub tagged : (k : ℕ) (s : Slot) → slice_get f.slots k ≡ Some s → s.kind ≡ Tagged → IsTaggedWell s
  pub safe : (k : ℕ) (s : Slot) → slice_get f.slots k ≡ Some s → s.kind ≡ Safe → s.start < f.bytes
