-- A scalar access that leaves a tagged slot and hits another granule of its frame, and the tag that memory has there.
use Rattle.std.specs.Prelude.{◌≡◌, ℕ, ◌+◌, ◌%◌, ◌^◌, ◌<◌, Bool, true, false, ◌&&◌, leb, ltb, nat_eq}
use Rattle.std.specs.Prelude.{List, [], ◌∷◌, slice_get, Some, if◌then◌else◌}
use Rattle.mt_base.specs.Tags.{slot_tag}
use Rattle.slot_safety.specs.declared.kind.Kind.TheVariants.{Tagged}
use Rattle.slot_safety.specs.Kinds.{among}
use Rattle.frame_layout.specs.declared.frame.Slot.{Slot}
use Rattle.frame_layout.specs.declared.frame.Frame.{Frame}
use Rattle.frame_layout.specs.WellFormed.{is_tagged_slot}

-- a scalar access in a call of a function
pub record Access : Type 0 where
  -- the numbers of the locals that are live in that call
  pub live : List ℕ
  -- the number of the local
  pub number : ℕ
  -- in bytes from its start, modulo 2^64
  pub offset : ℕ
  -- in bytes: 1, 2, 4 or 8
  pub size : ℕ

-- where an access at an offset begins: an offset below 2^63 goes up from the slot's start, any other down
abbrev pub place : Slot → ℕ → ℕ
place s offset = (s.start + offset) % 2 ^ 64

-- the place stands in a granule of the slot
abbrev pub has_place : Slot → ℕ → Bool
has_place s p = leb s.start p && ltb p (s.start + s.bytes)

abbrev pub has_tagged : Slot → ℕ → Bool
has_tagged s p = is_tagged_slot s && has_place s p

-- none of the tagged slots with an index has the place
abbrev pub apart : ℕ → ℕ → List Slot → Bool
apart index p [] = true
apart index p (s ∷ ss) = (if has_tagged s p && nat_eq s.index index then false else apart index p ss)

-- the tag of memory at a place, where a choice was drawn and these locals are live, of which the first slot has this number
abbrev pub tag_among : ℕ → List ℕ → ℕ → ℕ → List Slot → ℕ
tag_among choice live p k [] = 0
tag_among choice live p k (s ∷ ss) =
    (if has_tagged s p then (if among k live then slot_tag choice s.index else 0) else tag_among choice live p (k + 1) ss)

-- the same in a frame: the tag of the tagged slot that has the place, where its local is live, and else 0
abbrev pub memory_tag : Frame → ℕ → List ℕ → ℕ → ℕ
memory_tag f choice live p = tag_among choice live p 0 f.slots

-- The access leaves a tagged slot, for a place of the frame that is in no granule of a tagged slot with the same index: so not in its own.
pub record Neighbour (f : Frame) (access : Access) : Type 0 where
  pub slot : Slot
  pub is : slice_get f.slots access.number ≡ Some slot
  pub tagged : slot.kind ≡ Tagged
  pub aligned : access.offset % access.size ≡ 0
  pub within : place slot access.offset < f.bytes
  pub other_index : apart slot.index (place slot access.offset) f.slots ≡ true

-- the tag of memory there, where the frame drew a choice
abbrev pub tag_there : {f : Frame} {access : Access} → ℕ → Neighbour f access → ℕ
tag_there {f} {access} choice n = memory_tag f choice access.live (place n.slot access.offset)
