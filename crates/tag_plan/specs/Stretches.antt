-- What the calls find of a frame's slots (this project's own).
use Rattle.std.specs.Prelude.{◌≡◌, ℕ, ◌+◌, ◌≤◌, true, List, [], ◌∷◌, Option, Some, None, slice_get}
use Rattle.frame_layout.specs.declared.frame.Slot.{Slot}
use Rattle.frame_layout.specs.Frames.{largest_frame}
use Rattle.frame_layout.specs.WellFormed.{is_tagged_slot}
use Rattle.tag_plan.specs.declared.stretch.Stretch.{Stretch}
use Rattle.tag_plan.specs.Lists.{bytes_of}

-- where some slots start, and the bytes of all of them
abbrev pub stretch_of : List Slot → Option Stretch
stretch_of [] = None
stretch_of (s ∷ ss) = Some (record { start = s.start; bytes = bytes_of (s ∷ ss) })

-- what was found, and one slot more
abbrev pub grow : Option Stretch → Slot → Stretch
grow None s = record { start = s.start; bytes = s.bytes }
grow (Some before) s = record { start = before.start; bytes = before.bytes + s.bytes }

abbrev pub grown : Option Stretch → Slot → ℕ
grown found s = (grow found s).bytes

-- a slot starts within the largest frame, and has no more bytes
pub record IsSmall (s : Slot) : Type 0 where
  pub start : s.start ≤ largest_frame
  pub bytes : s.bytes ≤ largest_frame

-- so does each tagged one among slots
abbrev pub AreSmall : List Slot → Type 0
AreSmall ss = (k : ℕ) (s : Slot) → slice_get ss k ≡ Some s → is_tagged_slot s ≡ true → IsSmall s
