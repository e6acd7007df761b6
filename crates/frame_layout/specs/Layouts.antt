-- What `layout` answers: the frame, or that it is too large.
use Rattle.std.specs.Prelude.{◌≡◌, ℕ, ◌≤◌, ◌<◌, min}
use Rattle.frame_layout.specs.declared.frame.Frame.{Frame}
use Rattle.frame_layout.specs.declared.frame.LayoutRefusal.{LayoutRefusal}
use Rattle.frame_layout.specs.declared.frame.LayoutRefusal.TheVariants.{FrameTooLarge, NoMemory}
use Rattle.frame_layout.specs.Needs.{greatest}
use Rattle.frame_layout.specs.Frames.{largest_frame}

-- it is this frame, and not too large
pub record IsLaid (answer frame : Frame) : Type 0 where
  pub same : answer ≡ frame
  pub small : frame.bytes ≤ largest_frame

-- it has so many bytes, and they are too many
pub record IsTooLarge (bytes : ℕ) (frame : Frame) : Type 0 where
  pub told : bytes ≡ min frame.bytes greatest
  pub large : largest_frame < frame.bytes

-- why there is no frame
abbrev pub Refuses : Frame → LayoutRefusal → Type 0
Refuses frame (FrameTooLarge bytes) = IsTooLarge bytes frame
Refuses frame NoMemory = Unit {0}
