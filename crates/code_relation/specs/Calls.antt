-- Calls: their frames, whether these have tagged slots, and where they lie on the stack (this project's own).
use Rattle.std.specs.Prelude.{◌≡◌, ℕ, suc, ◌+◌, ◌-◌, Bool, ◌||◌, false, nat_eq, List, [], ◌∷◌, Option, Some, None, if◌then◌else◌}
use Rattle.std.specs.List.{list_any}
use Rattle.c_type_base.specs.declared.typed.TFunction.{TFunction}
use Rattle.c_type_base.specs.declared.typed.Typed.{Typed}
use Rattle.frame_layout.specs.declared.frame.Frame.{Frame}
use Rattle.frame_layout.specs.Frames.{frame}
use Rattle.frame_layout.specs.WellFormed.{is_tagged_slot}
use Rattle.block_meaning.specs.Linkage.{structs_of, function_named}
use Rattle.block_meaning.specs.Meaning.{open_bytes}
use Rattle.block_meaning.specs.Running.{Function, Call}

-- the stack ends here, and goes down
abbrev pub stack_end : ℕ
stack_end = 0x40000000

-- the bytes of the guard right below it
abbrev pub guard_bytes : ℕ
guard_bytes = 524288

-- ---- frames

-- that of a function that is not there
abbrev pub no_frame : Frame
no_frame = record { slots = []; temps = 0; bytes = 0 }

abbrev pub frame_by : List Typed → ℕ → Option TFunction → Frame
frame_by units unit None = no_frame
frame_by units unit (Some f) = frame (structs_of units unit) f

-- the frame of a function
abbrev pub frame_of : List Typed → Function → Frame
frame_of units f = frame_by units f.unit (function_named units f)

-- the function has a tagged slot, so a call of it draws a choice
abbrev pub has_tagged : List Typed → Function → Bool
has_tagged units f = list_any is_tagged_slot (frame_of units f).slots

-- how many choices some calls drew
abbrev pub drawn_by : List Typed → List Call → ℕ
drawn_by units [] = 0
drawn_by units (c ∷ cs) = (if has_tagged units c.function then suc (drawn_by units cs) else drawn_by units cs)

-- ---- where they lie

-- the lowest address of a call's frame, where SP stands while it is the innermost one
abbrev pub lowest : Call → ℕ
lowest c = stack_end - c.place

-- The open calls, the latest first: each has the bytes of its function's frame below those that were open before it.
abbrev pub LieInOrder : List Typed → List Call → Type 0
LieInOrder units [] = Unit {0}
LieInOrder units (c ∷ cs) = (c.place ≡ open_bytes cs + (frame_of units c.function).bytes) × LieInOrder units cs

-- a call of this number is among them
abbrev pub is_among : ℕ → List Call → Bool
is_among number [] = false
is_among number (c ∷ cs) = nat_eq c.number number || is_among number cs
