-- The frame of a function (this project's own, after the stack tagging of MemTagSanitizer), from its lowest address: the saved X29 and
-- X30 at 0, the base word at 16, words for values in between from 24 on, the safe slots, and from the next multiple of 16 the tagged slots.
use Rattle.std.specs.Prelude.{ℕ, suc, ◌+◌, ◌*◌, ◌%◌, List, [], ◌∷◌}
use Rattle.c_type_base.specs.declared.typed.StructInfo.{StructInfo}
use Rattle.c_type_base.specs.declared.typed.TFunction.{TFunction}
use Rattle.c_type_base.specs.Layout.{round_up}
use Rattle.slot_safety.specs.declared.kind.Kind.{Kind}
use Rattle.slot_safety.specs.declared.kind.Kind.TheVariants.{Safe, Tagged}
use Rattle.frame_layout.specs.declared.frame.Slot.{Slot}
use Rattle.frame_layout.specs.declared.frame.Frame.{Frame}
use Rattle.frame_layout.specs.declared.placed.Part.{Part}
use Rattle.frame_layout.specs.Parts.{parts}
use Rattle.frame_layout.specs.StatementNeeds.{stmt_need}

-- where the safe slots end, from a place on: each stands at the next multiple of its alignment
abbrev pub safe_step : ℕ → Part → Kind → ℕ
safe_step place p Safe = round_up place p.align + p.bytes
safe_step place p Tagged = place

abbrev pub safe_end : ℕ → List Part → ℕ
safe_end place [] = place
safe_end place (p ∷ ps) = safe_end (safe_step place p p.kind) ps

-- where the tagged slots end: each has whole granules
abbrev pub tagged_step : ℕ → Part → Kind → ℕ
tagged_step place p Safe = place
tagged_step place p Tagged = place + round_up p.bytes 16

abbrev pub tagged_end : ℕ → List Part → ℕ
tagged_end place [] = place
tagged_end place (p ∷ ps) = tagged_end (tagged_step place p p.kind) ps

abbrev pub count_step : ℕ → Kind → ℕ
count_step n Safe = n
count_step n Tagged = suc n

-- the slot of a part, where the next safe one may start, and the next tagged one starts, which has so many before it
abbrev pub slot_of : ℕ → ℕ → ℕ → Part → Kind → Slot
slot_of safe tagged count p Safe =
    record { start = round_up safe p.align; bytes = p.bytes; kind = Safe; index = 0; inner = p.inner }
slot_of safe tagged count p Tagged =
    record { start = tagged; bytes = round_up p.bytes 16; kind = Tagged; index = count % 15; inner = p.inner }

abbrev pub slots_from : ℕ → ℕ → ℕ → List Part → List Slot
slots_from safe tagged count [] = []
slots_from safe tagged count (p ∷ ps) =
    slot_of safe tagged count p p.kind
    ∷ slots_from (safe_step safe p p.kind) (tagged_step tagged p p.kind) (count_step count p.kind) ps

-- where the safe slots may start
abbrev pub first_safe : ℕ → ℕ
first_safe words = 24 + 8 * words

-- where the tagged slots start
abbrev pub first_tagged : ℕ → List Part → ℕ
first_tagged words ps = round_up (safe_end (first_safe words) ps) 16

-- the frame of these parts with so many words
abbrev pub frame_by : ℕ → List Part → Frame
frame_by words ps = record {
  slots = slots_from (first_safe words) (first_tagged words ps) 0 ps;
  temps = words;
  bytes = round_up (tagged_end (first_tagged words ps) ps) 16;
}

-- the frame of a function
abbrev pub frame : List StructInfo → TFunction → Frame
frame structs f = frame_by (stmt_need f.body) (parts structs f)

-- the greatest number of bytes of a frame (this project's own)
abbrev pub largest_frame : ℕ
largest_frame = 262144
