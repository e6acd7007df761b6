-- The code that gives a frame's granules their tags and takes them away, as functions of the frame (this project's own, after the stack
-- tagging of MemTagSanitizer). SP is the frame's lowest address, X28 the tagged base, and X9 to X11 are scratch.
use Rattle.std.specs.Prelude.{ℕ, ◌+◌, ◌-◌, ◌/◌, ◌%◌, ◌<◌, nat_lt, Bool, true, false, not, ◌&&◌, List, [], ◌∷◌, ◌++◌, flat_map}
use Rattle.std.specs.Prelude.{if◌then◌else◌, Option, Some, None, slice_get, take, drop}
use Rattle.std.specs.List.{filter}
use Rattle.a64_code.specs.declared.instr.Instr.{Instr}
use Rattle.a64_code.specs.declared.instr.Instr.TheVariants.{AddImm, Addg, Irg, Ldr, Str}
use Rattle.a64_code.specs.declared.instr.Reg.{Reg}
use Rattle.a64_laws.specs.Forms.{stack_pointer, zero_register}
use Rattle.a64_laws.specs.Tagging.{tag_quickly, tag_shortly}
use Rattle.frame_layout.specs.declared.frame.Frame.{Frame}
use Rattle.frame_layout.specs.declared.frame.Slot.{Slot}
use Rattle.frame_layout.specs.WellFormed.{is_tagged_slot, tagged_slots}

-- ---- registers

-- the frame's lowest address with the base tag, of the innermost open call that has tagged slots
abbrev pub tagged_base : Reg
tagged_base = record { 0 = 28 }

abbrev pub place : Reg
place = record { 0 = 9 }

abbrev pub count : Reg
count = record { 0 = 10 }

abbrev pub source : Reg
source = record { 0 = 11 }

-- ---- addresses

-- so many bytes on from Rn, which may be SP, into Rd: below 4,096 in one addition, and in two from there
abbrev pub offset_from : Reg → ℕ → Reg → List Instr
offset_from rn n rd =
    if nat_lt n 4096 then AddImm true 0 n rn rd ∷ [] else AddImm true 1 (n / 4096) rn rd ∷ AddImm true 0 (n % 4096) rd rd ∷ []

-- the pointer to so many bytes on from the tagged base, with the tag of an index: the field of ADDG takes 63 granules
abbrev pub tagged_place : ℕ → ℕ → Reg → List Instr
tagged_place n index rd =
    if nat_lt n 1024 then Addg (n / 16) index tagged_base rd ∷ [] else offset_from tagged_base n rd ++ Addg 0 index rd rd ∷ []

-- the pointer to a slot: with its tag, or SP and its start
abbrev pub address_by : Bool → Slot → Reg → List Instr
address_by true s rd = tagged_place s.start s.index rd
address_by false s rd = offset_from stack_pointer s.start rd

abbrev pub slot_address_list : Slot → Reg → List Instr
slot_address_list s rd = address_by (is_tagged_slot s) s rd

-- ---- tags

-- The granules of a slot get its tag, by few instructions. The place is counted from SP, so that they are the slot's whatever X28 holds.
abbrev pub slot_list : Slot → List Instr
slot_list s = offset_from stack_pointer s.start place ++ Addg 0 s.index tagged_base source ∷ tag_shortly source place count (s.bytes / 16)

-- so many granules from a place of the frame on get the tag of SP, which is 0: few steps
abbrev pub clearing : ℕ → ℕ → List Instr
clearing from granules = offset_from stack_pointer from place ++ tag_quickly stack_pointer place count granules

-- from the start of the first of some slots that stand one after another to the end of the last
abbrev pub bytes_of : List Slot → ℕ
bytes_of [] = 0
bytes_of (s ∷ ss) = s.bytes + bytes_of ss

abbrev pub clear_list : List Slot → List Instr
clear_list [] = []
clear_list (s ∷ ss) = clearing s.start (bytes_of (s ∷ ss) / 16)

-- ---- the four lists

abbrev pub is_outer_slot : Slot → Bool
is_outer_slot s = not s.inner

-- the tagged slots that live as long as the call
abbrev pub outer_tagged : List Slot → List Slot
outer_tagged ss = filter is_outer_slot (tagged_slots ss)

-- X28 is saved in the base word, at 16, and gets SP with a tag that is drawn
abbrev pub base_list : List Instr
base_list = Str true 2 stack_pointer tagged_base ∷ Irg zero_register stack_pointer tagged_base ∷ []

-- whether there is none
abbrev pub where_some : List Slot → List Instr → List Instr
where_some [] instrs = []
where_some (s ∷ ss) instrs = instrs

-- the entry of a function
abbrev pub entry_list : Frame → List Instr
entry_list f = where_some (tagged_slots f.slots) (base_list ++ flat_map slot_list (outer_tagged f.slots))

-- X28 is what the base word has
abbrev pub restore : List Instr
restore = Ldr true 2 stack_pointer tagged_base ∷ []

-- its exit: all tagged slots lose their tags, and X28 is what it was
abbrev pub exit_list : Frame → List Instr
exit_list f = where_some (tagged_slots f.slots) (clear_list (tagged_slots f.slots) ++ restore)

-- the slots of these numbers, those aside that there are not
abbrev pub and_slot : Option Slot → List Slot → List Slot
and_slot None more = more
and_slot (Some s) more = s ∷ more

abbrev pub listed : List Slot → List ℕ → List Slot
listed ss [] = []
listed ss (k ∷ ks) = and_slot (slice_get ss k) (listed ss ks)

-- the entry of an inner scope, whose tagged slots have these numbers
abbrev pub enter_list : Frame → List ℕ → List Instr
enter_list f numbers = flat_map slot_list (listed f.slots numbers)

-- the slots from one number to another, both of them among these
abbrev pub between : List Slot → ℕ → ℕ → List Slot
between ss first last = take (last + 1 - first) (drop first ss)

-- one or several inner scopes are left: the tagged slots among those from one number to another lose their tags
abbrev pub leave_list : Frame → ℕ → ℕ → List Instr
leave_list f first last = clear_list (tagged_slots (between f.slots first last))
