-- How many instructions the lists have at most (this project's own).
use Rattle.std.specs.Prelude.{ℕ, ◌+◌, ◌*◌, ◌/◌, ◌≤◌, List, [], ◌∷◌, ◌++◌, length, flat_map}
use Rattle.std.proofs.Common.{arith, length-append}
use Rattle.a64_code.specs.declared.instr.Instr.{Instr}
use Rattle.frame_layout.specs.declared.frame.Frame.{Frame}
use Rattle.frame_layout.specs.declared.frame.Slot.{Slot}
use Rattle.frame_layout.specs.WellFormed.{tagged_slots}
use Rattle.tag_plan.specs.Lists.{entry_list, exit_list, enter_list, leave_list, where_some, clear_list, bytes_of, between, listed}
use Rattle.tag_plan.specs.Lists.{outer_tagged, base_list, slot_list, restore}
use Rattle.tag_plan.specs.Laws.Several.{length-slots, length-clearing}

where_some-length : (ss : List Slot) (instrs : List Instr) (most : ℕ) → length instrs ≤ most → length (where_some ss instrs) ≤ most
where_some-length [] instrs most short = omega arith
where_some-length (s ∷ ss) instrs most short = short

clear_list-length : (ss : List Slot) → length (clear_list ss) ≤ 22
clear_list-length [] = omega arith
clear_list-length (s ∷ ss) = length-clearing s.start (bytes_of (s ∷ ss) / 16)

pub length-entry : (f : Frame) → length (entry_list f) ≤ 12 * length (outer_tagged f.slots) + 24
length-entry f =
    where_some-length (tagged_slots f.slots) (base_list ++ flat_map slot_list (outer_tagged f.slots))
    (12 * length (outer_tagged f.slots) + 24)
    (omega (arith, length-append base_list (flat_map slot_list (outer_tagged f.slots)), length-slots (outer_tagged f.slots)))

pub length-exit : (f : Frame) → length (exit_list f) ≤ 40
length-exit f =
    where_some-length (tagged_slots f.slots) (clear_list (tagged_slots f.slots) ++ restore) 40
    (omega (arith, length-append (clear_list (tagged_slots f.slots)) restore, clear_list-length (tagged_slots f.slots)))

pub length-enter : (f : Frame) (numbers : List ℕ) → length (enter_list f numbers) ≤ 12 * length (listed f.slots numbers) + 24
length-enter f numbers = omega (arith, length-slots (listed f.slots numbers))

pub length-leave : (f : Frame) (first last : ℕ) → length (leave_list f first last) ≤ 24
length-leave f first last = omega (arith, clear_list-length (tagged_slots (between f.slots first last)))
