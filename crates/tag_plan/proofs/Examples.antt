-- The lists of a small frame: `a` and `b` of 16 bytes at 48 and 64 are tagged, `i` at 40 is not, and `c` of 160 bytes
-- at 80 is of an inner scope.
use Rattle.std.specs.Prelude.{ℕ, ◌-◌, ◌^◌, [], ◌∷◌}
use Rattle.std.proofs.Common.{◌≡◌, refl, true, false}
use Rattle.slot_safety.specs.declared.kind.Kind.TheVariants.{Safe, Tagged}
use Rattle.a64_code.specs.declared.instr.Instr.TheVariants.{AddImm, Addg, Cbnz, Irg, Ldr, Movz, Stg, St2g, Str, SubImm}
use Rattle.a64_code.specs.declared.instr.Reg.{Reg}
use Rattle.frame_layout.specs.declared.frame.Frame.{Frame}
use Rattle.frame_layout.specs.declared.frame.Slot.{Slot}
use Rattle.tag_plan.specs.Lists.{entry_list, exit_list, enter_list, leave_list, slot_address_list}

abbrev x : ℕ → Reg
x n = record { 0 = n }

abbrev sp : Reg
sp = x 31

abbrev a : Slot
a = record { start = 48; bytes = 16; kind = Tagged; index = 0; inner = false }

abbrev b : Slot
b = record { start = 64; bytes = 16; kind = Tagged; index = 1; inner = false }

abbrev i : Slot
i = record { start = 40; bytes = 4; kind = Safe; index = 0; inner = false }

abbrev c : Slot
c = record { start = 80; bytes = 160; kind = Tagged; index = 2; inner = true }

abbrev frame : Frame
frame = record { slots = a ∷ b ∷ i ∷ c ∷ []; temps = 2; bytes = 240 }

-- X28 is saved and gets a tag that is drawn; then a and b, of one granule each, get theirs
entry_of_two : entry_list frame
    ≡ Str true 2 sp (x 28) ∷ Irg (x 31) sp (x 28)
    ∷ AddImm true 0 48 sp (x 9) ∷ Addg 0 0 (x 28) (x 11) ∷ Stg 0 (x 9) (x 11)
    ∷ AddImm true 0 64 sp (x 9) ∷ Addg 0 1 (x 28) (x 11) ∷ Stg 0 (x 9) (x 11) ∷ []
entry_of_two = refl

-- the ten granules of c get its tag in five turns of two
enter_of_one : enter_list frame (3 ∷ [])
    ≡ AddImm true 0 80 sp (x 9) ∷ Addg 0 2 (x 28) (x 11) ∷ Movz true 0 5 (x 10)
    ∷ St2g 0 (x 9) (x 11) ∷ AddImm true 0 32 (x 9) (x 9) ∷ SubImm true 0 1 (x 10) (x 10) ∷ Cbnz true (2 ^ 19 - 3) (x 10) ∷ []
enter_of_one = refl

-- and lose it
leave_of_one : leave_list frame 3 3
    ≡ AddImm true 0 80 sp (x 9) ∷ St2g 0 (x 9) sp ∷ St2g 2 (x 9) sp ∷ St2g 4 (x 9) sp ∷ St2g 6 (x 9) sp ∷ St2g 8 (x 9) sp ∷ []
leave_of_one = refl

-- the twelve granules from a to the end of c have tag 0, and X28 is what it was
exit_of_three : exit_list frame
    ≡ AddImm true 0 48 sp (x 9) ∷ St2g 0 (x 9) sp ∷ St2g 2 (x 9) sp ∷ St2g 4 (x 9) sp ∷ St2g 6 (x 9) sp ∷ St2g 8 (x 9) sp
    ∷ St2g 10 (x 9) sp ∷ Ldr true 2 sp (x 28) ∷ []
exit_of_three = refl

-- the pointer to b is four granules on from the tagged base, with the next tag, and that to i has no tag
address_of_tagged : slot_address_list b (x 0) ≡ Addg 4 1 (x 28) (x 0) ∷ []
address_of_tagged = refl

address_of_safe : slot_address_list i (x 0) ≡ AddImm true 0 40 sp (x 0) ∷ []
address_of_safe = refl

-- more than 63 granules on, it takes three instructions
address_of_far : slot_address_list (record { start = 70000; bytes = 16; kind = Tagged; index = 14; inner = false }) (x 0)
    ≡ AddImm true 1 17 (x 28) (x 0) ∷ AddImm true 0 368 (x 0) (x 0) ∷ Addg 0 14 (x 0) (x 0) ∷ []
address_of_far = refl

-- a frame without tagged slots has nothing to do
entry_of_none : entry_list (record { slots = i ∷ []; temps = 0; bytes = 32 }) ≡ []
entry_of_none = refl

exit_of_none : exit_list (record { slots = i ∷ []; temps = 0; bytes = 32 }) ≡ []
exit_of_none = refl
