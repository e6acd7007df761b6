-- Examples: the entry of a function with two tagged slots. Their pointers are made, their granules cleared, and an access from one slot to
-- the other is caught.
use Rattle.std.specs.Prelude.{◌≡◌, ℕ, ◌+◌, ◌-◌, ◌*◌, ◌%◌, ◌^◌, ◌<◌, true, List, [], ◌∷◌, ◌++◌, refl}
use Rattle.std.proofs.Common.{arith, ap, sym, ◌∙◌, subst}
use Rattle.mt_base.specs.Extension.{sign_extend}
use Rattle.mt_base.specs.Granules.{granule_of}
use Rattle.mt_base.specs.Laws.Memory.{store_tag_same}
use Rattle.mt_base.specs.Laws.SlotTags.{slot_tag_apart}
use Rattle.mt_base.specs.Memory.{is_between, store}
use Rattle.mt_base.specs.Pointers.{tag_of, with_tag, address_of}
use Rattle.mt_base.specs.Tags.{next_tag, zero_excluded, base, slot_tag}
use Rattle.a64_code.specs.declared.end.MachineEnd.TheVariants.{TagFault}
use Rattle.a64_code.specs.declared.instr.Instr.{Instr}
use Rattle.a64_code.specs.declared.instr.Instr.TheVariants.{SubImm, AddImm, Irg, Addg, Stzg, Stz2g, Ldr}
use Rattle.a64_code.specs.declared.instr.Reg.{Reg}
use Rattle.a64_code.specs.State.{State, tagged}
use Rattle.a64_code.specs.Stepped.{Leads, Ends}
use Rattle.a64_code.specs.Effect.{effect}
use Rattle.a64_code.specs.TagInstructions.{next_choice}
use Rattle.a64_laws.specs.Forms.{Points, Whole, stack_pointer, zero_register, x0}
use Rattle.a64_laws.specs.Forms.{puts_register, puts_sp, puts_bytes, with_tags, draws_choice}
use Rattle.a64_laws.specs.Frames.{HasRoom}
use Rattle.a64_laws.specs.Runs.{Runs, RunsInto}
use Rattle.a64_laws.specs.Laws.Effects.Open.{IsOpen}
use Rattle.a64_laws.specs.Laws.Effects.Stores.{tagged_inside}
use Rattle.a64_laws.specs.Laws.Loads.{load_caught}
use Rattle.a64_laws.specs.Laws.Numbers.{store-byte}
use Rattle.a64_laws.specs.Laws.OpenMemory.{IsOpen-part, IsOpen-kept}
use Rattle.a64_laws.specs.Laws.Pointers.{Points-address, Points-on}
use Rattle.a64_laws.specs.Laws.Results.{sp_lowered, sp_plus}
use Rattle.a64_laws.specs.Laws.Runs.{Runs-two, Runs-cons, RunsInto-one, RunsInto-behind}
use Rattle.a64_laws.specs.Laws.Tags.{base_inserted, Points-base, tag_stepped, Points-slot, tag_place_on, tag_place_back}
use Rattle.a64_laws.specs.Laws.Tags.{granule_cleared, two_granules_cleared}

abbrev x9 : Reg
x9 = record { 0 = 9 }

abbrev x10 : Reg
x10 = record { 0 = 10 }

abbrev x11 : Reg
x11 = record { 0 = 11 }

-- 48 bytes of frame: 16 for a pair, and behind them two slots of 16 with X10 and X11 for pointers
abbrev enters : List Instr
enters = SubImm true 0 48 stack_pointer stack_pointer ∷ AddImm true 0 16 stack_pointer x9 ∷ Irg zero_register x9 x9 ∷ Addg 0 1 x9 x10
    ∷ Addg 1 2 x9 x11 ∷ []

record Slots (at choice : ℕ) (s : State) : Type 0 where
  first : Points (s.register 10) at (slot_tag choice 1)
  second : Points (s.register 11) (at + 16) (slot_tag choice 2)
  memory : IsOpen s at 32
  aligned : at % 16 ≡ 0
  below : at + 32 < 2 ^ 56

entered : (s : State) → HasRoom 48 s → s.pc + 20 < 2 ^ 64 → (t : State) × Runs enters 5 s t × Slots (s.sp - 32) (next_choice s) t
unfolding puts_sp puts_register draws_choice
entered s room pc = (
  _,
  Runs-cons (sp_lowered 0 48 48 s refl room.within (omega (arith, room.below)) (omega arith)) refl (omega (arith, pc))
      (Runs-cons (sp_plus 0 16 16 x9 t (omega arith) refl (omega (arith, room.below))) refl (omega (arith, pc))
      (Runs-cons (base_inserted x9 x9 u (omega arith)) refl (omega (arith, pc))
      (Runs-two (tag_stepped 0 1 x9 x10 v (omega arith) (omega arith)) refl (tag_stepped 1 2 x9 x11 w (omega arith) (omega arith)) refl
      (omega (arith, pc))))),
  record {
    first = subst (λ (at : ℕ). Points (w.register 10) at (slot_tag (next_choice s) 1))
        (let e : s.sp - 32 + 16 * 0 ≡ s.sp - 32 = omega arith in e)
        (Points-slot (v.register 9) (s.sp - 32) (next_choice s) 0 1 (omega (arith, room.below)) points);
    second = Points-slot (v.register 9) (s.sp - 32) (next_choice s) 1 2 (omega (arith, room.below, room.within)) points;
    memory = IsOpen-kept (record { regions = refl; guard = refl })
        (IsOpen-part (s.sp - 32) 32 (omega (arith, room.within)) (omega (arith, room.within)) room.memory);
    aligned = omega (arith, room.aligned, room.within);
    below = omega (arith, room.below, room.within);
  },
)
  where
    t : State
    t = puts_sp (s.sp - 48) s

    u : State
    u = puts_register x9 (s.sp - 48 + 16) t

    v : State
    v = puts_register x9 (with_tag (s.sp - 48 + 16) (base (next_choice s))) (draws_choice u)

    w : State
    w = puts_register x10 (with_tag ((v.register 9 + 16 * 0) % 2 ^ 64) (next_tag (tag_of (v.register 9)) 1 zero_excluded)) v

    points : Points (v.register 9) (s.sp - 32) (base (next_choice s))
    points = Points-base (s.sp - 48 + 16) (s.sp - 32) 0 (next_choice s) (subst (λ (at : ℕ). Points (s.sp - 48 + 16) at 0)
        (let e : s.sp - 48 + 16 ≡ s.sp - 32 = omega (arith, room.within) in e)
        (Points-address (s.sp - 48 + 16) (omega (arith, room.below))))

-- each slot gets its tag and zeros, and a load behind the end of the first one ends the run with both tags
abbrev clears : List Instr
clears = Stzg 511 x11 x10 ∷ Stzg 0 x11 x11 ∷ []

caught : (at choice : ℕ) (s : State) → Slots at choice s → choice < 16 → s.pc + 8 < 2 ^ 64 →
    (t : State) × RunsInto (clears ++ Ldr true 2 x10 x0 ∷ []) 2 s t (TagFault (at + 16) (slot_tag choice 1) (slot_tag choice 2))
unfolding puts_bytes with_tags
caught at choice s slots small pc = (
  _,
  RunsInto-behind (Runs-two (granule_cleared 511 at x11 x10 s first_place slots.aligned (IsOpen-part at 16 (omega arith) (omega arith)
      slots.memory)) refl
      (granule_cleared 0 (at + 16) x11 x11 t second_place (omega (arith, slots.aligned)) open_second) refl pc)
      (RunsInto-one (load_caught Whole 2 (at + 16) (slot_tag choice 1) x10 x0 u (omega arith)
      (Points-on 16 (omega (arith, slots.below)) slots.first) (omega (arith, slots.aligned))
      open_last.readable
      (λ same. slot_tag_apart choice 1 2 small (omega arith) (omega arith) (λ one. absurd (cc)) (sym same ∙ own))
      ∙ ap (λ (tag : ℕ). Ends (TagFault (at + 16) (slot_tag choice 1) tag)) own)),
)
  where
    t : State
    t = puts_bytes (store 16 s.byte at 0) (with_tags (tagged 1 s.tag at (tag_of (s.register 10))) s)

    u : State
    u = puts_bytes (store 16 t.byte (at + 16) 0) (with_tags (tagged 1 t.tag (at + 16) (tag_of (s.register 11))) t)

    first_place : address_of ((s.register 11 + 16 * sign_extend 9 64 511) % 2 ^ 64) ≡ at
    first_place = tag_place_back (s.register 11) (at + 16) 1 (omega arith) (omega arith) slots.second.is_at (omega arith) ∙ omega arith

    second_place : address_of ((s.register 11 + 16 * sign_extend 9 64 0) % 2 ^ 64) ≡ at + 16
    second_place = tag_place_on (s.register 11) (at + 16) 0 (omega arith) slots.second.is_at (omega (arith, slots.below)) ∙ omega arith

    open_second : IsOpen t (at + 16) 16
    open_second = IsOpen-kept (record { regions = refl; guard = refl }) (IsOpen-part (at + 16) 16 (omega arith) (omega arith) slots.memory)

    open_last : IsOpen u (at + 16) 8
    open_last = IsOpen-kept (record { regions = refl; guard = refl }) (IsOpen-part (at + 16) 8 (omega arith) (omega arith) open_second)

    own : u.tag (granule_of (at + 16)) ≡ slot_tag choice 2
    own = store_tag_same t.tag (at + 16) (tag_of (s.register 11)) (granule_of (at + 16)) refl ∙ slots.second.has_tag

-- by STZ2G both granules get one tag, and zeros
both_cleared : (at choice : ℕ) (s : State) → Slots at choice s →
    (t : State) × (effect (Stz2g 0 x10 x10) s ≡ Leads t) × (t.byte (at + 20) ≡ 0)
    × ((granule : ℕ) → is_between (granule_of at) 2 granule ≡ true → t.tag granule ≡ slot_tag choice 1)
unfolding puts_bytes with_tags
both_cleared at choice s slots = (
  _,
  two_granules_cleared 0 at x10 x10 s place slots.aligned slots.memory,
  store-byte 32 s.byte at 0 20 (omega arith),
  λ granule inside. tagged_inside 2 s.tag at (tag_of (s.register 10)) granule inside ∙ slots.first.has_tag,
)
  where
    place : address_of ((s.register 10 + 16 * sign_extend 9 64 0) % 2 ^ 64) ≡ at
    place = tag_place_on (s.register 10) at 0 (omega arith) slots.first.is_at (omega (arith, slots.below)) ∙ omega arith
