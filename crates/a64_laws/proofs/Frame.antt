-- An example: a function's entry and exit, where SP, X29 and X30 come back.
use Rattle.std.specs.Prelude.{◌≡◌, ◌+◌, ◌-◌, ◌^◌, ◌<◌, true, List, [], ◌∷◌, refl}
use Rattle.std.proofs.Common.{arith, ◌∙◌}
use Rattle.mt_base.specs.Laws.Memory.{load-store_same}
use Rattle.mt_base.specs.Memory.{load}
use Rattle.a64_code.specs.declared.instr.Instr.{Instr}
use Rattle.a64_code.specs.declared.instr.Instr.TheVariants.{SubImm, AddImm, Str, Stp, Ldp}
use Rattle.a64_code.specs.State.{State}
use Rattle.a64_code.specs.Stepped.{Leads}
use Rattle.a64_code.specs.Effect.{effect}
use Rattle.a64_laws.specs.Forms.{stack_pointer, x0, StoreWhole, SameRegions, puts_registers, puts_sp, puts_bytes}
use Rattle.a64_laws.specs.Frames.{frame_pointer, link_register, HasRoom, HasPair}
use Rattle.a64_laws.specs.Runs.{Runs}
use Rattle.a64_laws.specs.Laws.Frames.{HasPair-stored, HasPair-below, HasPair-above}
use Rattle.a64_laws.specs.Laws.OpenMemory.{IsOpen-part, IsOpen-kept}
use Rattle.a64_laws.specs.Laws.Pairs.{pair_stored, pair_loaded, pair_stored_back}
use Rattle.a64_laws.specs.Laws.Results.{sp_lowered, sp_raised}
use Rattle.a64_laws.specs.Laws.Runs.{Runs-two}
use Rattle.a64_laws.specs.Laws.Stores.{store_at_sp}

abbrev entry : List Instr
entry = SubImm true 0 32 stack_pointer stack_pointer ∷ Stp 0 link_register stack_pointer frame_pointer ∷ []

abbrev leave : List Instr
leave = Ldp 0 link_register stack_pointer frame_pointer ∷ AddImm true 0 32 stack_pointer stack_pointer ∷ []

-- in the function's frame SP is 32 lower, and the pair stands there
record Framed (s t : State) : Type 0 where
  sp : t.sp ≡ s.sp - 32
  pair : HasPair t.byte (s.sp - 32) (s.register 29) (s.register 30)
  regions : SameRegions s t

entered : (s : State) → HasRoom 32 s → s.register 29 < 2 ^ 64 → s.register 30 < 2 ^ 64 → s.pc + 8 < 2 ^ 64 →
    (t : State) × Runs entry 2 s t × Framed s t
unfolding puts_registers puts_sp puts_bytes
entered s room fits fits_too pc = (
  _,
  Runs-two (sp_lowered 0 32 32 s refl room.within (omega (arith, room.below)) (omega arith)) refl
      (pair_stored 0 (s.sp - 32) link_register frame_pointer (puts_sp (s.sp - 32) s) (omega arith) (omega arith)
      (omega (arith, room.aligned, room.within)) (omega (arith, room.below)) (IsOpen-kept (record { regions = refl; guard = refl })
      (IsOpen-part (s.sp - 32) 16 (omega arith) (omega arith) room.memory))) refl pc,
  record {
    sp = refl;
    pair = HasPair-stored s.byte (s.sp - 32) (s.register 29) (s.register 30) fits fits_too;
    regions = record { regions = refl; guard = refl };
  },
)

-- from any state in the frame all three are as they were
left : (s t : State) → HasRoom 32 s → Framed s t → t.pc + 8 < 2 ^ 64 →
    (u : State) × Runs leave 2 t u × (u.sp ≡ s.sp) × (u.register 29 ≡ s.register 29) × (u.register 30 ≡ s.register 30)
unfolding puts_registers puts_sp puts_bytes
left s t room framed pc = (
  _,
  Runs-two (pair_loaded 0 (s.sp - 32) link_register frame_pointer t (omega arith) (omega arith) (omega arith) (omega (arith, framed.sp))
      (omega (arith, room.aligned, room.within)) (omega (arith, room.below)) (IsOpen-kept framed.regions
      (IsOpen-part (s.sp - 32) 16 (omega arith) (omega arith) room.memory)).readable) refl
      (sp_raised 0 32 32 _ refl (omega (arith, framed.sp, room.below, room.within))) refl pc,
  omega (arith, framed.sp, room.within),
  framed.pair.has_first,
  framed.pair.has_second,
)

-- in the frame X0 is stored behind the pair, and the pair is still there
local_stored : (s t : State) → HasRoom 32 s → Framed s t → t.register 0 < 2 ^ 64 →
    (u : State) × (effect (Str true 2 stack_pointer x0) t ≡ Leads u) × Framed s u × (load 8 u.byte (s.sp - 16) ≡ t.register 0)
unfolding puts_bytes
local_stored s t room framed fits = (
  _,
  store_at_sp StoreWhole 2 (s.sp - 16) x0 t (omega (arith, framed.sp, room.within)) (omega (arith, room.below))
      (omega (arith, room.aligned, room.within)) (IsOpen-kept framed.regions
      (IsOpen-part (s.sp - 16) 8 (omega (arith, room.within)) (omega (arith, room.within)) room.memory)),
  record {
    sp = framed.sp;
    pair = HasPair-below 8 (s.sp - 16) (t.register 0) (omega (arith, room.within)) framed.pair;
    regions = record { regions = framed.regions.regions; guard = framed.regions.guard };
  },
  load-store_same 8 t.byte (s.sp - 16) (t.register 0) ∙ omega (arith, fits),
)

-- and so it is where another pair is stored below SP, as at the entry of a function that is called
called : (s t : State) → HasRoom 48 s → Framed s t →
    (u : State) × (effect (Stp 126 link_register stack_pointer frame_pointer) t ≡ Leads u) × Framed s u
unfolding puts_bytes
called s t room framed = (
  _,
  pair_stored_back 2 (s.sp - 48) link_register frame_pointer t (omega arith) (omega arith) (omega (arith, framed.sp, room.within))
      (omega (arith, room.aligned, room.within)) (omega (arith, framed.sp, room.below))
      (IsOpen-kept framed.regions (IsOpen-part (s.sp - 48) 16 (omega arith) (omega arith) room.memory)),
  record {
    sp = framed.sp;
    pair = HasPair-above 8 (s.sp - 48 + 8) (t.register 30) (omega (arith, room.within))
        (HasPair-above 8 (s.sp - 48) (t.register 29) (omega (arith, room.within)) framed.pair);
    regions = record { regions = framed.regions.regions; guard = framed.regions.guard };
  },
)
