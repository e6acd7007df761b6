-- Examples: the tag of a granule and a pair below SP are stored and loaded again, a pair is loaded through a pointer, and two addresses
-- are put.
use Rattle.std.specs.Prelude.{◌≡◌, ℕ, ◌+◌, ◌-◌, ◌*◌, ◌%◌, ◌^◌, ◌<◌, [], ◌∷◌, ◌++◌, refl}
use Rattle.std.proofs.Common.{arith, ap, sym, ◌∙◌, subst}
use Rattle.mt_base.specs.Extension.{sign_extend}
use Rattle.mt_base.specs.Granules.{granule_of}
use Rattle.mt_base.specs.Laws.Memory.{store_tag_same}
use Rattle.mt_base.specs.Laws.Pointers.{tag_of-lt, tag_of-with_tag}
use Rattle.mt_base.specs.Memory.{load, store}
use Rattle.mt_base.specs.Pointers.{tag_of, address_of}
use Rattle.a64_code.specs.declared.instr.Instr.TheVariants.{Stg, Ldg, Stp, Ldp}
use Rattle.a64_code.specs.declared.instr.Reg.{Reg}
use Rattle.a64_code.specs.State.{State, tagged}
use Rattle.a64_code.specs.Stepped.{Leads}
use Rattle.a64_code.specs.Effect.{effect}
use Rattle.a64_laws.specs.Laws.Effects.Open.{IsReadable, IsOpen}
use Rattle.a64_laws.specs.Forms.{Points, stack_pointer, puts_bytes, puts_register, puts_registers, puts_tags}
use Rattle.a64_laws.specs.Runs.{Runs}
use Rattle.a64_laws.specs.Sequences.{address_instrs, IsPageNear}
use Rattle.a64_laws.specs.Laws.Addresses.{address_put}
use Rattle.a64_laws.specs.Laws.OpenMemory.{IsOpen-part, IsOpen-kept}
use Rattle.a64_laws.specs.Laws.Pairs.{pair_on, pair_stored_back, pair_loaded_back}
use Rattle.a64_laws.specs.Frames.{frame_pointer, link_register, HasRoom, HasPair}
use Rattle.a64_laws.specs.Laws.Frames.{HasPair-stored}
use Rattle.a64_laws.specs.Laws.PairsThrough.{pair_loaded_through}
use Rattle.a64_laws.specs.Laws.Pointers.{Points-on}
use Rattle.a64_laws.specs.Laws.Runs.{Runs-two, Runs-append}
use Rattle.a64_laws.specs.Laws.Tags.{tag_place_on, tag_stored, tag_loaded}

abbrev x0 : Reg
x0 = record { 0 = 0 }

abbrev x1 : Reg
x1 = record { 0 = 1 }

abbrev x2 : Reg
x2 = record { 0 = 2 }

-- X1 points to a granule: it gets the tag of X1, and X2 gets that of the granule
tag_read_back : (a : ℕ) (s : State) → address_of (s.register 1) ≡ a → a % 16 ≡ 0 → a + 16 < 2 ^ 56 → IsOpen s a 16 → s.pc + 8 < 2 ^ 64 →
    (t : State) × Runs (Stg 0 x1 x1 ∷ Ldg 0 x1 x2 ∷ []) 2 s t × (tag_of (t.register 2) ≡ tag_of (s.register 1))
unfolding puts_register puts_tags
tag_read_back a s points aligned below memory pc = (
  _,
  Runs-two (tag_stored 0 a x1 x1 s place aligned memory) refl
      (tag_loaded 0 a x1 x2 t (omega arith) place (IsOpen-part (granule_of a * 16) 16 (omega (arith, aligned)) (omega (arith, aligned))
      (IsOpen-kept (record { regions = refl; guard = refl }) memory)).readable) refl pc,
  tag_of-with_tag (s.register 2) (t.tag (granule_of a)) (omega (arith, own, tag_of-lt (s.register 1))) ∙ own,
)
  where
    t : State
    t = puts_tags (tagged 1 s.tag a (tag_of (s.register 1))) s

    place : address_of ((s.register 1 + 16 * sign_extend 9 64 0) % 2 ^ 64) ≡ a
    place = tag_place_on (s.register 1) a 0 (omega arith) points (omega (arith, below)) ∙ omega arith

    own : t.tag (granule_of a) ≡ tag_of (s.register 1)
    own = store_tag_same s.tag a (tag_of (s.register 1)) (granule_of a) refl

-- X1 points to a slot of 16 bytes with its tag: both halves of it are loaded
pair_read : (a tag : ℕ) (s : State) → Points (s.register 1) a tag → a % 16 ≡ 0 → a + 16 < 2 ^ 56 → IsReadable s a 16 →
    s.tag (granule_of a) ≡ tag → effect (Ldp 0 x2 x1 x0) s ≡ Leads (puts_registers x0 (load 8 s.byte a) x2 (load 8 s.byte (a + 8)) s)
pair_read a tag s points aligned below memory own =
    pair_loaded_through 0 a tag x2 x1 x0 s (omega arith) (omega arith) (omega arith)
    (rw (pair_on 0 (omega arith)) (subst (λ (at : ℕ). Points ((s.register 1 + 0) % 2 ^ 64) at tag) (let e : a + 0 ≡ a = omega arith in e)
    (Points-on 0 (omega (arith, below)) points))) (omega (arith, aligned)) memory
    (record {
      first = own;
      last = ap s.tag (let e : granule_of (a + 15) ≡ granule_of a = omega (arith, aligned) in e) ∙ own;
    })

-- a pair is kept in the 16 bytes below SP, and goes into X0 and X1
pair_kept : (s : State) → HasRoom 16 s → s.register 29 < 2 ^ 64 → s.register 30 < 2 ^ 64 → s.pc + 8 < 2 ^ 64 →
    (t : State) × Runs (Stp 126 link_register stack_pointer frame_pointer ∷ Ldp 126 x1 stack_pointer x0 ∷ []) 2 s t
    × (t.register 0 ≡ s.register 29) × (t.register 1 ≡ s.register 30)
unfolding puts_bytes puts_registers
pair_kept s room fits fits_too pc = (
  _,
  Runs-two (pair_stored_back 2 (s.sp - 16) link_register frame_pointer s (omega arith) (omega arith) (omega (arith, room.within))
      (omega (arith, room.aligned, room.within)) room.below room.memory) refl
      (pair_loaded_back 2 (s.sp - 16) x1 x0 t (omega arith) (omega arith) (omega arith) (omega arith) (omega (arith, room.within))
      (omega (arith, room.aligned, room.within)) room.below
      (IsOpen-kept (record { regions = refl; guard = refl }) room.memory).readable) refl pc,
  has.has_first,
  has.has_second,
)
  where
    t : State
    t = puts_bytes (store 8 (store 8 s.byte (s.sp - 16) (s.register 29)) (s.sp - 16 + 8) (s.register 30)) s

    has : HasPair t.byte (s.sp - 16) (s.register 29) (s.register 30)
    has = HasPair-stored s.byte (s.sp - 16) (s.register 29) (s.register 30) fits fits_too

-- one address goes into X0 and another into X1
both_put : (first second : ℕ) (s : State) → first < 2 ^ 64 → second < 2 ^ 64 → s.pc + 16 < 2 ^ 64 → IsPageNear s.pc first →
    IsPageNear (s.pc + 8) second →
    (t : State) × Runs (address_instrs s.pc first x0 ++ address_instrs (s.pc + 8) second x1) 4 s t × (t.register 0 ≡ first)
    × (t.register 1 ≡ second)
both_put first second s fits fits_too pc near near_too =
    let one = address_put first x0 s (omega arith) fits (omega (arith, pc)) near in
    let u : State = one.to in
    let at : u.pc ≡ s.pc + 8 = one.runs.pc in
    let two = address_put second x1 u (omega arith) fits_too (omega (arith, pc, at))
    (subst (λ (n : ℕ). IsPageNear n second) (sym at) near_too)
    in (
      two.to,
      Runs-append one.runs (subst (λ (n : ℕ). Runs (address_instrs n second x1) 2 u two.to) at two.runs),
      two.registers 0 (λ same. absurd (cc)) ∙ one.holds,
      two.holds,
    )
