-- An example: a global is loaded through its slot of the GOT.
use Rattle.std.specs.Prelude.{◌≡◌, ℕ, ◌+◌, ◌*◌, ◌%◌, ◌^◌, ◌<◌, true, [], ◌∷◌, ◌++◌, refl}
use Rattle.std.proofs.Common.{arith, ap, sym, ◌∙◌, subst}
use Rattle.mt_base.specs.Granules.{granule_of}
use Rattle.mt_base.specs.Memory.{load}
use Rattle.a64_code.specs.declared.instr.Instr.TheVariants.{Ldr}
use Rattle.a64_code.specs.State.{State}
use Rattle.a64_laws.specs.Laws.Effects.Open.{IsReadable}
use Rattle.a64_laws.specs.Forms.{Points, Whole, x0, puts_register}
use Rattle.a64_laws.specs.Runs.{Runs}
use Rattle.a64_laws.specs.Sequences.{got_instrs, IsPageNear}
use Rattle.a64_laws.specs.Laws.Addresses.{got_loaded}
use Rattle.a64_laws.specs.Laws.Loads.{load_through}
use Rattle.a64_laws.specs.Laws.OpenMemory.{IsReadable-kept}
use Rattle.a64_laws.specs.Laws.Runs.{Runs-append, Runs-one}

-- a word that can be read, with a tag
record IsWord (s : State) (at tag : ℕ) : Type 0 where
  below : at < 2 ^ 48
  aligned : at % 8 ≡ 0
  memory : IsReadable s at 8
  tagged : s.tag (granule_of at) ≡ tag

-- The slot has the address and the tag of the global. X0 gets the number there.
loaded : (slot at tag : ℕ) (s : State) → IsWord s slot 0 → IsWord s at tag → tag < 16 → load 8 s.byte slot ≡ at + tag * 2 ^ 56 →
    IsPageNear s.pc slot → s.pc + 12 < 2 ^ 64 →
    (t : State) × Runs (got_instrs s.pc slot x0 ++ (Ldr true 0 x0 x0 ∷ [])) 3 s t × (t.register 0 ≡ load 8 s.byte at)
unfolding puts_register
loaded slot at tag s is_slot is_global small holds near pc =
    let got = got_loaded slot x0 s (omega arith) (omega (arith, is_slot.below)) is_slot.aligned is_slot.memory is_slot.tagged
    (omega (arith, pc)) near in
    let u : State = got.to in
    let points : Points ((u.register 0 + 0) % 2 ^ 64) at tag =
    subst (λ (p : ℕ). Points ((p + 0) % 2 ^ 64) at tag) (sym (got.holds ∙ holds))
    (record { is_at = omega (arith, is_global.below, small); has_tag = omega (arith, is_global.below, small) }) in (
      puts_register x0 (load 8 u.byte at) u,
      Runs-append got.runs (Runs-one (load_through Whole 0 at tag x0 x0 u (omega arith) (omega arith) points is_global.aligned
          (IsReadable-kept (record { regions = got.same.regions; guard = got.same.guard }) is_global.memory)
          (ap (λ (tags : ℕ → ℕ). tags (granule_of at)) got.same.tag ∙ is_global.tagged)) refl
          (omega (arith, pc, got.runs.pc))),
      ap (λ (byte : ℕ → ℕ). load 8 byte at) got.same.byte,
    )
