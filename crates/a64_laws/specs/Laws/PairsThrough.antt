-- Stores and loads of a pair of registers through a pointer, whose tag has to be that of each granule touched (this project's own).
use Rattle.std.specs.Prelude.{◌≡◌, ℕ, ◌+◌, ◌-◌, ◌*◌, ◌%◌, ◌^◌, ◌<◌, Bool, true, false, Some, refl}
use Rattle.std.proofs.Common.{arith, ap, ◌∙◌, inl, inr}
use Rattle.std.proofs.lemmas.Bool.{lt-ltb}
use Rattle.mt_base.specs.Extension.{sign_extend}
use Rattle.mt_base.specs.Memory.{load, store}
use Rattle.mt_base.specs.Pointers.{address_of}
use Rattle.a64_code.specs.declared.instr.Instr.TheVariants.{Stp, Ldp}
use Rattle.a64_code.specs.declared.instr.Reg.{Reg}
use Rattle.a64_code.specs.declared.end.MachineEnd.TheVariants.{TagFault}
use Rattle.a64_code.specs.State.{State, general}
use Rattle.a64_code.specs.Stepped.{Leads, Ends}
use Rattle.a64_code.specs.Access.{pair, access_end}
use Rattle.a64_laws.specs.Laws.Effects.Accesses.{IsAdmitted, IsAllowed, access_end-tag, access_end-second_tag}
use Rattle.a64_code.specs.Results.{result_of}
use Rattle.a64_laws.specs.Laws.Effects.Open.{IsReadable, IsOpen, in_readable, in_open, loads_pair-done, stores_pair-done}
use Rattle.a64_code.specs.Effect.{effect}
use Rattle.a64_laws.specs.Forms.{Points, PairAgrees, PairDiffers, puts_bytes, puts_registers}

-- ---- what both have in common

readable : (pointer at tag : ℕ) (s : State) → Points pointer at tag → at % 8 ≡ 0 → IsReadable s at 16 →
    IsAdmitted s (pair pointer false true)
readable pointer at tag s points aligned memory =
    in_readable s (pair pointer false true) at 16 memory
    (record { from = omega (arith, points.is_at); to = omega (arith, points.is_at) }) refl (rw points.is_at aligned)

writable : (pointer at tag : ℕ) (s : State) → Points pointer at tag → at % 8 ≡ 0 → IsOpen s at 16 → IsAdmitted s (pair pointer true true)
writable pointer at tag s points aligned memory =
    in_open s (pair pointer true true) at 16 memory (record { from = omega (arith, points.is_at); to = omega (arith, points.is_at) })
    (rw points.is_at aligned)

last_byte : (at : ℕ) → at + 16 - 1 ≡ at + 15
last_byte at = omega arith

allowed : (writes : Bool) (pointer at tag : ℕ) (s : State) → Points pointer at tag → IsAdmitted s (pair pointer writes true) →
    PairAgrees s at tag → IsAllowed s (pair pointer writes true)
allowed writes pointer at tag s points admitted agrees = record {
  admitted = admitted;
  tags = λ _. record {
    first = rw (points.is_at, points.has_tag) agrees.first;
    last = rw (points.is_at, points.has_tag, last_byte at) agrees.last;
  };
}

caught : (writes : Bool) (pointer at tag found : ℕ) (s : State) → Points pointer at tag → IsAdmitted s (pair pointer writes true) →
    PairDiffers s at tag found → access_end s (pair pointer writes true) ≡ Some (TagFault at tag found)
caught writes pointer at tag found s points admitted (inl differs) =
    access_end-tag s (pair pointer writes true) admitted refl (rw (points.is_at, points.has_tag, differs.0) differs.1)
    ∙ rw (points.is_at, points.has_tag, differs.0) refl
caught writes pointer at tag found s points admitted (inr differs) =
    access_end-second_tag s (pair pointer writes true) admitted refl (rw (points.is_at, points.has_tag) differs.0)
    (rw (points.is_at, points.has_tag, last_byte at, differs.1) differs.2)
    ∙ rw (points.is_at, points.has_tag, last_byte at, differs.1) refl

-- ---- stores

pub pair_stored_through : (imm7 at tag : ℕ) (rt2 rn rt : Reg) (s : State) → rn.0 < 31 →
    Points ((s.register rn.0 + 8 * sign_extend 7 64 imm7) % 2 ^ 64) at tag → at % 8 ≡ 0 → IsOpen s at 16 → PairAgrees s at tag →
    effect (Stp imm7 rt2 rn rt) s ≡ Leads (puts_bytes (store 8 (store 8 s.byte at (general s rt)) (at + 8) (general s rt2)) s)
unfolding puts_bytes
pair_stored_through imm7 at tag rt2 rn rt s base points aligned memory agrees =
    rw (lt-ltb rn.0 31 base) (stores_pair-done pointer true (general s rt) (general s rt2) s
    (allowed true pointer at tag s points (writable pointer at tag s points aligned memory) agrees)
    ∙ ap (λ (a : ℕ). Leads (puts_bytes (store 8 (store 8 s.byte a (general s rt)) (a + 8) (general s rt2)) s)) points.is_at)
  where
    pointer : ℕ
    pointer = (s.register rn.0 + 8 * sign_extend 7 64 imm7) % 2 ^ 64

-- nothing is stored where a granule's tag differs
pub pair_store_caught : (imm7 at tag found : ℕ) (rt2 rn rt : Reg) (s : State) → rn.0 < 31 →
    Points ((s.register rn.0 + 8 * sign_extend 7 64 imm7) % 2 ^ 64) at tag → at % 8 ≡ 0 → IsOpen s at 16 → PairDiffers s at tag found →
    effect (Stp imm7 rt2 rn rt) s ≡ Ends (TagFault at tag found)
pair_store_caught imm7 at tag found rt2 rn rt s base points aligned memory differs =
    rw (lt-ltb rn.0 31 base, caught true _ at tag found s points (writable _ at tag s points aligned memory) differs) refl

-- ---- loads

pub pair_loaded_through : (imm7 at tag : ℕ) (rt2 rn rt : Reg) (s : State) → rn.0 < 31 → rt.0 < 31 → rt2.0 < 31 →
    Points ((s.register rn.0 + 8 * sign_extend 7 64 imm7) % 2 ^ 64) at tag → at % 8 ≡ 0 → IsReadable s at 16 → PairAgrees s at tag →
    effect (Ldp imm7 rt2 rn rt) s ≡ Leads (puts_registers rt (load 8 s.byte at) rt2 (load 8 s.byte (at + 8)) s)
unfolding puts_registers
pair_loaded_through imm7 at tag rt2 rn rt s base first second points aligned memory agrees =
    rw (lt-ltb rn.0 31 base) (loads_pair-done (pair pointer false true) (result_of false true rt (load 8 s.byte (address_of pointer)))
    (result_of false true rt2 (load 8 s.byte (address_of pointer + 8))) s
    (allowed false pointer at tag s points (readable pointer at tag s points aligned memory) agrees)
    ∙ rw (lt-ltb rt.0 31 first, lt-ltb rt2.0 31 second)
    (ap (λ (a : ℕ). Leads (puts_registers rt (load 8 s.byte a) rt2 (load 8 s.byte (a + 8)) s)) points.is_at))
  where
    pointer : ℕ
    pointer = (s.register rn.0 + 8 * sign_extend 7 64 imm7) % 2 ^ 64

pub pair_load_caught : (imm7 at tag found : ℕ) (rt2 rn rt : Reg) (s : State) → rn.0 < 31 →
    Points ((s.register rn.0 + 8 * sign_extend 7 64 imm7) % 2 ^ 64) at tag → at % 8 ≡ 0 → IsReadable s at 16 → PairDiffers s at tag found →
    effect (Ldp imm7 rt2 rn rt) s ≡ Ends (TagFault at tag found)
pair_load_caught imm7 at tag found rt2 rn rt s base points aligned memory differs =
    rw (lt-ltb rn.0 31 base, caught false _ at tag found s points (readable _ at tag s points aligned memory) differs) refl
