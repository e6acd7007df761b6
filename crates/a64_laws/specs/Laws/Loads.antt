-- Loads at SP, which no tag judges, and through a pointer, which its tag does (this project's own).
use Rattle.std.specs.Prelude.{◌≡◌, ◌≢◌, ℕ, ◌+◌, ◌-◌, ◌*◌, ◌%◌, ◌^◌, ◌<◌, ◌≤◌, Bool, true, false, refl}
use Rattle.std.proofs.Common.{arith, ap, sym, ◌∙◌, inl, inr}
use Rattle.std.proofs.lemmas.Bool.{lt-ltb, cases_lt}
use Rattle.mt_base.specs.Extension.{sign_extend}
use Rattle.mt_base.specs.Laws.Extension.{sign_extend-lt, sign_extend_low, sign_extend_high, zero_extend-zero_extend_narrower}
use Rattle.a64_alu.specs.Width.{of_width}
use Rattle.mt_base.specs.Granules.{granule_of}
use Rattle.mt_base.specs.Memory.{load}
use Rattle.mt_base.specs.Pointers.{address_of}
use Rattle.a64_code.specs.declared.instr.Reg.{Reg}
use Rattle.a64_code.specs.declared.end.MachineEnd.TheVariants.{TagFault}
use Rattle.a64_code.specs.State.{State}
use Rattle.a64_code.specs.Stepped.{Stepped, Leads, Ends}
use Rattle.a64_code.specs.Access.{single}
use Rattle.a64_laws.specs.Laws.Effects.Accesses.{IsSize, IsAdmitted, IsAllowed}
use Rattle.a64_code.specs.Shape.{Loads, done}
use Rattle.a64_code.specs.Results.{result_of}
use Rattle.a64_laws.specs.Laws.Effects.Open.{IsReadable, in_readable, allowed_unchecked, allowed_single, loads-done, loads-caught}
use Rattle.a64_code.specs.Effect.{effect}
use Rattle.a64_laws.specs.Forms.{Points, Load, Whole, Word, Half, Byte, SignedWord, SignedHalf, SignedByte, load_size, extended}
use Rattle.a64_laws.specs.Forms.{load_instr, stack_pointer, puts_register}
use Rattle.a64_laws.specs.Laws.Pointers.{sp_address}

pub load_is_size : (l : Load) → IsSize (load_size l)
load_is_size Whole = inr (inr (inr refl))
load_is_size Word = inr (inr (inl refl))
load_is_size Half = inr (inl refl)
load_is_size Byte = inl refl
load_is_size SignedWord = inr (inr (inl refl))
load_is_size SignedHalf = inr (inl refl)
load_is_size SignedByte = inl refl

-- ---- what the loads have in common

abbrev loaded : ℕ → (ℕ → ℕ) → ℕ → Bool → Reg → State → Stepped
loaded n ext pointer checked rt s =
    done (Loads (single n pointer false checked) (result_of false true rt (ext (load n s.byte (address_of pointer))))) s

single_done : (n : ℕ) (ext : ℕ → ℕ) (pointer at : ℕ) (checked : Bool) (rt : Reg) (s : State)
    → IsAllowed s (single n pointer false checked) →
    rt.0 < 31 → address_of pointer ≡ at → loaded n ext pointer checked rt s ≡ Leads (puts_register rt (ext (load n s.byte at)) s)
unfolding puts_register
single_done n ext pointer at checked rt s allowed small same =
    loads-done (single n pointer false checked) (result_of false true rt (ext (load n s.byte (address_of pointer)))) s allowed
    ∙ rw (lt-ltb rt.0 31 small, same) refl

admitted_at : (n pointer at : ℕ) (checked : Bool) (s : State) → address_of pointer ≡ at → at % n ≡ 0 → IsReadable s at n →
    IsAdmitted s (single n pointer false checked)
admitted_at n pointer at checked s same aligned memory =
    in_readable s (single n pointer false checked) at n memory (record { from = omega (arith, same); to = omega (arith, same) }) refl
    (rw same aligned)

at_sp : (n : ℕ) (ext : ℕ → ℕ) (pointer at : ℕ) (rt : Reg) (s : State) → rt.0 < 31 → address_of pointer ≡ at → at % n ≡ 0 →
    IsReadable s at n → loaded n ext pointer false rt s ≡ Leads (puts_register rt (ext (load n s.byte at)) s)
unfolding puts_register
at_sp n ext pointer at rt s small same aligned memory =
    single_done n ext pointer at false rt s
    (allowed_unchecked s (single n pointer false false) (admitted_at n pointer at false s same aligned memory) refl) small same

through : (n : ℕ) (ext : ℕ → ℕ) (pointer at tag : ℕ) (rt : Reg) (s : State) → IsSize n → rt.0 < 31 → Points pointer at tag →
    at % n ≡ 0 → IsReadable s at n → s.tag (granule_of at) ≡ tag →
    loaded n ext pointer true rt s ≡ Leads (puts_register rt (ext (load n s.byte at)) s)
unfolding puts_register
through n ext pointer at tag rt s size small points aligned memory agrees =
    single_done n ext pointer at true rt s
    (allowed_single s n pointer false true size (admitted_at n pointer at true s points.is_at aligned memory)
    (rw (points.is_at, points.has_tag) agrees))
    small points.is_at

caught : (n : ℕ) (ext : ℕ → ℕ) (pointer at tag : ℕ) (rt : Reg) (s : State) → Points pointer at tag → at % n ≡ 0 →
    IsReadable s at n → s.tag (granule_of at) ≢ tag → loaded n ext pointer true rt s ≡ Ends (TagFault at tag (s.tag (granule_of at)))
caught n ext pointer at tag rt s points aligned memory differs =
    loads-caught n pointer (result_of false true rt (ext (load n s.byte (address_of pointer)))) s
    (admitted_at n pointer at true s points.is_at aligned memory) (rw (points.is_at, points.has_tag) differs)
    ∙ rw (points.is_at, points.has_tag) refl

-- ---- at SP

-- each kind of load is one of these
loads_at_sp : (l : Load) (imm12 : ℕ) (rt : Reg) (s : State) → effect (load_instr l imm12 stack_pointer rt) s ≡
    loaded (load_size l) (extended l) ((s.sp + imm12 * load_size l) % 2 ^ 64) false rt s
loads_at_sp Whole imm12 rt s = refl
loads_at_sp Word imm12 rt s = refl
loads_at_sp Half imm12 rt s = refl
loads_at_sp Byte imm12 rt s = refl
loads_at_sp SignedWord imm12 rt s = refl
loads_at_sp SignedHalf imm12 rt s = refl
loads_at_sp SignedByte imm12 rt s = refl

pub load_at_sp : (l : Load) (imm12 at : ℕ) (rt : Reg) (s : State) → rt.0 < 31 → at ≡ s.sp + imm12 * load_size l → at < 2 ^ 56 →
    at % load_size l ≡ 0 → IsReadable s at (load_size l) →
    effect (load_instr l imm12 stack_pointer rt) s ≡ Leads (puts_register rt (extended l (load (load_size l) s.byte at)) s)
load_at_sp l imm12 at rt s small is below aligned memory =
    loads_at_sp l imm12 rt s
    ∙ at_sp (load_size l) (extended l) ((s.sp + imm12 * load_size l) % 2 ^ 64) at rt s small
    (sp_address s.sp (load_size l) imm12 at is below) aligned memory

-- ---- in 32 bits

-- a signed number of fewer bits that was extended to 64 is, in the lower 32 bits of its register, extended to 32
pub signed_low : (bits value : ℕ) → bits ≤ 32 → of_width false (sign_extend bits 64 value) ≡ sign_extend bits 32 value
signed_low bits value few = elim (cases_lt (value % 2 ^ bits) (2 ^ (bits - 1))) [
  | inl low ↦
      ap (λ (n : ℕ). n % 2 ^ 32) (sign_extend_low bits 64 value (omega (arith, few)) low)
      ∙ zero_extend-zero_extend_narrower bits 32 value few ∙ sym (sign_extend_low bits 32 value few low)
  | inr high ↦
      omega (
        arith,
        sign_extend_high bits 64 value (omega (arith, few)) high,
        sign_extend_high bits 32 value few high,
        sign_extend-lt bits 32 value,
      )
]

-- ---- through a pointer

-- each kind of load is one of these
loads_through : (l : Load) (imm12 : ℕ) (rn rt : Reg) (s : State) → rn.0 < 31 → effect (load_instr l imm12 rn rt) s ≡
    loaded (load_size l) (extended l) ((s.register rn.0 + imm12 * load_size l) % 2 ^ 64) true rt s
loads_through Whole imm12 rn rt s base = rw (lt-ltb rn.0 31 base) refl
loads_through Word imm12 rn rt s base = rw (lt-ltb rn.0 31 base) refl
loads_through Half imm12 rn rt s base = rw (lt-ltb rn.0 31 base) refl
loads_through Byte imm12 rn rt s base = rw (lt-ltb rn.0 31 base) refl
loads_through SignedWord imm12 rn rt s base = rw (lt-ltb rn.0 31 base) refl
loads_through SignedHalf imm12 rn rt s base = rw (lt-ltb rn.0 31 base) refl
loads_through SignedByte imm12 rn rt s base = rw (lt-ltb rn.0 31 base) refl

-- the tag of the granule is the pointer's
pub load_through : (l : Load) (imm12 at tag : ℕ) (rn rt : Reg) (s : State) → rn.0 < 31 → rt.0 < 31 →
    Points ((s.register rn.0 + imm12 * load_size l) % 2 ^ 64) at tag → at % load_size l ≡ 0 →
    IsReadable s at (load_size l) → s.tag (granule_of at) ≡ tag →
    effect (load_instr l imm12 rn rt) s ≡ Leads (puts_register rt (extended l (load (load_size l) s.byte at)) s)
load_through l imm12 at tag rn rt s base small points aligned memory agrees =
    loads_through l imm12 rn rt s base
    ∙ through (load_size l) (extended l) ((s.register rn.0 + imm12 * load_size l) % 2 ^ 64) at tag rt s (load_is_size l) small points
    aligned memory agrees

-- it is another: the run ends with just these numbers, and nothing is changed
pub load_caught : (l : Load) (imm12 at tag : ℕ) (rn rt : Reg) (s : State) → rn.0 < 31 →
    Points ((s.register rn.0 + imm12 * load_size l) % 2 ^ 64) at tag → at % load_size l ≡ 0 →
    IsReadable s at (load_size l) → s.tag (granule_of at) ≢ tag →
    effect (load_instr l imm12 rn rt) s ≡ Ends (TagFault at tag (s.tag (granule_of at)))
load_caught l imm12 at tag rn rt s base points aligned memory differs =
    loads_through l imm12 rn rt s base
    ∙ caught (load_size l) (extended l) ((s.register rn.0 + imm12 * load_size l) % 2 ^ 64) at tag rt s points aligned memory differs
