-- Stores at SP, which no tag judges, and through a pointer, which its tag does (this project's own).
use Rattle.std.specs.Prelude.{◌≡◌, ◌≢◌, ℕ, ◌+◌, ◌*◌, ◌%◌, ◌^◌, ◌<◌, Bool, true, false, refl}
use Rattle.std.proofs.Common.{arith, ◌∙◌, inl, inr}
use Rattle.std.proofs.lemmas.Bool.{lt-ltb}
use Rattle.mt_base.specs.Granules.{granule_of}
use Rattle.mt_base.specs.Memory.{store}
use Rattle.mt_base.specs.Pointers.{address_of}
use Rattle.a64_code.specs.declared.instr.Reg.{Reg}
use Rattle.a64_code.specs.declared.end.MachineEnd.TheVariants.{TagFault}
use Rattle.a64_code.specs.State.{State, general}
use Rattle.a64_code.specs.Stepped.{Stepped, Leads, Ends}
use Rattle.a64_code.specs.Access.{single}
use Rattle.a64_laws.specs.Laws.Effects.Accesses.{IsSize, IsAdmitted, IsAllowed}
use Rattle.a64_code.specs.Shape.{Stores, done}
use Rattle.a64_laws.specs.Laws.Effects.Open.{IsOpen, in_open, allowed_unchecked, allowed_single, stores-done, stores-caught}
use Rattle.a64_code.specs.Effect.{effect}
use Rattle.a64_laws.specs.Forms.{Points, Store, StoreWhole, StoreWord, StoreHalf, StoreByte, store_size, store_instr, stack_pointer}
use Rattle.a64_laws.specs.Forms.{puts_bytes}
use Rattle.a64_laws.specs.Laws.Pointers.{sp_address}

pub store_is_size : (k : Store) → IsSize (store_size k)
store_is_size StoreWhole = inr (inr (inr refl))
store_is_size StoreWord = inr (inr (inl refl))
store_is_size StoreHalf = inr (inl refl)
store_is_size StoreByte = inl refl

-- ---- what the stores have in common

abbrev stored : ℕ → ℕ → Bool → Reg → State → Stepped
stored n pointer checked rt s = done (Stores n pointer checked (general s rt)) s

single_done : (n pointer at : ℕ) (checked : Bool) (rt : Reg) (s : State) → IsAllowed s (single n pointer true checked) →
    address_of pointer ≡ at → stored n pointer checked rt s ≡ Leads (puts_bytes (store n s.byte at (general s rt)) s)
unfolding puts_bytes
single_done n pointer at checked rt s allowed same = stores-done n pointer checked (general s rt) s allowed ∙ rw same refl

admitted_at : (n pointer at : ℕ) (checked : Bool) (s : State) → address_of pointer ≡ at → at % n ≡ 0 → IsOpen s at n →
    IsAdmitted s (single n pointer true checked)
admitted_at n pointer at checked s same aligned memory =
    in_open s (single n pointer true checked) at n memory (record { from = omega (arith, same); to = omega (arith, same) })
    (rw same aligned)

at_sp : (n pointer at : ℕ) (rt : Reg) (s : State) → address_of pointer ≡ at → at % n ≡ 0 → IsOpen s at n →
    stored n pointer false rt s ≡ Leads (puts_bytes (store n s.byte at (general s rt)) s)
unfolding puts_bytes
at_sp n pointer at rt s same aligned memory =
    single_done n pointer at false rt s
    (allowed_unchecked s (single n pointer true false) (admitted_at n pointer at false s same aligned memory) refl) same

through : (n pointer at tag : ℕ) (rt : Reg) (s : State) → IsSize n → Points pointer at tag → at % n ≡ 0 → IsOpen s at n →
    s.tag (granule_of at) ≡ tag → stored n pointer true rt s ≡ Leads (puts_bytes (store n s.byte at (general s rt)) s)
unfolding puts_bytes
through n pointer at tag rt s size points aligned memory agrees =
    single_done n pointer at true rt s
    (allowed_single s n pointer true true size (admitted_at n pointer at true s points.is_at aligned memory)
    (rw (points.is_at, points.has_tag) agrees))
    points.is_at

caught : (n pointer at tag : ℕ) (rt : Reg) (s : State) → Points pointer at tag → at % n ≡ 0 → IsOpen s at n →
    s.tag (granule_of at) ≢ tag → stored n pointer true rt s ≡ Ends (TagFault at tag (s.tag (granule_of at)))
caught n pointer at tag rt s points aligned memory differs =
    stores-caught n pointer (general s rt) s (admitted_at n pointer at true s points.is_at aligned memory)
    (rw (points.is_at, points.has_tag) differs)
    ∙ rw (points.is_at, points.has_tag) refl

-- ---- at SP; the register 31 is zero

-- each kind of store is one of these
stores_at_sp : (k : Store) (imm12 : ℕ) (rt : Reg) (s : State) → effect (store_instr k imm12 stack_pointer rt) s ≡
    stored (store_size k) ((s.sp + imm12 * store_size k) % 2 ^ 64) false rt s
stores_at_sp StoreWhole imm12 rt s = refl
stores_at_sp StoreWord imm12 rt s = refl
stores_at_sp StoreHalf imm12 rt s = refl
stores_at_sp StoreByte imm12 rt s = refl

pub store_at_sp : (k : Store) (imm12 at : ℕ) (rt : Reg) (s : State) → at ≡ s.sp + imm12 * store_size k → at < 2 ^ 56 →
    at % store_size k ≡ 0 → IsOpen s at (store_size k) →
    effect (store_instr k imm12 stack_pointer rt) s ≡ Leads (puts_bytes (store (store_size k) s.byte at (general s rt)) s)
store_at_sp k imm12 at rt s is below aligned memory =
    stores_at_sp k imm12 rt s
    ∙ at_sp (store_size k) ((s.sp + imm12 * store_size k) % 2 ^ 64) at rt s (sp_address s.sp (store_size k) imm12 at is below)
    aligned memory

-- ---- through a pointer

-- each kind of store is one of these
stores_through : (k : Store) (imm12 : ℕ) (rn rt : Reg) (s : State) → rn.0 < 31 → effect (store_instr k imm12 rn rt) s ≡
    stored (store_size k) ((s.register rn.0 + imm12 * store_size k) % 2 ^ 64) true rt s
stores_through StoreWhole imm12 rn rt s base = rw (lt-ltb rn.0 31 base) refl
stores_through StoreWord imm12 rn rt s base = rw (lt-ltb rn.0 31 base) refl
stores_through StoreHalf imm12 rn rt s base = rw (lt-ltb rn.0 31 base) refl
stores_through StoreByte imm12 rn rt s base = rw (lt-ltb rn.0 31 base) refl

-- the tag of the granule is the pointer's
pub store_through : (k : Store) (imm12 at tag : ℕ) (rn rt : Reg) (s : State) → rn.0 < 31 →
    Points ((s.register rn.0 + imm12 * store_size k) % 2 ^ 64) at tag → at % store_size k ≡ 0 →
    IsOpen s at (store_size k) → s.tag (granule_of at) ≡ tag →
    effect (store_instr k imm12 rn rt) s ≡ Leads (puts_bytes (store (store_size k) s.byte at (general s rt)) s)
store_through k imm12 at tag rn rt s base points aligned memory agrees =
    stores_through k imm12 rn rt s base
    ∙ through (store_size k) ((s.register rn.0 + imm12 * store_size k) % 2 ^ 64) at tag rt s (store_is_size k) points aligned memory
    agrees

-- it is another: the run ends with just these numbers, and nothing is changed
pub store_caught : (k : Store) (imm12 at tag : ℕ) (rn rt : Reg) (s : State) → rn.0 < 31 →
    Points ((s.register rn.0 + imm12 * store_size k) % 2 ^ 64) at tag → at % store_size k ≡ 0 →
    IsOpen s at (store_size k) → s.tag (granule_of at) ≢ tag →
    effect (store_instr k imm12 rn rt) s ≡ Ends (TagFault at tag (s.tag (granule_of at)))
store_caught k imm12 at tag rn rt s base points aligned memory differs =
    stores_through k imm12 rn rt s base
    ∙ caught (store_size k) ((s.register rn.0 + imm12 * store_size k) % 2 ^ 64) at tag rt s points aligned memory differs
