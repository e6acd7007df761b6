-- Stores and loads of a pair of registers at SP, at an offset on or back, as at the entry and the exit of a function (this project's own).
use Rattle.std.specs.Prelude.{◌≡◌, ℕ, ◌+◌, ◌-◌, ◌*◌, ◌%◌, ◌^◌, ◌<◌, ◌≤◌, true, false, refl}
use Rattle.std.proofs.Common.{arith, ap, ◌∙◌}
use Rattle.std.proofs.lemmas.Bool.{lt-ltb}
use Rattle.mt_base.specs.Extension.{sign_extend}
use Rattle.mt_base.specs.Laws.Extension.{sign_extend_low, sign_extend_high}
use Rattle.mt_base.specs.Memory.{load, store}
use Rattle.mt_base.specs.Pointers.{address_of}
use Rattle.a64_code.specs.declared.instr.Instr.TheVariants.{Stp, Ldp}
use Rattle.a64_code.specs.declared.instr.Reg.{Reg}
use Rattle.a64_code.specs.State.{State, general}
use Rattle.a64_code.specs.Stepped.{Leads}
use Rattle.a64_code.specs.Access.{pair}
use Rattle.a64_code.specs.Results.{result_of}
use Rattle.a64_code.specs.Effect.{effect}
use Rattle.a64_laws.specs.Laws.Effects.Open.{IsReadable, IsOpen, in_readable, in_open, allowed_unchecked, loads_pair-done, stores_pair-done}
use Rattle.a64_laws.specs.Forms.{stack_pointer, puts_bytes, puts_registers}

-- ---- the field of an offset in units of 8 bytes, on or back, and the address

pub pair_on : (n : ℕ) → n < 64 → sign_extend 7 64 n ≡ n
pair_on n small = sign_extend_low 7 64 n (omega arith) (omega (arith, small)) ∙ omega (arith, small)

pub pair_back : (n : ℕ) → 1 ≤ n → n ≤ 64 → sign_extend 7 64 (128 - n) ≡ 2 ^ 64 - n
pair_back n some small = omega (arith, some, small, sign_extend_high 7 64 (128 - n) (omega arith) (omega (arith, some, small)))

on_address : (sp n at : ℕ) → n < 64 → at ≡ sp + 8 * n → at < 2 ^ 56 → address_of ((sp + 8 * sign_extend 7 64 n) % 2 ^ 64) ≡ at
on_address sp n at small is below = rw (pair_on n small) (omega (arith, is, below))

back_address : (sp n at : ℕ) → 1 ≤ n → n ≤ 64 → at + 8 * n ≡ sp → sp < 2 ^ 56 →
    address_of ((sp + 8 * sign_extend 7 64 (128 - n)) % 2 ^ 64) ≡ at
back_address sp n at some small is below = rw (pair_back n some small) (omega (arith, is, below, some, small))

-- ---- at an address

stored : (imm7 at : ℕ) (rt2 rt : Reg) (s : State) → address_of ((s.sp + 8 * sign_extend 7 64 imm7) % 2 ^ 64) ≡ at → at % 8 ≡ 0 →
    IsOpen s at 16 →
    effect (Stp imm7 rt2 stack_pointer rt) s ≡ Leads (puts_bytes (store 8 (store 8 s.byte at (general s rt)) (at + 8) (general s rt2)) s)
unfolding puts_bytes
stored imm7 at rt2 rt s same aligned memory =
    let access = pair ((s.sp + 8 * sign_extend 7 64 imm7) % 2 ^ 64) true false in
    stores_pair-done ((s.sp + 8 * sign_extend 7 64 imm7) % 2 ^ 64) false (general s rt) (general s rt2) s
    (allowed_unchecked s access
    (in_open s access at 16 memory (record { from = omega (arith, same); to = omega (arith, same) }) (rw same aligned)) refl)
    ∙ ap (λ (a : ℕ). Leads (puts_bytes (store 8 (store 8 s.byte a (general s rt)) (a + 8) (general s rt2)) s)) same

loaded : (imm7 at : ℕ) (rt2 rt : Reg) (s : State) → rt.0 < 31 → rt2.0 < 31 →
    address_of ((s.sp + 8 * sign_extend 7 64 imm7) % 2 ^ 64) ≡ at → at % 8 ≡ 0 → IsReadable s at 16 →
    effect (Ldp imm7 rt2 stack_pointer rt) s ≡ Leads (puts_registers rt (load 8 s.byte at) rt2 (load 8 s.byte (at + 8)) s)
unfolding puts_registers
loaded imm7 at rt2 rt s first second same aligned memory =
    let pointer = (s.sp + 8 * sign_extend 7 64 imm7) % 2 ^ 64 in
    let access = pair pointer false false in
    loads_pair-done access (result_of false true rt (load 8 s.byte (address_of pointer)))
    (result_of false true rt2 (load 8 s.byte (address_of pointer + 8))) s
    (allowed_unchecked s access
    (in_readable s access at 16 memory (record { from = omega (arith, same); to = omega (arith, same) }) refl (rw same aligned)) refl)
    ∙ rw (lt-ltb rt.0 31 first, lt-ltb rt2.0 31 second) (ap (λ (a : ℕ). Leads (puts_registers rt (load 8 s.byte a) rt2
    (load 8 s.byte (a + 8)) s)) same)

-- ---- at an offset on, and back

pub pair_stored : (imm7 at : ℕ) (rt2 rt : Reg) (s : State) → imm7 < 64 → at ≡ s.sp + 8 * imm7 → at % 8 ≡ 0 → at < 2 ^ 56 → IsOpen s at 16 →
    effect (Stp imm7 rt2 stack_pointer rt) s ≡ Leads (puts_bytes (store 8 (store 8 s.byte at (general s rt)) (at + 8) (general s rt2)) s)
pair_stored imm7 at rt2 rt s small is aligned below memory =
    stored imm7 at rt2 rt s (on_address s.sp imm7 at small is below) aligned memory

pub pair_loaded : (imm7 at : ℕ) (rt2 rt : Reg) (s : State) → rt.0 < 31 → rt2.0 < 31 → imm7 < 64 → at ≡ s.sp + 8 * imm7 → at % 8 ≡ 0 →
    at < 2 ^ 56 → IsReadable s at 16 →
    effect (Ldp imm7 rt2 stack_pointer rt) s ≡ Leads (puts_registers rt (load 8 s.byte at) rt2 (load 8 s.byte (at + 8)) s)
pair_loaded imm7 at rt2 rt s first second small is aligned below memory =
    loaded imm7 at rt2 rt s first second (on_address s.sp imm7 at small is below) aligned memory

pub pair_stored_back : (n at : ℕ) (rt2 rt : Reg) (s : State) → 1 ≤ n → n ≤ 64 → at + 8 * n ≡ s.sp → at % 8 ≡ 0 → s.sp < 2 ^ 56 →
    IsOpen s at 16 →
    effect (Stp (128 - n) rt2 stack_pointer rt) s
    ≡ Leads (puts_bytes (store 8 (store 8 s.byte at (general s rt)) (at + 8) (general s rt2)) s)
pair_stored_back n at rt2 rt s some small is aligned below memory =
    stored (128 - n) at rt2 rt s (back_address s.sp n at some small is below) aligned memory

pub pair_loaded_back : (n at : ℕ) (rt2 rt : Reg) (s : State) → rt.0 < 31 → rt2.0 < 31 → 1 ≤ n → n ≤ 64 → at + 8 * n ≡ s.sp → at % 8 ≡ 0 →
    s.sp < 2 ^ 56 → IsReadable s at 16 →
    effect (Ldp (128 - n) rt2 stack_pointer rt) s ≡ Leads (puts_registers rt (load 8 s.byte at) rt2 (load 8 s.byte (at + 8)) s)
pair_loaded_back n at rt2 rt s first second some small is aligned below memory =
    loaded (128 - n) at rt2 rt s first second (back_address s.sp n at some small is below) aligned memory
