-- Examples: a store of eight bytes through X1 that is not aligned, meets the guard, or goes where memory is not or may not be written.
use Rattle.std.specs.Prelude.{◌≡◌, ◌≢◌, ℕ, ◌+◌, ◌%◌, ◌^◌, ◌<◌, true, false, refl}
use Rattle.std.proofs.Common.{arith}
use Rattle.mt_base.specs.Laws.Memory.{every_byte_from, every_byte_not, some_byte_from, some_byte_none}
use Rattle.mt_base.specs.Memory.{is_in_span, is_mapped, is_protected}
use Rattle.mt_base.specs.Pointers.{address_of}
use Rattle.a64_code.specs.declared.end.MachineEnd.TheVariants.{AlignFault, MemoryFault, StackFault}
use Rattle.a64_code.specs.declared.instr.Instr.TheVariants.{Str}
use Rattle.a64_code.specs.declared.instr.Reg.{Reg}
use Rattle.a64_code.specs.Access.{Access, single}
use Rattle.a64_code.specs.State.{State}
use Rattle.a64_code.specs.Stepped.{Ends}
use Rattle.a64_code.specs.Effect.{effect}
use Rattle.a64_laws.specs.Forms.{x0}
use Rattle.a64_laws.specs.Laws.Effects.Accesses.{access_end-align, access_end-guard, access_end-unmapped, access_end-protected}

abbrev x1 : Reg
x1 = record { 0 = 1 }

-- 8 behind X1
abbrev pointer : State → ℕ
pointer s = (s.register 1 + 8) % 2 ^ 64

abbrev place : State → ℕ
place s = address_of (pointer s)

abbrev access : State → Access
access s = single 8 (pointer s) true true

not_aligned : (s : State) → place s % 8 ≢ 0 → effect (Str true 1 x1 x0) s ≡ Ends (AlignFault (place s))
not_aligned s odd = rw (access_end-align s (access s) odd) refl

-- the last of the bytes lies in the guard
meets_guard : (s : State) → place s % 8 ≡ 0 → is_in_span s.guard (place s + 7) ≡ true → effect (Str true 1 x1 x0) s ≡ Ends StackFault
meets_guard s aligned guarded =
    rw (access_end-guard s (access s) aligned (some_byte_from (is_in_span s.guard) (place s) 8 7 (omega arith) guarded)) refl

-- aligned, and apart from the guard
record Passes (s : State) : Type 0 where
  aligned : place s % 8 ≡ 0
  unguarded : (k : ℕ) → k < 8 → is_in_span s.guard (place s + k) ≡ false

-- the last of the bytes lies in no region
leaves_memory : (s : State) → Passes s → is_mapped s.regions (place s + 7) ≡ false →
    effect (Str true 1 x1 x0) s ≡ Ends (MemoryFault (place s))
leaves_memory s passes unmapped =
    rw (access_end-unmapped s (access s) passes.aligned (some_byte_none (is_in_span s.guard) (place s) 8 passes.unguarded)
    (every_byte_not (is_mapped s.regions) (place s) 8 7 (omega arith) unmapped)) refl

-- the first of them lies where memory may only be read
not_written : (s : State) → Passes s → ((k : ℕ) → k < 8 → is_mapped s.regions (place s + k) ≡ true) →
    is_protected s.regions (place s + 0) ≡ true → effect (Str true 1 x1 x0) s ≡ Ends (MemoryFault (place s))
not_written s passes mapped protected =
    rw (access_end-protected s (access s) passes.aligned (some_byte_none (is_in_span s.guard) (place s) 8 passes.unguarded)
    (every_byte_from (is_mapped s.regions) (place s) 8 mapped) refl
    (some_byte_from (is_protected s.regions) (place s) 8 0 (omega arith) protected)) refl
