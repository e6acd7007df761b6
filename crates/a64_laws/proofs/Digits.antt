-- Examples: a hash goes on by a byte of the input, the input is at its end, a product, and bytes of a number that was stored.
use Rattle.std.specs.Prelude.{◌≡◌, ℕ, zero, suc, ◌+◌, ◌-◌, ◌*◌, ◌%◌, ◌^◌, ◌<◌, true, false, List, [], ◌∷◌, ◌++◌, Option, Some, None, refl}
use Rattle.std.proofs.Common.{arith, ap, ◌∙◌}
use Rattle.mt_base.specs.Extension.{sign_extend}
use Rattle.mt_base.specs.Memory.{load, store}
use Rattle.a64_alu.specs.Width.{of_width}
use Rattle.a64_alu.specs.Multiplying.{multiply_add}
use Rattle.a64_code.specs.declared.instr.Instr.{Instr}
use Rattle.a64_code.specs.declared.instr.Instr.TheVariants.{Svc, Madd, Ubfm, Str, Ldrb, Ldrsb}
use Rattle.a64_code.specs.declared.instr.Reg.{Reg}
use Rattle.a64_code.specs.Outside.{Outside, next_number, left_after, after_next}
use Rattle.a64_code.specs.State.{State}
use Rattle.a64_code.specs.Stepped.{Leads}
use Rattle.a64_code.specs.Effect.{effect}
use Rattle.a64_laws.specs.Constants.{constant_moves, PutsConstant}
use Rattle.a64_laws.specs.Forms.{x0, stack_pointer, zero_register, Byte, SignedByte, StoreWhole}
use Rattle.a64_laws.specs.Forms.{puts_register, puts_bytes, with_outside}
use Rattle.a64_laws.specs.Runs.{Runs}
use Rattle.a64_laws.specs.Laws.Comparing.{multiplied, multiplied_and_added}
use Rattle.a64_laws.specs.Laws.Constants.{constant_put}
use Rattle.a64_laws.specs.Laws.Effects.Open.{IsOpen}
use Rattle.a64_laws.specs.Laws.Extending.{zero_extended}
use Rattle.a64_laws.specs.Laws.Loads.{load_at_sp, signed_low}
use Rattle.a64_laws.specs.Laws.Numbers.{byte_of, byte_of-lt, store-byte, load-bytes, load-store_low}
use Rattle.a64_laws.specs.Laws.Numbers.{pointer-tag_byte, pointer-load_address}
use Rattle.a64_laws.specs.Laws.OpenMemory.{IsOpen-part, IsOpen-kept, IsReadable-kept}
use Rattle.a64_laws.specs.Laws.Runs.{Runs-one, Runs-two, Runs-cons, Runs-append}
use Rattle.a64_laws.specs.Laws.Services.{byte_taken}
use Rattle.a64_laws.specs.Laws.Stores.{store_at_sp}

abbrev x1 : Reg
x1 = record { 0 = 1 }

abbrev x2 : Reg
x2 = record { 0 = 2 }

-- X0 gets a byte, X2 the factor, and W1 its product with W1 and the byte
abbrev hashes : List Instr
hashes = Svc 2 ∷ constant_moves x2 16777619 ++ Madd false x2 x0 x1 x1 ∷ []

goes_on : (hash byte : ℕ) → hash < 2 ^ 32 → byte < 256 →
    of_width false (multiply_add 32 (of_width false hash) (of_width false 16777619) (of_width false byte))
    ≡ (hash * 16777619 + byte) % 2 ^ 32
goes_on hash byte fits small = omega (arith, fits, small)

hashed : (byte : ℕ) (rest : List (Option ℕ)) (s : State) → s.outside.next_failure ≡ None → s.outside.answers ≡ Some byte ∷ rest →
    byte < 256 → s.register 1 < 2 ^ 32 → s.pc + 24 < 2 ^ 64 →
    (t : State) × Runs hashes 4 s t × (t.register 1 ≡ (s.register 1 * 16777619 + byte) % 2 ^ 32) × (t.outside.answers ≡ rest)
unfolding puts_register with_outside
hashed byte rest s whole answers small fits pc = (
  w,
  Runs-cons (byte_taken s whole) refl (omega (arith, pc)) (Runs-append put.runs
      (Runs-one (multiplied_and_added false x2 x0 x1 x1 v (omega arith) (omega arith) (omega arith) (omega arith)) refl
      (omega (arith, pc, put.runs.pc)))),
  rw (factor, taken, hash) (goes_on (s.register 1) byte fits small),
  ap (λ (o : Outside). o.answers) put.same.outside ∙ ap left_after answers,
)
  where
    u : State
    u = puts_register x0 (next_number s.outside.answers) (with_outside (after_next s.outside) s)

    put : PutsConstant x2 16777619 (constant_moves x2 16777619) u
    put = constant_put 16777619 x2 u (omega arith) (omega arith) (omega (arith, pc))

    v : State
    v = put.to

    w : State
    w = puts_register x1 (of_width false (multiply_add 32 (of_width false (v.register 1)) (of_width false (v.register 2))
        (of_width false (v.register 0)))) v

    factor : v.register 2 ≡ 16777619
    factor = put.holds

    taken : v.register 0 ≡ byte
    taken = put.registers 0 (λ same. absurd (cc)) ∙ ap next_number answers

    hash : v.register 1 ≡ s.register 1
    hash = put.registers 1 (λ same. absurd (cc))

-- at the end of the input X0 is all ones, and its low byte is 255
end_taken : (s : State) → s.outside.next_failure ≡ None → s.outside.answers ≡ [] → s.pc + 8 < 2 ^ 64 →
    (t : State) × Runs (Svc 2 ∷ Ubfm false 0 7 x0 x1 ∷ []) 2 s t × (t.register 0 ≡ 2 ^ 64 - 1) × (t.register 1 ≡ 255)
unfolding puts_register with_outside
end_taken s whole answers pc = (
  _,
  Runs-two (byte_taken s whole) refl (zero_extended false 8 x0 x1 u (omega arith) (omega arith) (omega arith) (omega arith)) refl pc,
  ap next_number answers,
  rw answers refl,
)
  where
    u : State
    u = puts_register x0 (next_number s.outside.answers) (with_outside (after_next s.outside) s)

-- mul x2, x0, x1 is the product where it fits
product : (s : State) → s.register 0 * s.register 1 < 2 ^ 64 →
    (t : State) × (effect (Madd true x1 zero_register x0 x2) s ≡ Leads t) × (t.register 2 ≡ s.register 0 * s.register 1)
unfolding puts_register
product s fits = (_, multiplied true x1 x0 x2 s (omega arith) (omega arith) (omega arith), omega (arith, fits))

-- X0 is stored at SP, and loaded again are its lowest byte with its sign, whose lower 32 bits are the char in 32 bits, and byte 3
bytes_read : (s : State) → s.sp < 2 ^ 56 → s.sp + 8 < 2 ^ 56 → s.sp % 16 ≡ 0 → IsOpen s s.sp 8 → s.pc + 12 < 2 ^ 64 →
    (t : State) × Runs (Str true 0 stack_pointer x0 ∷ Ldrsb 0 stack_pointer x1 ∷ Ldrb 3 stack_pointer x2 ∷ []) 3 s t
    × (of_width false (t.register 1) ≡ sign_extend 8 32 (s.register 0 % 256)) × (t.register 2 ≡ byte_of (s.register 0) 3)
unfolding puts_register puts_bytes
bytes_read s below reach aligned memory pc = (
  _,
  Runs-cons (store_at_sp StoreWhole 0 s.sp x0 s (omega arith) below (omega (arith, aligned)) memory) refl (omega (arith, pc))
      (Runs-two (load_at_sp SignedByte 0 s.sp x1 t (omega arith) (omega arith) below (omega arith)
      (IsOpen-part s.sp 1 (omega arith) (omega arith) opened).readable) refl
      (load_at_sp Byte 3 (s.sp + 3) x2 u (omega arith) (omega arith) (omega (arith, reach)) (omega arith)
      (IsReadable-kept (record { regions = refl; guard = refl })
      (IsOpen-part (s.sp + 3) 1 (omega arith) (omega arith) opened).readable)) refl (omega (arith, pc))),
  signed_low 8 (load 1 t.byte s.sp) (omega arith) ∙ ap (sign_extend 8 32) (load-store_low 1 8 s.byte s.sp (s.register 0) (omega arith)),
  load-bytes 1 t.byte (s.sp + 3) (byte_of (s.register 0) 3) third ∙ omega (arith, byte_of-lt (s.register 0) 3),
)
  where
    t : State
    t = puts_bytes (store 8 s.byte s.sp (s.register 0)) s

    u : State
    u = puts_register x1 (sign_extend 8 64 (load 1 t.byte s.sp)) t

    opened : IsOpen t s.sp 8
    opened = IsOpen-kept (record { regions = refl; guard = refl }) memory

    third : (k : ℕ) → k < 1 → t.byte (s.sp + 3 + k) ≡ byte_of (byte_of (s.register 0) 3) k
    third zero h = ap t.byte (omega arith) ∙ store-byte 8 s.byte s.sp (s.register 0) 3 (omega arith) ∙ omega arith
    third (suc k) h = absurd (omega (arith, h))

-- of a pointer that is stored, the highest byte is its tag, and the seven below are its address
pointer_parts : (byte : ℕ → ℕ) (place at tag : ℕ) → at < 2 ^ 56 → tag < 16 →
    (store 8 byte place (at + tag * 2 ^ 56) (place + 7) ≡ tag) × (load 7 (store 8 byte place (at + tag * 2 ^ 56)) place ≡ at)
pointer_parts byte place at tag below small = (
  store-byte 8 byte place (at + tag * 2 ^ 56) 7 (omega arith) ∙ pointer-tag_byte at tag below small,
  pointer-load_address (store 8 byte place (at + tag * 2 ^ 56)) place at tag below
      (λ k h. store-byte 8 byte place (at + tag * 2 ^ 56) k (omega (arith, h))),
)
