-- Pointers and numbers of objects (ISO C11 6.5.6, 6.5.8, 6.5.9): what the lists compute is what the meaning computes. A pointer's number
-- is
-- its offset behind a base, modulo 2^64.
use Rattle.std.specs.Prelude.{◌≡◌, ℕ, ◌+◌, ◌*◌, ◌%◌, ◌^◌, ◌<◌, ◌≤◌, true, [], ◌∷◌, ◌++◌}
use Rattle.std.proofs.Common.{arith, ap, ap₂, sym, ◌∙◌, inl, inr}
use Rattle.std.proofs.Math.Nat.{add-mul}
use Rattle.std.proofs.lemmas.Bool.{cases_eq}
use Rattle.mt_base.specs.Wrapping.{wrapping_sub}
use Rattle.mt_base.specs.Laws.Wrapping.{wrapping_sub_is}
use Rattle.c_ast.specs.declared.operator.BinaryOperator.TheVariants as binary
use Rattle.c_type_base.specs.Arithmetic.{negated}
use Rattle.a64_code.specs.declared.instr.Instr.{Instr}
use Rattle.a64_code.specs.declared.instr.Instr.TheVariants.{Madd, Msub}
use Rattle.a64_code.specs.declared.instr.Reg.{Reg}
use Rattle.a64_code.specs.State.{State}
use Rattle.a64_code.specs.Stepped.{Leads}
use Rattle.a64_code.specs.Effect.{effect}
use Rattle.a64_laws.specs.Constants.{constant_moves}
use Rattle.a64_laws.specs.Forms.{puts_register}
use Rattle.a64_laws.specs.Laws.Comparing.{multiplied_and_added, multiplied_and_taken}
use Rattle.gen_base.specs.Pointers.{advance, retreat, pointer_and_number, number_and_pointer}
use Rattle.gen_base.specs.Registers.{left, scratch}
use Rattle.gen_laws.specs.Computes.{Computes, Operands, all_but}
use Rattle.gen_laws.specs.Laws.Computing.{Computes-put, Computes-fewer, Computes-then, Computes-constant}
use Rattle.gen_laws.specs.Laws.Moves.{few_moves}

-- ---- so many objects on, or back

-- a pointer is in one register, and a count in another
pub record Counted (pointer count into : Reg) (p n : ℕ) (s : State) : Type 0 where
  pub pointer_low : pointer.0 ≤ 16
  pub count_low : count.0 ≤ 16
  pub into_low : into.0 ≤ 16
  pub pointer_is : s.register pointer.0 ≡ p
  pub count_is : s.register count.0 ≡ n

pub counted : {r : Reg} {a b : ℕ} {s : State} → Operands r a b s → Counted left r r a b s
counted given = record {
  pointer_low = omega arith;
  count_low = omega (arith, given.for_values.to);
  into_low = omega (arith, given.for_values.to);
  pointer_is = given.first;
  count_is = given.second;
}

pub counted_back : {r : Reg} {a b : ℕ} {s : State} → Operands r a b s → Counted r left r b a s
counted_back given = record {
  pointer_low = omega (arith, given.for_values.to);
  count_low = omega arith;
  into_low = omega (arith, given.for_values.to);
  pointer_is = given.second;
  count_is = given.first;
}

-- a list that puts a constant into X17, and an instruction of it and of two registers
pub with_constant : (bytes : ℕ) (instr : Instr) (pointer count into : Reg) (p n value : ℕ) (s : State) →
    Counted pointer count into p n s → bytes < 2 ^ 64 → s.pc + 20 < 2 ^ 64 →
    ((t : State) → t.register 17 ≡ bytes → t.register pointer.0 ≡ p → t.register count.0 ≡ n →
    effect instr t ≡ Leads (puts_register into value t)) →
    Computes (constant_moves scratch bytes ++ instr ∷ []) into value (all_but scratch) s
with_constant bytes instr pointer count into p n value s given fits room leads =
    Computes-then (Computes-fewer (λ q spared. tt) (Computes-constant bytes scratch s (omega arith) fits (omega (arith, room))))
    (λ c. Computes-fewer (λ q spared. tt) (Computes-put instr into value c.to
    (leads c.to c.holds (other pointer.0 given.pointer_low c ∙ given.pointer_is) (other count.0 given.count_low c ∙ given.count_is))
    (omega (arith, c.runs.pc, room, (few_moves scratch bytes).most))))
    (λ q other spared. spared)
  where
    other : (q : ℕ) → q ≤ 16 → (c : Computes (constant_moves scratch bytes) scratch bytes (all_but scratch) s) →
        c.to.register q ≡ s.register q
    other q low c = c.registers q (λ same. absurd (omega (arith, same, low))) (λ same. absurd (omega (arith, same, low)))

pub advance-computes : (bytes : ℕ) (pointer count into : Reg) (p n : ℕ) (s : State) → Counted pointer count into p n s → bytes < 2 ^ 64 →
    s.pc + 20 < 2 ^ 64 → Computes (advance bytes pointer count into) into ((p + n * bytes) % 2 ^ 64) (all_but scratch) s
advance-computes bytes pointer count into p n s given fits room =
    with_constant bytes (Madd true scratch pointer count into) pointer count into p n ((p + n * bytes) % 2 ^ 64) s given fits room
    (λ t bytes_are pointer_is count_is.
    multiplied_and_added true scratch pointer count into t (omega arith) (omega (arith, given.pointer_low)) (omega
    (arith, given.count_low))
    (omega (arith, given.into_low))
    ∙ ap₂ (λ k m. Leads (puts_register into ((t.register pointer.0 + k * m) % 2 ^ 64) t)) count_is bytes_are
    ∙ ap (λ k. Leads (puts_register into ((k + n * bytes) % 2 ^ 64) t)) pointer_is)

back : (p n bytes : ℕ) → n < 2 ^ 64 → wrapping_sub 64 p (n * bytes) ≡ (p + negated n * bytes) % 2 ^ 64
back p n bytes fits = wrapping_sub_is 64 p (n * bytes) (p + negated n * bytes) (elim (cases_eq n 0) [
  | inl none ↦ rw none (omega arith)
  | inr some ↦
      let whole : negated n * bytes + n * bytes ≡ 2 ^ 64 * bytes =
      sym (add-mul (negated n) n bytes) ∙ ap (λ k. k * bytes) (let e : negated n + n ≡ 2 ^ 64 = omega (arith, some, fits) in e) in
      omega (arith, whole)
])

pub retreat-computes : (bytes : ℕ) (pointer count into : Reg) (p n : ℕ) (s : State) → Counted pointer count into p n s → n < 2 ^ 64 →
    bytes < 2 ^ 64 → s.pc + 20 < 2 ^ 64 →
    Computes (retreat bytes pointer count into) into ((p + negated n * bytes) % 2 ^ 64) (all_but scratch) s
retreat-computes bytes pointer count into p n s given count_fits fits room =
    with_constant bytes (Msub true scratch pointer count into) pointer count into p n ((p + negated n * bytes) % 2 ^ 64) s given fits room
    (λ t bytes_are pointer_is count_is.
    multiplied_and_taken true scratch pointer count into t (omega arith) (omega (arith, given.pointer_low)) (omega
    (arith, given.count_low))
    (omega (arith, given.into_low))
    ∙ ap₂ (λ k m. Leads (puts_register into (wrapping_sub 64 (t.register pointer.0) (k * m)) t)) count_is bytes_are
    ∙ ap (λ k. Leads (puts_register into k t)) (ap (λ k. wrapping_sub 64 k (n * bytes)) pointer_is ∙ back p n bytes count_fits))

-- ---- a pointer and a number, with the first in X16 and the second in the register

pub add_pointer-computes : (bytes : ℕ) (r : Reg) (a b : ℕ) (s : State) → Operands r a b s → bytes < 2 ^ 64 → s.pc + 20 < 2 ^ 64 →
    Computes (pointer_and_number binary.Add bytes r) r ((a + b * bytes) % 2 ^ 64) (all_but scratch) s
add_pointer-computes bytes r a b s given fits room = advance-computes bytes left r r a b s (counted given) fits room

pub take_pointer-computes : (bytes : ℕ) (r : Reg) (a b : ℕ) (s : State) → Operands r a b s → bytes < 2 ^ 64 → s.pc + 20 < 2 ^ 64 →
    Computes (pointer_and_number binary.Subtract bytes r) r ((a + negated b * bytes) % 2 ^ 64) (all_but scratch) s
take_pointer-computes bytes r a b s given fits room = retreat-computes bytes left r r a b s (counted given) given.second_fits fits room

pub number_first-computes : (bytes : ℕ) (r : Reg) (a b : ℕ) (s : State) → Operands r a b s → bytes < 2 ^ 64 → s.pc + 20 < 2 ^ 64 →
    Computes (number_and_pointer bytes r) r ((b + a * bytes) % 2 ^ 64) (all_but scratch) s
number_first-computes bytes r a b s given fits room = advance-computes bytes r left r b a s (counted_back given) fits room
