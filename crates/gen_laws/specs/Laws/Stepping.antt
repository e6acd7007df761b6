-- `++` and `--` (ISO C11 6.5.2.4, 6.5.3.1): the value after comes into X16, and the register keeps the value before.
use Rattle.std.specs.Prelude.{◌≡◌, ℕ, ◌+◌, ◌-◌, ◌*◌, ◌%◌, ◌^◌, ◌<◌, Bool, true, false, List, Some, None}
use Rattle.std.specs.Prelude.{if◌then◌else◌, refl}
use Rattle.std.proofs.Common.{arith, ap, ap₂, ◌∙◌}
use Rattle.std.proofs.lemmas.Bool.{lt-ltb}
use Rattle.mt_base.specs.Wrapping.{wrapping_sub}
use Rattle.mt_base.specs.Laws.Wrapping.{wrapping_mul-wrap_right}
use Rattle.c_ast.specs.declared.operator.Step.{Step}
use Rattle.c_type_base.specs.declared.ty.Ty.{Ty}
use Rattle.c_type_base.specs.declared.typed.StructInfo.{StructInfo}
use Rattle.c_type_base.specs.Conversions.{wrap}
use Rattle.c_type_base.specs.Sizes.{size}
use Rattle.c_type_base.specs.Types.{target_of}
use Rattle.block_meaning.specs.Operators.{int_in, is_increment, by_one}
use Rattle.a64_code.specs.declared.instr.Instr.TheVariants.{AddImm, SubImm}
use Rattle.a64_code.specs.declared.instr.Reg.{Reg}
use Rattle.a64_code.specs.State.{State}
use Rattle.a64_code.specs.Stepped.{Leads}
use Rattle.a64_code.specs.Effect.{effect}
use Rattle.a64_laws.specs.Forms.{Add, Sub, operation_instr, puts_register}
use Rattle.a64_laws.specs.Laws.Results.{operated}
use Rattle.gen_base.specs.Operators.{wrapped_size, number_stepped, pointer_stepped, stepped}
use Rattle.gen_base.specs.Registers.{left}
use Rattle.gen_laws.specs.Computes.{Computes, IsForValues, all}
use Rattle.gen_laws.specs.Laws.Computing.{Computes-put, Computes-is, Computes-again, Computes-constant}
use Rattle.gen_laws.specs.Laws.Conversions.{wrap-computes}
use Rattle.gen_laws.specs.Laws.Moves.{few_moves}
use Rattle.gen_laws.specs.Laws.Numbers.{wrap-bits}

times_wrapped : (b k bytes : ℕ) → (b + k * (bytes % 2 ^ 64)) % 2 ^ 64 ≡ (b + k * bytes) % 2 ^ 64
times_wrapped b k bytes = omega (arith, wrapping_mul-wrap_right 64 k bytes)

module _ (r : Reg) (b : ℕ) (s : State) (given : IsForValues r) (is : s.register r.0 ≡ b) where
  -- ---- numbers

  one_on : (up : Bool) → effect (if up then AddImm true 0 1 r left else SubImm true 0 1 r left) s
      ≡ Leads (puts_register left ((b + (if up then 1 else 2 ^ 64 - 1)) % 2 ^ 64) s)
  unfolding puts_register
  one_on true = rw (lt-ltb r.0 31 (omega (arith, given.to)), is) refl
  one_on false = rw (lt-ltb r.0 31 (omega (arith, given.to)), is) refl

  pub number_stepped-computes : (structs : List StructInfo) (step : Step) (t : Ty) → target_of t ≡ None → s.pc + 8 < 2 ^ 64 →
      Computes (stepped structs step t r) left (wrap (int_in t) (b + by_one step)) all s
  number_stepped-computes structs step t none room =
      rw none (Computes-again (Computes-put (number_stepped step r) left _ s (one_on (is_increment step)) (omega (arith, room)))
      (λ c. Computes-is (wrap-bits (int_in t) (b + by_one step))
      (wrap-computes left ((b + by_one step) % 2 ^ 64) c.to (omega arith) c.holds (omega arith) (omega (arith, c.runs.pc, room))
      (int_in t))))

  -- ---- pointers

  bytes_on : (up : Bool) (bytes : ℕ) (t : State) → bytes < 2 ^ 64 → t.register 16 ≡ bytes → t.register r.0 ≡ b →
      effect (operation_instr (if up then Add else Sub) true left r left) t
      ≡ Leads (puts_register left ((b + (if up then 1 else 2 ^ 64 - 1) * bytes) % 2 ^ 64) t)
  bytes_on true bytes t fits bytes_are b_is =
      operated Add true left r left t (omega arith) (omega (arith, given.to)) (omega arith)
      ∙ ap₂ (λ m n. Leads (puts_register left ((m + n) % 2 ^ 64) t)) b_is bytes_are
      ∙ ap (λ n. Leads (puts_register left ((b + n) % 2 ^ 64) t)) (let e : bytes ≡ 1 * bytes = omega arith in e)
  bytes_on false bytes t fits bytes_are b_is =
      operated Sub true left r left t (omega arith) (omega (arith, given.to)) (omega arith)
      ∙ ap₂ (λ m n. Leads (puts_register left (wrapping_sub 64 m n) t)) b_is bytes_are
      ∙ ap (λ n. Leads (puts_register left n t)) (omega (arith, fits))

  moved_on : (step : Step) (bytes : ℕ) → bytes < 2 ^ 64 → s.pc + 20 < 2 ^ 64 →
      Computes (pointer_stepped step bytes r) left ((b + by_one step * bytes) % 2 ^ 64) all s
  moved_on step bytes fits room =
      Computes-again (Computes-constant bytes left s (omega arith) fits (omega (arith, room)))
      (λ c. Computes-put (operation_instr (if is_increment step then Add else Sub) true left r left) left
      ((b + by_one step * bytes) % 2 ^ 64) c.to
      (bytes_on (is_increment step) bytes c.to fits c.holds (c.registers r.0 (λ same. absurd (omega (arith, same, given.to))) tt ∙ is))
      (omega (arith, c.runs.pc, room, (few_moves left bytes).most)))

  -- whatever the size is: a register has it modulo 2^64
  pub pointer_stepped-computes : (structs : List StructInfo) (step : Step) (t target : Ty) → target_of t ≡ Some target →
      s.pc + 20 < 2 ^ 64 → Computes (stepped structs step t r) left ((b + by_one step * size structs target) % 2 ^ 64) all s
  pointer_stepped-computes structs step t target some room =
      rw some (Computes-is (times_wrapped b (by_one step) (size structs target))
      (moved_on step (wrapped_size structs target) (omega arith) room))
