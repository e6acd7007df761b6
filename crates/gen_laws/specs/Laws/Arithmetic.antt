-- Sums, differences and products (ISO C11 6.5.5, 6.5.6): what their lists compute is what the meaning computes.
use Rattle.std.specs.Prelude.{◌≡◌, ℕ, ◌+◌, ◌*◌, ◌%◌, ◌^◌, ◌<◌, true, ◌∷◌}
use Rattle.std.proofs.Common.{arith, ap, ap₂, ◌∙◌}
use Rattle.mt_base.specs.Laws.Wrapping.{wrapping_mul-wrap_left, wrapping_mul-wrap_right}
use Rattle.c_ast.specs.declared.int_type.IntType.{IntType}
use Rattle.c_ast.specs.declared.int_type.IntType.TheVariants as int
use Rattle.c_type_base.specs.Arithmetic.{negated}
use Rattle.c_type_base.specs.Conversions.{bits_of, wrap}
use Rattle.mt_base.specs.Extension.{sign_extend}
use Rattle.a64_alu.specs.Multiplying.{multiply_add}
use Rattle.a64_alu.specs.Width.{width, of_width}
use Rattle.a64_code.specs.declared.instr.Instr.{Instr}
use Rattle.a64_code.specs.declared.instr.Reg.{Reg}
use Rattle.a64_code.specs.State.{State}
use Rattle.a64_code.specs.Stepped.{Leads}
use Rattle.a64_code.specs.Effect.{effect}
use Rattle.a64_laws.specs.Forms.{Operation, Add, Sub, result_of, puts_register}
use Rattle.a64_laws.specs.Laws.Comparing.{multiplied}
use Rattle.a64_laws.specs.Laws.Extending.{sign_extended}
use Rattle.a64_laws.specs.Laws.Results.{operated}
use Rattle.gen_base.specs.Integers.{is_wide, with_sign, operation, product}
use Rattle.gen_base.specs.Registers.{left}
use Rattle.gen_laws.specs.Computes.{Computes, Operands, IsPromoted, all}
use Rattle.gen_laws.specs.Laws.Computing.{Computes-nil, Computes-put, Computes-is, Computes-again}
use Rattle.gen_laws.specs.Laws.Numbers.{each_promoted, wrap-same, wrap-long, wrap-extends}

-- ---- an instruction at the width of a type, with the sign above its bits

pub with_sign-computes : (t : IntType) (r : Reg) (n : ℕ) (s : State) → IsPromoted t → r.0 < 31 → s.register r.0 ≡ n → n < 2 ^ bits_of t →
    s.pc + 4 < 2 ^ 64 → Computes (with_sign t r) r (wrap t n) all s
with_sign-computes t r n s promoted small is fits room =
    each_promoted (λ t. n < 2 ^ bits_of t → Computes (with_sign t r) r (wrap t n) all s)
    (λ fits. Computes-is (ap (sign_extend 32 64) is ∙ wrap-extends int.Int n)
    (Computes-put _ r _ s (sign_extended true 32 r r s small small (omega arith) (omega arith)) room))
    (λ fits. Computes-nil r _ s (omega (arith, is, fits)))
    (λ fits. Computes-nil r _ s (omega (arith, is, fits, wrap-long n)))
    (λ fits. Computes-nil r _ s (omega (arith, is, fits)))
    t promoted fits

pub signed-computes : (instr : Instr) (t : IntType) (r : Reg) (n : ℕ) (s : State) → IsPromoted t → r.0 < 31 → n < 2 ^ bits_of t →
    effect instr s ≡ Leads (puts_register r n s) → s.pc + 8 < 2 ^ 64 → Computes (instr ∷ with_sign t r) r (wrap t n) all s
signed-computes instr t r n s promoted small fits leads room =
    Computes-again (Computes-put instr r n s leads (omega (arith, room)))
    (λ c. with_sign-computes t r n c.to promoted small c.holds fits (omega (arith, c.runs.pc, room)))

-- what an operation gives of two numbers, at the width of a type
abbrev pub operated_as : Operation → IntType → ℕ → ℕ → ℕ
operated_as o t a b =
    of_width (is_wide t) (result_of o (width (is_wide t)) (of_width (is_wide t) a) (of_width (is_wide t) b))

pub operation-computes : (o : Operation) (t : IntType) (r : Reg) (a b : ℕ) (s : State) → IsPromoted t → Operands r a b s →
    operated_as o t a b < 2 ^ bits_of t →
    s.pc + 8 < 2 ^ 64 → Computes (operation o t r) r (wrap t (operated_as o t a b)) all s
operation-computes o t r a b s promoted given fits room =
    signed-computes _ t r (operated_as o t a b) s promoted (omega (arith, given.for_values.to)) fits
    (operated o (is_wide t) r left r s (omega (arith, given.for_values.to)) (omega arith) (omega (arith, given.for_values.to))
    ∙ ap₂ (λ m n. Leads (puts_register r (operated_as o t m n) s)) given.first given.second)
    room

-- ---- sums and differences

added_as : (a b : ℕ) (t : IntType) → IsPromoted t → wrap t (operated_as Add t a b) ≡ wrap t (a + b)
added_as a b t promoted =
    wrap-same t (operated_as Add t a b) (a + b)
    (each_promoted (λ t. operated_as Add t a b % 2 ^ bits_of t ≡ (a + b) % 2 ^ bits_of t)
    (omega arith) (omega arith) (omega arith) (omega arith) t promoted)

added-lt : (a b : ℕ) (t : IntType) → IsPromoted t → operated_as Add t a b < 2 ^ bits_of t
added-lt a b t promoted =
    each_promoted (λ t. operated_as Add t a b < 2 ^ bits_of t) (omega arith) (omega arith) (omega arith) (omega arith) t promoted

pub sum-computes : (t : IntType) (r : Reg) (a b : ℕ) (s : State) → IsPromoted t → Operands r a b s → s.pc + 8 < 2 ^ 64 →
    Computes (operation Add t r) r (wrap t (a + b)) all s
sum-computes t r a b s promoted given room =
    Computes-is (added_as a b t promoted) (operation-computes Add t r a b s promoted given (added-lt a b t promoted) room)

taken_as : (a b : ℕ) (t : IntType) → b < 2 ^ 64 → IsPromoted t → wrap t (operated_as Sub t a b) ≡ wrap t (a + negated b)
taken_as a b t fits promoted =
    wrap-same t (operated_as Sub t a b) (a + negated b)
    (each_promoted (λ t. operated_as Sub t a b % 2 ^ bits_of t ≡ (a + negated b) % 2 ^ bits_of t)
    (omega (arith, fits)) (omega (arith, fits)) (omega (arith, fits)) (omega (arith, fits)) t promoted)

taken-lt : (a b : ℕ) (t : IntType) → IsPromoted t → operated_as Sub t a b < 2 ^ bits_of t
taken-lt a b t promoted =
    each_promoted (λ t. operated_as Sub t a b < 2 ^ bits_of t) (omega arith) (omega arith) (omega arith) (omega arith) t promoted

pub difference-computes : (t : IntType) (r : Reg) (a b : ℕ) (s : State) → IsPromoted t → Operands r a b s → s.pc + 8 < 2 ^ 64 →
    Computes (operation Sub t r) r (wrap t (a + negated b)) all s
difference-computes t r a b s promoted given room =
    Computes-is (taken_as a b t given.second_fits promoted)
    (operation-computes Sub t r a b s promoted given (taken-lt a b t promoted) room)

-- ---- products

abbrev multiplied_as : IntType → ℕ → ℕ → ℕ
multiplied_as t a b =
    of_width (is_wide t) (multiply_add (width (is_wide t)) (of_width (is_wide t) a) (of_width (is_wide t) b) (of_width (is_wide t) 0))

multiplied_low : (a b : ℕ) (t : IntType) → IsPromoted t → wrap t (multiplied_as t a b) ≡ wrap t (a * b)
multiplied_low a b t promoted =
    wrap-same t (multiplied_as t a b) (a * b)
    (each_promoted (λ t. multiplied_as t a b % 2 ^ bits_of t ≡ (a * b) % 2 ^ bits_of t) narrow narrow whole whole t promoted)
  where
    narrow : (0 + a % 2 ^ 32 * (b % 2 ^ 32)) % 2 ^ 32 % 2 ^ 32 % 2 ^ 32 ≡ (a * b) % 2 ^ 32
    narrow = omega (arith, wrapping_mul-wrap_left 32 a (b % 2 ^ 32), wrapping_mul-wrap_right 32 a b)

    whole : (0 + a * b) % 2 ^ 64 % 2 ^ 64 ≡ (a * b) % 2 ^ 64
    whole = omega arith

multiplied-lt : (a b : ℕ) (t : IntType) → IsPromoted t → multiplied_as t a b < 2 ^ bits_of t
multiplied-lt a b t promoted =
    each_promoted (λ t. multiplied_as t a b < 2 ^ bits_of t) (omega arith) (omega arith) (omega arith) (omega arith) t promoted

pub product-computes : (t : IntType) (r : Reg) (a b : ℕ) (s : State) → IsPromoted t → Operands r a b s → s.pc + 8 < 2 ^ 64 →
    Computes (product t r) r (wrap t (a * b)) all s
product-computes t r a b s promoted given room =
    Computes-is (multiplied_low a b t promoted)
    (signed-computes _ t r (multiplied_as t a b) s promoted (omega (arith, given.for_values.to)) (multiplied-lt a b t promoted)
    (multiplied (is_wide t) r left r s (omega (arith, given.for_values.to)) (omega arith) (omega (arith, given.for_values.to))
    ∙ ap₂ (λ m n. Leads (puts_register r (multiplied_as t m n) s)) given.first given.second)
    room)
