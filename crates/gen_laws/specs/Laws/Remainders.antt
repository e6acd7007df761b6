-- Remainders (ISO C11 6.5.5), which have the sign of the first number: what their list computes is what the meaning computes.
use Rattle.std.specs.Prelude.{◌≡◌, ◌≢◌, ℕ, ◌+◌, ◌%◌, ◌^◌, ◌<◌, Bool, int_rem, refl}
use Rattle.std.proofs.Common.{arith, ap, ap₂, sym, ◌∙◌}
use Rattle.std.proofs.lemmas.Bool.Decides.{nat_tests}
use Rattle.mt_base.specs.TwosComplement.{to_signed, from_signed}
use Rattle.c_ast.specs.declared.int_type.IntType.{IntType}
use Rattle.c_ast.specs.declared.int_type.IntType.TheVariants as int
use Rattle.c_type_base.specs.Arithmetic.{remainder}
use Rattle.c_type_base.specs.Conversions.{bits_of, wrap}
use Rattle.a64_alu.specs.Width.{width, of_width}
use Rattle.a64_code.specs.declared.instr.Reg.{Reg}
use Rattle.a64_code.specs.State.{State, with_value}
use Rattle.a64_laws.specs.Forms.{puts_register}
use Rattle.a64_laws.specs.Sequences.{Sign, remainder_instrs, quotient as quotient_of, remainder as remainder_of}
use Rattle.a64_laws.specs.Laws.Effects.Registers.{with_value-same, with_value-other}
use Rattle.a64_laws.specs.Laws.Remainders.{remainder_put, remainder-lt, of_width-lt}
use Rattle.gen_base.specs.Integers.{is_wide, sign_of, remaining}
use Rattle.gen_base.specs.Registers.{left, scratch}
use Rattle.gen_laws.specs.Computes.{Computes, Operands, IsOf, IsPromoted, all_but}
use Rattle.gen_laws.specs.Laws.Arithmetic.{with_sign-computes}
use Rattle.gen_laws.specs.Laws.Computing.{Computes-is, Computes-again, Computes-fewer}
use Rattle.gen_laws.specs.Laws.Divisions.{int_signed, int_wraps, remainder_bits}
use Rattle.gen_laws.specs.Laws.Numbers.{IsOf-lt, each_promoted}

-- ---- the two instructions

-- of two numbers, at the width of a type
abbrev left_of : IntType → ℕ → ℕ → ℕ
left_of t a b = remainder_of (sign_of t) (width (is_wide t)) (of_width (is_wide t) a) (of_width (is_wide t) b)

instrs-compute : (sign : Sign) (wide : Bool) (r : Reg) (a b : ℕ) (s : State) → Operands r a b s → of_width wide b ≢ 0 → s.pc + 8 < 2 ^ 64 →
    Computes (remainder_instrs sign wide r left scratch r) r (remainder_of sign (width wide) (of_width wide a) (of_width wide b))
    (all_but scratch) s
unfolding puts_register
instrs-compute sign wide r a b s given some room = record {
  to = puts_register r (remainder_of sign (width wide) x y) (puts_register scratch (quotient_of sign (width wide) x y) s);
  runs = remainder_put sign wide r left scratch r s (omega (arith, given.for_values.to)) (omega arith) (omega arith)
      (omega (arith, given.for_values.to)) (λ same. absurd (omega (arith, same, given.for_values.to))) (λ same. absurd (cc))
      (omega (arith, given.first, given.first_fits)) (λ none. some (ap (of_width wide) (sym given.second) ∙ none)) room;
  holds = with_value-same (with_value s.register 17 (quotient_of sign (width wide) x y)) r.0 (remainder_of sign (width wide) x y)
      ∙ ap₂ (λ m n. remainder_of sign (width wide) (of_width wide m) (of_width wide n)) given.first given.second;
  registers = λ q other spared.
      with_value-other (with_value s.register 17 (quotient_of sign (width wide) x y)) r.0 (remainder_of sign (width wide) x y) q other
      ∙ with_value-other s.register 17 (quotient_of sign (width wide) x y) q spared;
  same = record {
    sp = refl;
    byte = refl;
    tag = refl;
    regions = refl;
    guard = refl;
    choices = refl;
    drawn = refl;
    outside = refl;
  };
}
  where
    x : ℕ
    x = of_width wide (s.register 16)

    y : ℕ
    y = of_width wide (s.register r.0)

-- ---- the numbers

some_at : (b : ℕ) (t : IntType) → IsPromoted t → IsOf t b → b ≢ 0 → of_width (is_wide t) b ≢ 0
some_at b t promoted is some =
    each_promoted (λ t. IsOf t b → of_width (is_wide t) b ≢ 0)
    (λ p none. some (grind (arith, nat_tests))) (λ p none. some (omega (arith, p, none))) (λ p. some) (λ p. some) t promoted is

left_is : (t : IntType) (a b : ℕ) → IsPromoted t → IsOf t a → IsOf t b → wrap t (left_of t a b) ≡ remainder t a b
left_is t a b promoted first second =
    each_promoted (λ t. IsOf t a → IsOf t b → wrap t (left_of t a b) ≡ remainder t a b)
    (λ p q. int_wraps (left_of int.Int a b) (int_rem (to_signed 64 a) (to_signed 64 b)) _
    (ap₂ (λ y z. from_signed 32 (int_rem y z)) (int_signed a p) (int_signed b q))
    (remainder_bits a b (IsOf-lt int.Int a p) (IsOf-lt int.Int b q)))
    (λ p q. ap₂ (λ m n. m % n % 2 ^ 32) (sym p) (sym q))
    (λ p q. ap (wrap int.Long) (remainder_bits a b (IsOf-lt int.Long a p) (IsOf-lt int.Long b q)))
    (λ p q. refl)
    t promoted first second

left-lt : (t : IntType) (a b : ℕ) → IsPromoted t → a < 2 ^ 64 → left_of t a b < 2 ^ bits_of t
left-lt t a b promoted fits =
    each_promoted (λ t. left_of t a b < 2 ^ bits_of t)
    (below int.Int) (below int.UInt) (below int.Long) (below int.ULong) t promoted
  where
    below : (t : IntType) → left_of t a b < 2 ^ width (is_wide t)
    below t = remainder-lt (sign_of t) (width (is_wide t)) _ _ (of_width-lt (is_wide t) a fits)

pub remaining-computes : (t : IntType) (r : Reg) (a b : ℕ) (s : State) → IsPromoted t → IsOf t a → IsOf t b → b ≢ 0 → Operands r a b s →
    s.pc + 12 < 2 ^ 64 → Computes (remaining t r) r (remainder t a b) (all_but scratch) s
remaining-computes t r a b s promoted first second some given room =
    Computes-is (left_is t a b promoted first second)
    (Computes-again
    (instrs-compute (sign_of t) (is_wide t) r a b s given (some_at b t promoted second some) (omega (arith, room)))
    (λ c. Computes-fewer (λ q spared. tt)
    (with_sign-computes t r (left_of t a b) c.to promoted (omega (arith, given.for_values.to)) c.holds
    (left-lt t a b promoted given.first_fits)
    (omega (arith, c.runs.pc, room)))))
