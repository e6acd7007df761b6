-- Quotients (ISO C11 6.5.5): toward zero, as the meaning has them, of values of one type.
use Rattle.std.specs.Prelude.{◌≡◌, ℕ, zero, suc, ◌+◌, ◌-◌, ◌/◌, ◌%◌, ◌^◌, ◌<◌, ℤ, pos, negsuc, neg_ℤ, Bool, true, false}
use Rattle.std.specs.Prelude.{if◌then◌else◌, leb, int_div, int_rem, refl}
use Rattle.std.proofs.Common.{arith, ap, ap₂, sym, subst, ◌∙◌, inl, inr}
use Rattle.std.proofs.Math.Nat.{div-le_self, div-zero, mod-le}
use Rattle.std.proofs.lemmas.Bool.{cases_lt, cases_eq, ne_eqb}
use Rattle.std.proofs.lemmas.Bool.Decides.{nat_tests}
use Rattle.mt_base.specs.TwosComplement.{to_signed, from_signed}
use Rattle.mt_base.specs.Laws.Extension.{to_signed-sign_extend}
use Rattle.mt_base.specs.Laws.Wrapping.{wrap_below}
use Rattle.mt_base.specs.Laws.TwosComplement.{to_signed-wrap, to_signed_low, to_signed_high, from_signed-lt}
use Rattle.c_ast.specs.declared.int_type.IntType.{IntType}
use Rattle.c_ast.specs.declared.int_type.IntType.TheVariants as int
use Rattle.c_type_base.specs.Arithmetic.{negated, differ, quotient, with_sign as signed_by}
use Rattle.c_type_base.specs.Conversions.{is_signed, bits_of, wrap}
use Rattle.a64_alu.specs.Dividing.{divide_unsigned, divide_signed}
use Rattle.a64_alu.specs.Width.{width}
use Rattle.a64_code.specs.declared.instr.Reg.{Reg}
use Rattle.a64_code.specs.State.{State}
use Rattle.a64_code.specs.Stepped.{Leads}
use Rattle.a64_code.specs.Effect.{effect}
use Rattle.a64_laws.specs.Forms.{Operation, DivideUnsigned, DivideSigned, operation_instr, puts_register}
use Rattle.a64_laws.specs.Sequences.{divide_instr}
use Rattle.a64_laws.specs.Laws.Results.{operated}
use Rattle.gen_base.specs.Integers.{is_wide, sign_of, division}
use Rattle.gen_base.specs.Registers.{left}
use Rattle.gen_laws.specs.Computes.{Computes, Operands, IsOf, IsPromoted, all}
use Rattle.gen_laws.specs.Laws.Arithmetic.{operated_as, signed-computes}
use Rattle.gen_laws.specs.Laws.Computing.{Computes-is}
use Rattle.gen_laws.specs.Laws.Numbers.{IsOf-lt, each_promoted, wrap-same, wrap-long, wrap-extends}

-- ---- signed numbers by their sign and their magnitude

abbrev sign_of_number : ℕ → Bool
sign_of_number a = leb (2 ^ 63) a

abbrev size_of : ℕ → ℕ
size_of a = if leb (2 ^ 63) a then negated a else a

-- a number of 64 bits
data Signed (a : ℕ) : Type 0 where
  positive : to_signed 64 a ≡ pos a → leb (2 ^ 63) a ≡ false → Signed a
  negative : (n : ℕ) → to_signed 64 a ≡ negsuc n → leb (2 ^ 63) a ≡ true → negated a ≡ suc n → Signed a

signed_number : (a : ℕ) → a < 2 ^ 64 → Signed a
signed_number a fits = elim (cases_lt (a % 2 ^ 64) (2 ^ 63)) [
  | inl low ↦ positive (to_signed_low 64 a low ∙ ap pos (let e : a % 2 ^ 64 ≡ a = omega (arith, fits) in e)) (grind (arith, nat_tests))
  | inr high ↦ negative (2 ^ 64 - suc (a % 2 ^ 64)) (to_signed_high 64 a high) (grind (arith, nat_tests)) (omega (arith, fits, high))
]

negated_bits : (n : ℕ) → n < 2 ^ 64 → from_signed 64 (neg_ℤ (pos n)) ≡ negated n
negated_bits zero fits = refl
negated_bits (suc n) fits = omega (arith, fits)

-- the bits of the quotient
quotient_bits : (a b : ℕ) → a < 2 ^ 64 → b < 2 ^ 64 → from_signed 64 (int_div (to_signed 64 a) (to_signed 64 b))
    ≡ signed_by (differ (leb (2 ^ 63) a) (leb (2 ^ 63) b)) (size_of a / size_of b)
quotient_bits a b first second = by_signs (signed_number a first) (signed_number b second)
  where
    by_signs : Signed a → Signed b → from_signed 64 (int_div (to_signed 64 a) (to_signed 64 b))
        ≡ signed_by (differ (leb (2 ^ 63) a) (leb (2 ^ 63) b)) (size_of a / size_of b)
    by_signs (positive za sa) (positive zb sb) = rw (za, zb, sa, sb) (omega (arith, first, div-le_self a b))
    by_signs (positive za sa) (negative n zb sb size) =
        rw (za, zb, sa, sb, size) (negated_bits (a / suc n) (omega (arith, first, div-le_self a (suc n))))
    by_signs (negative m za sa size) (positive zb sb) =
        rw (za, zb, sa, sb, size) (negated_bits (suc m / b) (omega (arith, size, div-le_self (suc m) b)))
    by_signs (negative m za sa size) (negative n zb sb other) =
        rw (za, zb, sa, sb, size, other) (omega (arith, size, div-le_self (suc m) (suc n)))

pub remainder_bits : (a b : ℕ) → a < 2 ^ 64 → b < 2 ^ 64 → from_signed 64 (int_rem (to_signed 64 a) (to_signed 64 b))
    ≡ signed_by (leb (2 ^ 63) a) (size_of a % size_of b)
remainder_bits a b first second = by_signs (signed_number a first) (signed_number b second)
  where
    by_signs : Signed a → Signed b → from_signed 64 (int_rem (to_signed 64 a) (to_signed 64 b))
        ≡ signed_by (leb (2 ^ 63) a) (size_of a % size_of b)
    by_signs (positive za sa) (positive zb sb) = rw (za, zb, sa, sb) (omega (arith, first, mod-le a b))
    by_signs (positive za sa) (negative n zb sb size) = rw (za, zb, sa, sb, size) (omega (arith, first, mod-le a (suc n)))
    by_signs (negative m za sa size) (positive zb sb) =
        rw (za, zb, sa, sb, size) (negated_bits (suc m % b) (omega (arith, size, mod-le (suc m) b)))
    by_signs (negative m za sa size) (negative n zb sb other) =
        rw (za, zb, sa, sb, size, other) (negated_bits (suc m % suc n) (omega (arith, size, mod-le (suc m) (suc n))))

-- ---- at 32 bits

-- the low bits of a signed number
bits_low : (z : ℤ) → from_signed 32 z % 2 ^ 32 ≡ from_signed 64 z % 2 ^ 32
bits_low (pos n) = omega arith
bits_low (negsuc n) = omega arith

-- an int is the same signed number at either width
pub int_signed : (a : ℕ) → IsOf int.Int a → to_signed 32 (a % 2 ^ 32) ≡ to_signed 64 a
int_signed a is =
    to_signed-wrap 32 a ∙ sym (to_signed-sign_extend 32 64 a (omega arith) (omega arith))
    ∙ ap (to_signed 64) (wrap-extends int.Int a ∙ sym is)

-- ---- division

abbrev division_of : Bool → Operation
division_of signed = if signed then DivideSigned else DivideUnsigned

-- by 0 they give 0
by_none : (z : ℤ) → int_div z (pos 0) ≡ pos 0
by_none (pos n) = ap pos (div-zero n)
by_none (negsuc n) = ap (λ q. neg_ℤ (pos q)) (div-zero (suc n))

divided_signed : (wide : Bool) (x y : ℕ) →
    divide_signed (width wide) x y ≡ from_signed (width wide) (int_div (to_signed (width wide) x) (to_signed (width wide) y))
divided_signed wide x y = elim (cases_eq y 0) [
  | inl none ↦ rw none (by_width wide)
  | inr some ↦ rw (ne_eqb y 0 some) refl
]
  where
    by_width : (wide : Bool) → 0 ≡ from_signed (width wide) (int_div (to_signed (width wide) x) (to_signed (width wide) 0))
    by_width true = sym (ap (from_signed 64) (by_none (to_signed 64 x)))
    by_width false = sym (ap (from_signed 32) (by_none (to_signed 32 x)))

divided_unsigned : (x y : ℕ) → divide_unsigned x y ≡ x / y
divided_unsigned x y = elim (cases_eq y 0) [
  | inl none ↦ rw none (sym (div-zero x))
  | inr some ↦ rw (ne_eqb y 0 some) refl
]

-- an int of the bits of a signed number, at either width
pub int_wraps : (n : ℕ) (z : ℤ) (m : ℕ) → n ≡ from_signed 32 z → from_signed 64 z ≡ m → wrap int.Int n ≡ wrap int.Int m
int_wraps n z m narrow whole =
    wrap-same int.Int n m (ap (λ k. k % 2 ^ 32) narrow ∙ bits_low z ∙ ap (λ k. k % 2 ^ 32) whole)

uint_same : (a : ℕ) → IsOf int.UInt a → a % 2 ^ 32 ≡ a
uint_same a is = sym is

-- SDIV of two numbers of 64 bits
pub divided_long : (a b : ℕ) → a < 2 ^ 64 → b < 2 ^ 64 → divide_signed 64 a b ≡ quotient int.Long a b
divided_long a b first second =
    sym (wrap_below 64 _ (subst (λ n. n < 2 ^ 64) (sym (divided_signed true a b)) (from_signed-lt 64 (int_div (to_signed 64 a)
    (to_signed 64 b)))))
    ∙ sym (wrap-long (divide_signed 64 a b)) ∙ ap (wrap int.Long) (divided_signed true a b ∙ quotient_bits a b first second)

divided_is : (t : IntType) (a b : ℕ) → IsPromoted t → IsOf t a → IsOf t b →
    wrap t (operated_as (division_of (is_signed t)) t a b) ≡ quotient t a b
divided_is t a b promoted first second =
    each_promoted (λ t. IsOf t a → IsOf t b → wrap t (operated_as (division_of (is_signed t)) t a b) ≡ quotient t a b)
    (λ p q. int_wraps (divide_signed 32 (a % 2 ^ 32) (b % 2 ^ 32) % 2 ^ 32) (int_div (to_signed 64 a) (to_signed 64 b)) _
    (ap (λ n. n % 2 ^ 32) (divided_signed false (a % 2 ^ 32) (b % 2 ^ 32) ∙ ap₂ (λ y z. from_signed 32 (int_div y z)) (int_signed a p)
    (int_signed b q))
    ∙ wrap_below 32 _ (from_signed-lt 32 (int_div (to_signed 64 a) (to_signed 64 b))))
    (quotient_bits a b (IsOf-lt int.Int a p) (IsOf-lt int.Int b q)))
    (λ p q. ap (λ n. n % 2 ^ 32 % 2 ^ 32) (divided_unsigned (a % 2 ^ 32) (b % 2 ^ 32)
    ∙ ap₂ (λ m n. m / n) (uint_same a p) (uint_same b q)) ∙ omega arith)
    (λ p q. ap (wrap int.Long) (divided_signed true a b ∙ quotient_bits a b (IsOf-lt int.Long a p) (IsOf-lt int.Long b q)))
    (λ p q. ap (λ n. n % 2 ^ 64) (divided_unsigned a b))
    t promoted first second

divided-lt : (t : IntType) (a b : ℕ) → IsPromoted t → a < 2 ^ 64 → operated_as (division_of (is_signed t)) t a b < 2 ^ bits_of t
divided-lt t a b promoted fits =
    each_promoted (λ t. operated_as (division_of (is_signed t)) t a b < 2 ^ bits_of t) (omega arith) (omega arith)
    (subst (λ n. n < 2 ^ 64) (sym (divided_signed true a b)) (from_signed-lt 64 (int_div (to_signed 64 a) (to_signed 64 b))))
    (subst (λ n. n < 2 ^ 64) (sym (divided_unsigned a b)) (omega (arith, fits, div-le_self a b)))
    t promoted

-- The divisor may be 0, where the quotient is 0 in both.
pub division-computes : (t : IntType) (r : Reg) (a b : ℕ) (s : State) → IsPromoted t → IsOf t a → IsOf t b → Operands r a b s →
    s.pc + 8 < 2 ^ 64 → Computes (division t r) r (quotient t a b) all s
division-computes t r a b s promoted first second given room =
    Computes-is (divided_is t a b promoted first second)
    (signed-computes (divide_instr (sign_of t) (is_wide t) r left r) t r (operated_as (division_of (is_signed t)) t a b) s promoted
    (omega (arith, given.for_values.to)) (divided-lt t a b promoted given.first_fits)
    (each_promoted (λ t. effect (divide_instr (sign_of t) (is_wide t) r left r) s
    ≡ Leads (puts_register r (operated_as (division_of (is_signed t)) t a b) s))
    (done DivideSigned int.Int) (done DivideUnsigned int.UInt) (done DivideSigned int.Long) (done DivideUnsigned int.ULong) t promoted)
    room)
  where
    done : (o : Operation) (t : IntType) → effect (operation_instr o (is_wide t) r left r) s ≡ Leads (puts_register r
        (operated_as o t a b) s)
    done o t =
        operated o (is_wide t) r left r s (omega (arith, given.for_values.to)) (omega arith) (omega (arith, given.for_values.to))
        ∙ ap₂ (λ m n. Leads (puts_register r (operated_as o t m n) s)) given.first given.second
