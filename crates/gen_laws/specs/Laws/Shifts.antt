-- Shifts (ISO C11 6.5.7): what the lists compute is what the meaning computes, for any count.
use Rattle.std.specs.Prelude.{◌≡◌, ℕ, ◌+◌, ◌-◌, ◌*◌, ◌/◌, ◌%◌, ◌^◌, ◌<◌, Bool, true, false, if◌then◌else◌, leb, refl}
use Rattle.std.proofs.Common.{arith, ap, ap₂, sym, subst, ◌∙◌, inl, inr}
use Rattle.std.proofs.lemmas.Bool.{cases_lt}
use Rattle.std.proofs.lemmas.Bool.Decides.{nat_tests}
use Rattle.std.proofs.Math.Nat.{div-le_self}
use Rattle.std.proofs.lemmas.Nat.{mul-mod_first, shr_le}
use Rattle.mt_base.specs.Shifts.{arithmetic_shift_right}
use Rattle.mt_base.specs.Laws.Extension.{to_signed-sign_extend}
use Rattle.mt_base.specs.Laws.Shifts.{to_signed-arithmetic_shift_right, arithmetic_shift_right-lt}
use Rattle.mt_base.specs.Laws.TwosComplement.{to_signed-wrap, to_signed_low, to_signed_high}
use Rattle.mt_base.specs.TwosComplement.{to_signed, from_signed}
use Rattle.c_ast.specs.declared.int_type.IntType.{IntType}
use Rattle.c_ast.specs.declared.int_type.IntType.TheVariants as int
use Rattle.c_type_base.specs.Arithmetic.{shifted_left, shifted_right}
use Rattle.c_type_base.specs.Conversions.{is_signed, bits_of, wrap}
use Rattle.a64_code.specs.declared.instr.Reg.{Reg}
use Rattle.a64_code.specs.State.{State}
use Rattle.a64_laws.specs.Forms.{Operation, ShiftLeft, ShiftRight, ShiftRightSigned}
use Rattle.gen_base.specs.Integers.{operation, shift_right}
use Rattle.gen_laws.specs.Computes.{Computes, Operands, IsOf, IsPromoted, all}
use Rattle.gen_laws.specs.Laws.Arithmetic.{operated_as, operation-computes}
use Rattle.gen_laws.specs.Laws.Computing.{Computes-is}
use Rattle.gen_laws.specs.Laws.Numbers.{IsOf-lt, each_promoted, wrap-same, wrap-long, wrap-is_of, wrap-extends}
use lib.Signed.{shr_z}

-- ---- to the left

left_low : (a b : ℕ) (t : IntType) → IsPromoted t → wrap t (operated_as ShiftLeft t a b) ≡ shifted_left t a b
left_low a b t promoted =
    wrap-same t (operated_as ShiftLeft t a b) (a * 2 ^ (b % bits_of t))
    (each_promoted (λ t. operated_as ShiftLeft t a b % 2 ^ bits_of t ≡ a * 2 ^ (b % bits_of t) % 2 ^ bits_of t) narrow narrow whole whole
    t promoted)
  where
    count : b % 2 ^ 32 % 32 ≡ b % 32
    count = omega arith

    narrow : a % 2 ^ 32 * 2 ^ (b % 2 ^ 32 % 32) % 2 ^ 32 % 2 ^ 32 % 2 ^ 32 ≡ a * 2 ^ (b % 32) % 2 ^ 32
    narrow = rw count (omega (arith, mul-mod_first a (2 ^ (b % 32)) (2 ^ 32)))

    whole : a * 2 ^ (b % 64) % 2 ^ 64 % 2 ^ 64 ≡ a * 2 ^ (b % 64) % 2 ^ 64
    whole = omega arith

left-lt : (a b : ℕ) (t : IntType) → IsPromoted t → operated_as ShiftLeft t a b < 2 ^ bits_of t
left-lt a b t promoted =
    each_promoted (λ t. operated_as ShiftLeft t a b < 2 ^ bits_of t) (omega arith) (omega arith) (omega arith) (omega arith) t promoted

pub shift_left-computes : (t : IntType) (r : Reg) (a b : ℕ) (s : State) → IsPromoted t → Operands r a b s → s.pc + 8 < 2 ^ 64 →
    Computes (operation ShiftLeft t r) r (shifted_left t a b) all s
shift_left-computes t r a b s promoted given room =
    Computes-is (left_low a b t promoted) (operation-computes ShiftLeft t r a b s promoted given (left-lt a b t promoted) room)

-- ---- to the right, with zeros above

right_zeros : (t : IntType) → is_signed t ≡ false → (a b : ℕ) → IsPromoted t → IsOf t a →
    wrap t (operated_as ShiftRight t a b) ≡ shifted_right t a b
right_zeros int.UInt unsigned a b promoted is =
    rw (count, let e : a % 2 ^ 32 ≡ a = omega (arith, is) in e) (omega (arith, is, shr_le a (b % 32)))
  where
    count : b % 2 ^ 32 % 32 ≡ b % 32
    count = omega arith
right_zeros int.ULong unsigned a b promoted is = omega (arith, is, shr_le a (b % 64))
right_zeros _ unsigned a b promoted is = absurd (cc)

-- ---- to the right, with the sign above: the signed number is divided and rounded down

shifted_signed : (a d : ℕ) → a < 2 ^ 64 → from_signed 64 (shr_z (to_signed 64 a) d) ≡ (if leb (2 ^ 63) a then 2 ^ 64 - 1 -
    (2 ^ 64 - 1 - a) / d else a / d)
shifted_signed a d fits = elim (cases_lt (a % 2 ^ 64) (2 ^ 63)) [
  | inl low ↦ rw (to_signed_low 64 a low) (grind (arith, nat_tests, div-le_self a d))
  | inr high ↦ rw (to_signed_high 64 a high) (grind (arith, nat_tests, div-le_self (2 ^ 64 - 1 - a) d))
]

right_signs : (t : IntType) → is_signed t ≡ true → (a b : ℕ) → IsPromoted t → IsOf t a →
    wrap t (operated_as ShiftRightSigned t a b) ≡ shifted_right t a b
right_signs int.Int signed a b promoted is =
    sym (wrap-extends int.Int (arithmetic_shift_right 32 (a % 2 ^ 32) (b % 2 ^ 32 % 32) % 2 ^ 32))
    ∙ ap (from_signed 64)
    (to_signed-wrap 32 (arithmetic_shift_right 32 (a % 2 ^ 32) (b % 2 ^ 32 % 32))
    ∙ to_signed-arithmetic_shift_right 32 (a % 2 ^ 32) (b % 2 ^ 32 % 32) (omega arith)
    ∙ ap₂ (λ z c. shr_z z (2 ^ c)) (to_signed-wrap 32 a ∙ whole) count)
    ∙ shifted_signed a (2 ^ (b % 32)) (IsOf-lt int.Int a is)
  where
    count : b % 2 ^ 32 % 32 ≡ b % 32
    count = omega arith

    whole : to_signed 32 a ≡ to_signed 64 a
    whole = sym (to_signed-sign_extend 32 64 a (omega arith) (omega arith)) ∙ ap (to_signed 64) (wrap-extends int.Int a ∙ sym is)
right_signs int.Long signed a b promoted is =
    omega (
      arith,
      wrap-long (arithmetic_shift_right 64 a (b % 64)),
      arithmetic_shift_right-lt 64 a (b % 64),
      shifted_signed a (2 ^
          (b % 64)) (IsOf-lt int.Long a is),
    )
right_signs _ signed a b promoted is = absurd (cc)

-- ---- by the sign of the type

abbrev right_operation : Bool → Operation
right_operation signed = if signed then ShiftRightSigned else ShiftRight

right_is : (t : IntType) (a b : ℕ) → IsPromoted t → IsOf t a →
    wrap t (operated_as (right_operation (is_signed t)) t a b) ≡ shifted_right t a b
right_is t a b promoted is =
    each_promoted (λ t. IsOf t a → wrap t (operated_as (right_operation (is_signed t)) t a b) ≡ shifted_right t a b)
    (right_signs int.Int refl a b refl) (right_zeros int.UInt refl a b refl) (right_signs int.Long refl a b refl)
    (right_zeros int.ULong refl a b refl) t promoted is

right-lt : (t : IntType) (a b : ℕ) → IsPromoted t → a < 2 ^ 64 → operated_as (right_operation (is_signed t)) t a b < 2 ^ bits_of t
right-lt t a b promoted fits =
    each_promoted (λ t. operated_as (right_operation (is_signed t)) t a b < 2 ^ bits_of t)
    (omega arith) (omega arith) (arithmetic_shift_right-lt 64 a (b % 64)) (omega (arith, fits, shr_le a (b % 64))) t promoted

pub shift_right-computes : (t : IntType) (r : Reg) (a b : ℕ) (s : State) → IsPromoted t → IsOf t a → Operands r a b s →
    s.pc + 8 < 2 ^ 64 → Computes (shift_right t r) r (shifted_right t a b) all s
shift_right-computes t r a b s promoted is given room =
    Computes-is (right_is t a b promoted is)
    (operation-computes (right_operation (is_signed t)) t r a b s promoted given (right-lt t a b promoted given.first_fits) room)

pub shifted_right-is_of : (t : IntType) (a b : ℕ) → IsPromoted t → IsOf t a → IsOf t (shifted_right t a b)
shifted_right-is_of t a b promoted is =
    subst (IsOf t) (right_is t a b promoted is) (wrap-is_of t (operated_as (right_operation (is_signed t)) t a b))
