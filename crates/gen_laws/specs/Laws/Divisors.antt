-- The difference of two pointers in objects of a size: no number of 64 bits divides it as 0 does (this project's own).
use Rattle.std.specs.Prelude.{◌≡◌, ℕ, ◌/◌, ◌^◌, ◌<◌, ◌≤◌, nat_lt, Bool, true, false, List, refl, if◌then◌else◌}
use Rattle.std.proofs.Common.{arith, ap, sym, ◌∙◌}
use Rattle.std.proofs.Math.Nat.{div-zero}
use Rattle.std.proofs.lemmas.Bool.Decides.{nat_tests}
use Rattle.c_ast.specs.declared.int_type.IntType.TheVariants as int
use Rattle.c_type_base.specs.Arithmetic.{is_negative, magnitude, differ, with_sign, quotient}
use Rattle.c_type_base.specs.Conversions.{wrap}
use Rattle.c_type_base.specs.Sizes.{size}
use Rattle.c_type_base.specs.declared.ty.Ty.{Ty}
use Rattle.c_type_base.specs.declared.typed.StructInfo.{StructInfo}
use Rattle.gen_base.specs.Operators.{divisor_size}

-- 0, with either sign
none_signed : (negative : Bool) → wrap int.Long (with_sign negative 0) ≡ 0
none_signed true = refl
none_signed false = refl

nothing_by : (a b : ℕ) → magnitude int.Long b ≡ 0 → quotient int.Long a b ≡ 0
nothing_by a b none =
    ap (λ n. wrap int.Long (with_sign (differ (is_negative int.Long a) (is_negative int.Long b)) (magnitude int.Long a / n))) none
    ∙ ap (λ n. wrap int.Long (with_sign (differ (is_negative int.Long a) (is_negative int.Long b)) n)) (div-zero (magnitude int.Long a))
    ∙ none_signed (differ (is_negative int.Long a) (is_negative int.Long b))

too_large : (b : ℕ) → 2 ^ 64 ≤ b → magnitude int.Long b ≡ 0
too_large b large = grind (arith, nat_tests)

divisor_of : (small : Bool) (n : ℕ) → nat_lt n (2 ^ 64) ≡ small → (if small then n else 0) < 2 ^ 64
divisor_of true n is = grind (arith, nat_tests)
divisor_of false n is = omega arith

-- a register has the divisor
pub divisor-lt : (structs : List StructInfo) (t : Ty) → divisor_size structs t < 2 ^ 64
divisor-lt structs t = divisor_of (nat_lt (size structs t) (2 ^ 64)) (size structs t) refl

by_small : (a : ℕ) (small : Bool) (n : ℕ) → nat_lt n (2 ^ 64) ≡ small → quotient int.Long a (if small then n else 0) ≡ quotient int.Long a n
by_small a true n is = refl
by_small a false n is =
    let large : 2 ^ 64 ≤ n = grind (arith, nat_tests) in
    nothing_by a 0 refl ∙ sym (nothing_by a n (too_large n large))

-- and divides as the size does
pub divisor-divides : (structs : List StructInfo) (t : Ty) (a : ℕ) →
    quotient int.Long a (divisor_size structs t) ≡ quotient int.Long a (size structs t)
divisor-divides structs t a = by_small a (nat_lt (size structs t) (2 ^ 64)) (size structs t) refl
