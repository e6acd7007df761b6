-- What the operators give on integers (ISO C11 6.5.3.3, 6.5.5 to 6.5.14), on values modulo 2^64 of one type; signed arithmetic wraps
-- (this project's own).
use Rattle.std.specs.Prelude.{ℕ, ◌+◌, ◌-◌, ◌*◌, ◌/◌, ◌%◌, ◌^◌, Bool, true, false, ◌&&◌, leb, ltb, nat_eq, if◌then◌else◌, bit_and, bit_or}
use Rattle.std.specs.Prelude.{bit_xor, Option, Some, None}
use Rattle.c_ast.specs.declared.int_type.IntType.{IntType}
use Rattle.c_ast.specs.declared.operator.BinaryOperator.{BinaryOperator}
use Rattle.c_ast.specs.declared.operator.BinaryOperator.TheVariants as binary
use Rattle.c_ast.specs.declared.operator.UnaryOperator.{UnaryOperator}
use Rattle.c_ast.specs.declared.operator.UnaryOperator.TheVariants as unary
use Rattle.c_type_base.specs.Conversions.{is_signed, bits_of, wrap}

-- a value of the type that stands for a number below 0
abbrev pub is_negative : IntType → ℕ → Bool
is_negative t n = is_signed t && leb (2 ^ 63) n

abbrev pub negated : ℕ → ℕ
negated n = (2 ^ 64 - n) % 2 ^ 64

-- without the sign
abbrev pub magnitude : IntType → ℕ → ℕ
magnitude t n = (if is_negative t n then negated n else n)

abbrev pub with_sign : Bool → ℕ → ℕ
with_sign negative n = (if negative then negated n else n)

abbrev pub differ : Bool → Bool → Bool
differ a b = (if a then (if b then false else true) else b)

-- toward 0; the least number divided by -1 is itself (this project's own)
abbrev pub quotient : IntType → ℕ → ℕ → ℕ
quotient t a b = wrap t (with_sign (differ (is_negative t a) (is_negative t b)) (magnitude t a / magnitude t b))

-- has the sign of the first
abbrev pub remainder : IntType → ℕ → ℕ → ℕ
remainder t a b = wrap t (with_sign (is_negative t a) (magnitude t a % magnitude t b))

-- for signed types the numbers from 2^63 on come first
abbrev pub is_below : IntType → ℕ → ℕ → Bool
is_below t a b = (if is_signed t then ltb ((a + 2 ^ 63) % 2 ^ 64) ((b + 2 ^ 63) % 2 ^ 64) else ltb a b)

abbrev pub truth : Bool → ℕ
truth b = (if b then 1 else 0)

-- the count is taken modulo the width (this project's own)
abbrev pub shifted_left : IntType → ℕ → ℕ → ℕ
shifted_left t a count = wrap t (a * 2 ^ (count % bits_of t))

-- a signed value keeps its sign
abbrev pub shifted_right : IntType → ℕ → ℕ → ℕ
shifted_right t a count =
    (if is_negative t a then 2 ^ 64 - 1 - (2 ^ 64 - 1 - a) / 2 ^ (count % bits_of t) else a / 2 ^ (count % bits_of t))

-- a division by 0 has no value
abbrev pub divided : (ℕ → ℕ → ℕ) → ℕ → ℕ → Option ℕ
divided by a b = (if nat_eq b 0 then None else Some (by a b))

-- a comparison of two values of a type; `&&` and `||` ask whether they are 0
abbrev pub comparison : BinaryOperator → IntType → ℕ → ℕ → Option ℕ
comparison binary.Less t a b = Some (truth (is_below t a b))
comparison binary.Greater t a b = Some (truth (is_below t b a))
comparison binary.LessEqual t a b = Some (truth (if is_below t b a then false else true))
comparison binary.GreaterEqual t a b = Some (truth (if is_below t a b then false else true))
comparison binary.Equal t a b = Some (truth (nat_eq a b))
comparison binary.NotEqual t a b = Some (truth (if nat_eq a b then false else true))
comparison binary.And t a b = Some (truth (if nat_eq a 0 then false else (if nat_eq b 0 then false else true)))
comparison binary.Or t a b = Some (truth (if nat_eq a 0 then (if nat_eq b 0 then false else true) else true))
comparison _ t a b = None

-- an operator on two values of a type
abbrev pub binary_value : BinaryOperator → IntType → ℕ → ℕ → Option ℕ
binary_value binary.BitAnd t a b = Some (bit_and a b)
binary_value binary.BitOr t a b = Some (bit_or a b)
binary_value binary.BitXor t a b = Some (bit_xor a b)
binary_value binary.Multiply t a b = Some (wrap t (a * b))
binary_value binary.Add t a b = Some (wrap t (a + b))
binary_value binary.Subtract t a b = Some (wrap t (a + negated b))
binary_value binary.Divide t a b = divided (quotient t) a b
binary_value binary.Remainder t a b = divided (remainder t) a b
binary_value binary.ShiftLeft t a b = Some (shifted_left t a b)
binary_value binary.ShiftRight t a b = Some (shifted_right t a b)
binary_value o t a b = comparison o t a b

-- an operator on a value of a type: `&` and `*` have none
abbrev pub unary_value : UnaryOperator → IntType → ℕ → Option ℕ
unary_value unary.Plus t a = Some a
unary_value unary.Minus t a = Some (wrap t (negated a))
unary_value unary.Complement t a = Some (wrap t (2 ^ 64 - 1 - a))
unary_value unary.Not t a = Some (truth (nat_eq a 0))
unary_value _ t a = None
