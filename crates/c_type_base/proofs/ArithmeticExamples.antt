-- Conversions and operators on given integers.
use Rattle.std.proofs.Common.{◌≡◌, refl, Some}
use Rattle.c_ast.specs.declared.int_type.IntType.TheVariants as int
use Rattle.c_ast.specs.declared.operator.BinaryOperator.TheVariants as binary
use Rattle.c_ast.specs.declared.operator.UnaryOperator.TheVariants as unary
use Rattle.c_type_base.specs.Conversions.{promoted, usual, wrap}
use Rattle.c_type_base.specs.Arithmetic.{binary_value, unary_value}
use Rattle.c_type_base.specs.declared.known.Constancy.TheVariants.{DividesByZero, Is}
use Rattle.c_type_base.specs.Constants.{constant_of, chosen}

char_is_promoted : promoted int.Char ≡ int.Int
char_is_promoted = refl

unsigned_and_long : usual int.UInt int.Long ≡ int.Long
unsigned_and_long = refl

short_and_unsigned : usual int.Short int.UInt ≡ int.UInt
short_and_unsigned = refl

long_and_unsigned_long : usual int.Long int.ULong ≡ int.ULong
long_and_unsigned_long = refl

-- 300 in a char, 200 in a signed char, -1 in an unsigned int
char_wraps : wrap int.Char 300 ≡ 44
char_wraps = refl

signed_char_wraps : wrap int.SignedChar 200 ≡ 18446744073709551560
signed_char_wraps = refl

unsigned_wraps : wrap int.UInt 18446744073709551615 ≡ 4294967295
unsigned_wraps = refl

-- -7 / 2 is -3 and -7 % 2 is -1
quotient_toward_zero : binary_value binary.Divide int.Int 18446744073709551609 2 ≡ Some 18446744073709551613
quotient_toward_zero = refl

remainder_of_first : binary_value binary.Remainder int.Int 18446744073709551609 2 ≡ Some 18446744073709551615
remainder_of_first = refl

-- the least int divided by -1 is itself
least_divided : binary_value binary.Divide int.Int 18446744071562067968 18446744073709551615 ≡ Some 18446744071562067968
least_divided = refl

-- 1 << 33 is 2, and -8 >> 1 is -4
count_modulo_width : binary_value binary.ShiftLeft int.Int 1 33 ≡ Some 2
count_modulo_width = refl

sign_is_kept : binary_value binary.ShiftRight int.Int 18446744073709551608 1 ≡ Some 18446744073709551612
sign_is_kept = refl

-- -1 < 0 for int, and not for unsigned
signed_compares : binary_value binary.Less int.Int 18446744073709551615 0 ≡ Some 1
signed_compares = refl

unsigned_compares : binary_value binary.Less int.UInt 4294967295 0 ≡ Some 0
unsigned_compares = refl

unsigned_complement : unary_value unary.Complement int.UInt 0 ≡ Some 4294967295
unsigned_complement = refl

-- 1 / 0 is no constant, 0 && 1 / 0 is 0, and so is 0 ? 1 / 0 : 0
divides : constant_of binary.Divide int.Int (Is 1) (Is 0) ≡ DividesByZero
divides = refl

not_evaluated : constant_of binary.And int.ULong (Is 0) DividesByZero ≡ Is 0
not_evaluated = refl

other_arm : chosen (Is 0) DividesByZero (Is 0) ≡ Is 0
other_arm = refl
