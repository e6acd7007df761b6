-- Integer constants, one by one.
use Rattle.std.proofs.Common.{◌≡◌, ℕ, [], ◌∷◌, true, false, refl, arith, inr, replicate}
use Rattle.c_ast.specs.declared.int_type.IntType.{IntType}
use Rattle.c_ast.specs.declared.int_type.IntType.TheVariants.{Int, UInt, Long}
use Rattle.c_lex.specs.Constant.{decimal, octal, hexadecimal, none, unsigned, long, IsConstant}
use Rattle.c_lex.specs.declared.fault.Fault.TheVariants.{BadByte, NumberTooLarge}
use Rattle.c_lex.specs.Faults.{FaultAt, unfit_number, large_number}
use Rattle.c_lex.specs.Laws.Constants.{numeral-integer, constant-numeral}
use Rattle.c_lex.specs.Laws.NumberFaults.{digit-at, no-integer, numeral-fits, no-constant}

-- `0` is octal
zero_is_octal : IsConstant 0 Int (48 ∷ [])
zero_is_octal = record {
  written = record {
    radix = 8;
    prefix = [];
    digits = 48 ∷ [];
    suffix = [];
    unsigned = false;
    long = false;
    parts = refl;
    based = octal refl;
    marked = none;
  };
  valued = refl;
  typed = refl;
}

-- `42u`
forty_two_unsigned : IsConstant 42 UInt (52 ∷ 50 ∷ 117 ∷ [])
forty_two_unsigned = record {
  written = record {
    radix = 10;
    prefix = [];
    digits = 52 ∷ 50 ∷ [];
    suffix = 117 ∷ [];
    unsigned = true;
    long = false;
    parts = refl;
    based = decimal (λ e. omega (arith, e)) refl;
    marked = unsigned refl;
  };
  valued = refl;
  typed = refl;
}

-- `017L`
fifteen_long : IsConstant 15 Long (48 ∷ 49 ∷ 55 ∷ 76 ∷ [])
fifteen_long = record {
  written = record {
    radix = 8;
    prefix = [];
    digits = 48 ∷ 49 ∷ 55 ∷ [];
    suffix = 76 ∷ [];
    unsigned = false;
    long = true;
    parts = refl;
    based = octal refl;
    marked = long refl;
  };
  valued = refl;
  typed = refl;
}

-- `0X80000000`, which is over the greatest int, is unsigned
first_over_int : IsConstant 0x8000_0000 UInt (48 ∷ 88 ∷ 56 ∷ 48 ∷ 48 ∷ 48 ∷ 48 ∷ 48 ∷ 48 ∷ 48 ∷ [])
first_over_int = record {
  written = record {
    radix = 16;
    prefix = 48 ∷ 88 ∷ [];
    digits = 56 ∷ 48 ∷ 48 ∷ 48 ∷ 48 ∷ 48 ∷ 48 ∷ 48 ∷ [];
    suffix = [];
    unsigned = false;
    long = false;
    parts = refl;
    based = hexadecimal (inr refl) refl;
    marked = none;
  };
  valued = refl;
  typed = refl;
}

-- and `2147483648`, the same number in decimal, is long
same_in_decimal : IsConstant 0x8000_0000 Long (50 ∷ 49 ∷ 52 ∷ 55 ∷ 52 ∷ 56 ∷ 51 ∷ 54 ∷ 52 ∷ 56 ∷ [])
same_in_decimal = record {
  written = record {
    radix = 10;
    prefix = [];
    digits = 50 ∷ 49 ∷ 52 ∷ 55 ∷ 52 ∷ 56 ∷ 51 ∷ 54 ∷ 52 ∷ 56 ∷ [];
    suffix = [];
    unsigned = false;
    long = false;
    parts = refl;
    based = decimal (λ e. omega (arith, e)) refl;
    marked = none;
  };
  valued = refl;
  typed = refl;
}

-- `08` is none
eight_is_no_octal_digit : (value : ℕ) (ty : IntType) → ¬ IsConstant value ty (48 ∷ 56 ∷ [])
eight_is_no_octal_digit value ty c = refused (constant-numeral value ty (48 ∷ 56 ∷ []) c).0
  where
    refused : false ≡ true → ⊥
    refused h = cc

-- its fault is at the `8`
eight_is_bad : FaultAt (48 ∷ 56 ∷ []) BadByte 1
eight_is_bad = unfit_number (digit-at (48 ∷ 56 ∷ []) refl) (no-integer (48 ∷ 56 ∷ []) refl) (numeral-fits (48 ∷ 56 ∷ []) refl)

-- the fault of `0x;` is behind the `x`, and that of `12_` at the `_`
no_digit_is_bad : FaultAt (48 ∷ 120 ∷ 59 ∷ []) BadByte 2
no_digit_is_bad =
    unfit_number (digit-at (48 ∷ 120 ∷ 59 ∷ []) refl) (no-integer (48 ∷ 120 ∷ 59 ∷ []) refl) (numeral-fits (48 ∷ 120 ∷ 59 ∷ []) refl)

other_byte_is_bad : FaultAt (49 ∷ 50 ∷ 95 ∷ []) BadByte 2
other_byte_is_bad =
    unfit_number (digit-at (49 ∷ 50 ∷ 95 ∷ []) refl) (no-integer (49 ∷ 50 ∷ 95 ∷ []) refl) (numeral-fits (49 ∷ 50 ∷ 95 ∷ []) refl)

-- `0xfffffffffffffffff` is too large
seventeen_digits : FaultAt (48 ∷ 120 ∷ replicate 17 102) NumberTooLarge 0
seventeen_digits =
    large_number (digit-at (48 ∷ 120 ∷ replicate 17 102) refl) (numeral-integer (48 ∷ 120 ∷ replicate 17 102) refl)
    (no-constant (48 ∷ 120 ∷ replicate 17 102) refl)
