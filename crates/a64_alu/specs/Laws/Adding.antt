-- What SUBS leaves, and what the conditions then say of the two numbers that were compared.
use Rattle.std.specs.Prelude.{◌≡◌, ℕ, ◌^◌, ◌<◌, Bool, true, false, not, ◌==◌, nat_le, nat_lt, int_le, int_lt}
use Rattle.std.proofs.Common.{arith}
use Rattle.std.proofs.lemmas.Int.{ints}
use Rattle.std.proofs.lemmas.Bool.Decides.{nat_tests}
use Rattle.mt_base.specs.Wrapping.{wrapping_sub}
use Rattle.mt_base.specs.TwosComplement.{to_signed}
use Rattle.a64_alu.specs.declared.flags.Flags.{Flags}
use Rattle.a64_alu.specs.Width.{width}
use Rattle.a64_alu.specs.Adding.{subtract_with_flags}
use Rattle.a64_alu.specs.Condition.{condition_holds}

-- the difference
pub difference_is : (wide : Bool) (x y : ℕ) → x < 2 ^ width wide → y < 2 ^ width wide →
    (subtract_with_flags (width wide) x y).0 ≡ wrapping_sub (width wide) x y
difference_is true x y small fits = grind arith
difference_is false x y small fits = grind arith

-- the carry is set where nothing is borrowed
pub carry_is : (wide : Bool) (x y : ℕ) → x < 2 ^ width wide → y < 2 ^ width wide →
    (subtract_with_flags (width wide) x y).1.carry ≡ nat_le y x
carry_is true x y small fits = grind (arith, nat_tests)
carry_is false x y small fits = grind (arith, nat_tests)

-- The flags tell how x stands to y: EQ and NE, CS, CC, HI and LS as unsigned numbers, GE, LT, GT and LE as signed ones.
pub record Compares (k x y : ℕ) (f : Flags) : Type 0 where
  pub equal : condition_holds 0 f ≡ (x == y)
  pub unequal : condition_holds 1 f ≡ not (x == y)
  pub higher_or_same : condition_holds 2 f ≡ nat_le y x
  pub lower : condition_holds 3 f ≡ nat_lt x y
  pub higher : condition_holds 8 f ≡ nat_lt y x
  pub lower_or_same : condition_holds 9 f ≡ nat_le x y
  pub at_least : condition_holds 10 f ≡ int_le (to_signed k y) (to_signed k x)
  pub less : condition_holds 11 f ≡ int_lt (to_signed k x) (to_signed k y)
  pub greater : condition_holds 12 f ≡ int_lt (to_signed k y) (to_signed k x)
  pub at_most : condition_holds 13 f ≡ int_le (to_signed k x) (to_signed k y)

pub subtract_compares : (wide : Bool) (x y : ℕ) → x < 2 ^ width wide → y < 2 ^ width wide →
    Compares (width wide) x y (subtract_with_flags (width wide) x y).1
subtract_compares true x y small fits = record {
  equal = grind (arith, nat_tests);
  unequal = grind (arith, nat_tests);
  higher_or_same = grind (arith, nat_tests);
  lower = grind (arith, nat_tests);
  higher = grind (arith, nat_tests);
  lower_or_same = grind (arith, nat_tests);
  at_least = grind (arith, ints, nat_tests);
  less = grind (arith, ints, nat_tests);
  greater = grind (arith, ints, nat_tests);
  at_most = grind (arith, ints, nat_tests);
}
subtract_compares false x y small fits = record {
  equal = grind (arith, nat_tests);
  unequal = grind (arith, nat_tests);
  higher_or_same = grind (arith, nat_tests);
  lower = grind (arith, nat_tests);
  higher = grind (arith, nat_tests);
  lower_or_same = grind (arith, nat_tests);
  at_least = grind (arith, ints, nat_tests);
  less = grind (arith, ints, nat_tests);
  greater = grind (arith, ints, nat_tests);
  at_most = grind (arith, ints, nat_tests);
}
