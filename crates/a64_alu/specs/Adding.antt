-- Addition with a carry and its flags, `AddWithCarry` of the Arm ARM, and the subtraction that SUBS makes of it.
use Rattle.std.specs.Prelude.{ℕ, ◌+◌, ◌-◌, ◌%◌, ◌^◌, ℤ, pos, ◌+ℤ◌, not, ◌==◌, nat_le}
use Rattle.std.specs.Ordering.{int_eq}
use Rattle.mt_base.specs.TwosComplement.{to_signed}
use Rattle.a64_alu.specs.declared.flags.Flags.{Flags}
use Rattle.a64_alu.specs.Width.{invert}

-- the sum of two numbers and a carry of 0 or 1, as unsigned and as signed numbers
abbrev pub unsigned_sum : ℕ → ℕ → ℕ → ℕ
unsigned_sum x y carry = x + y + carry

abbrev pub signed_sum : ℕ → ℕ → ℕ → ℕ → ℤ
signed_sum k x y carry = to_signed k x +ℤ to_signed k y +ℤ pos carry

-- the k bits of the sum
abbrev pub sum_bits : ℕ → ℕ → ℕ → ℕ → ℕ
sum_bits k x y carry = unsigned_sum x y carry % 2 ^ k

-- N is the highest bit of the result, and Z says that it is 0. C and V say that it is not the unsigned, the signed sum.
abbrev pub sum_flags : ℕ → ℕ → ℕ → ℕ → Flags
sum_flags k x y carry = record {
  negative = nat_le (2 ^ (k - 1)) (sum_bits k x y carry);
  zero = sum_bits k x y carry == 0;
  carry = not (sum_bits k x y carry == unsigned_sum x y carry);
  overflow = not (int_eq (to_signed k (sum_bits k x y carry)) (signed_sum k x y carry));
}

-- `AddWithCarry`
abbrev pub add_with_carry : ℕ → ℕ → ℕ → ℕ → ℕ × Flags
add_with_carry k x y carry = (sum_bits k x y carry, sum_flags k x y carry)

-- SUBS: x plus NOT y plus 1
abbrev pub subtract_with_flags : ℕ → ℕ → ℕ → ℕ × Flags
subtract_with_flags k x y = add_with_carry k x (invert k y) 1
