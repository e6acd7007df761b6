-- Division, UDIV and SDIV of the Arm ARM: rounded toward zero, and 0 where the divisor is 0.
use Rattle.std.specs.Prelude.{ℕ, ◌/◌, ◌==◌, if◌then◌else◌, int_div}
use Rattle.mt_base.specs.TwosComplement.{to_signed, from_signed}

-- UDIV
abbrev pub divide_unsigned : ℕ → ℕ → ℕ
divide_unsigned x y = if y == 0 then 0 else x / y

-- SDIV; the least number divided by -1 is 2 ^ (k - 1), whose k bits are the least number's
abbrev pub divide_signed : ℕ → ℕ → ℕ → ℕ
divide_signed k x y = if y == 0 then 0 else from_signed k (int_div (to_signed k x) (to_signed k y))
