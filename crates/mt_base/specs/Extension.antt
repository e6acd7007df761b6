-- Extension by zero and by sign, `ZeroExtend` and `SignExtend` of the Arm ARM.
use Rattle.std.specs.Prelude.{ℕ, ◌%◌, ◌^◌}
use Rattle.mt_base.specs.TwosComplement.{to_signed, from_signed}

-- the low k bits of a number, with zeros above
abbrev pub zero_extend : ℕ → ℕ → ℕ
zero_extend k n = n % 2 ^ k

-- the low k bits of a number read as a signed number, in w bits
abbrev pub sign_extend : ℕ → ℕ → ℕ → ℕ
sign_extend k w n = from_signed w (to_signed k n)
