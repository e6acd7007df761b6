-- Shifts of numbers of k bits: `LSL`, `LSR` and `ASR` of the Arm ARM, by fewer bits than the number has.
use Rattle.std.specs.Prelude.{ℕ, ◌*◌, ◌/◌, ◌%◌, ◌^◌}
use Rattle.mt_base.specs.TwosComplement.{to_signed, from_signed}
use lib.Signed.{shr_z}

-- s places to the left, in k bits
abbrev pub shift_left : ℕ → ℕ → ℕ → ℕ
shift_left k n s = (n * 2 ^ s) % 2 ^ k

-- s places to the right, with zeros at the top
abbrev pub shift_right : ℕ → ℕ → ℕ
shift_right n s = n / 2 ^ s

-- s places to the right, with copies of the sign at the top: the signed number divided, rounded down
abbrev pub arithmetic_shift_right : ℕ → ℕ → ℕ → ℕ
arithmetic_shift_right k n s = from_signed k (shr_z (to_signed k n) (2 ^ s))
