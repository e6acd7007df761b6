-- Shifts by a number in a register, LSLV, LSRV and ASRV of the Arm ARM: the count is taken modulo the width.
use Rattle.std.specs.Prelude.{ℕ, ◌%◌}
use Rattle.mt_base.specs.Shifts.{shift_left, shift_right, arithmetic_shift_right}

-- LSLV
abbrev pub shift_left_by : ℕ → ℕ → ℕ → ℕ
shift_left_by k x count = shift_left k x (count % k)

-- LSRV
abbrev pub shift_right_by : ℕ → ℕ → ℕ → ℕ
shift_right_by k x count = shift_right x (count % k)

-- ASRV
abbrev pub arithmetic_shift_right_by : ℕ → ℕ → ℕ → ℕ
arithmetic_shift_right_by k x count = arithmetic_shift_right k x (count % k)
