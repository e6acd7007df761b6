-- Counts of faults and numbers of calls. Each stops at the last number of 64 bits.
use Rattle.std.specs.Prelude.{ℕ, ◌+◌, nat_lt, if◌then◌else◌}

-- the number after this one, where there is one
abbrev pub one_more : ℕ → ℕ
one_more number = if nat_lt number 18446744073709551615 then number + 1 else number
