-- How the number of a record is told in a refusal.
use Rattle.std.specs.Prelude.{ℕ, min}

-- in 32 bits: one that they do not hold is told as their last number
abbrev pub told_index : ℕ → ℕ
told_index n = min n 4294967295
