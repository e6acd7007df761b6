-- Arithmetic on numbers of k bits, which wraps round at 2 ^ k: addition, subtraction and multiplication as the Arm ARM
-- has them on bits(k) and as Rust's `wrapping_` methods compute them. No law asks for numbers that fit.
use Rattle.std.specs.Prelude.{ℕ, ◌+◌, ◌-◌, ◌*◌, ◌%◌, ◌^◌}

-- the low k bits of a number
abbrev pub wrap : ℕ → ℕ → ℕ
wrap k n = n % 2 ^ k

-- the sum, the difference and the product in k bits
abbrev pub wrapping_add : ℕ → ℕ → ℕ → ℕ
wrapping_add k a b = (a + b) % 2 ^ k

abbrev pub wrapping_sub : ℕ → ℕ → ℕ → ℕ
wrapping_sub k a b = (a + (2 ^ k - b % 2 ^ k)) % 2 ^ k

abbrev pub wrapping_mul : ℕ → ℕ → ℕ → ℕ
wrapping_mul k a b = (a * b) % 2 ^ k
