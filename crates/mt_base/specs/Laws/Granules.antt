-- Laws of granules and of rounding to them.
use Rattle.std.specs.Prelude.{◌≡◌, ℕ, ◌+◌, ◌%◌, ◌<◌, ◌≤◌}
use Rattle.std.proofs.Common.{arith}
use Rattle.mt_base.specs.Granules.{granule_of, round16}

pub round16-multiple : (n : ℕ) → round16 n % 16 ≡ 0
round16-multiple n = omega arith

pub round16-covers : (n : ℕ) → n ≤ round16 n
round16-covers n = omega arith

pub round16-least : (n m : ℕ) → n ≤ m → m % 16 ≡ 0 → round16 n ≤ m
round16-least n m covers multiple = omega arith

-- a multiple is left alone
pub round16_same : (n : ℕ) → n % 16 ≡ 0 → round16 n ≡ n
round16_same n multiple = omega arith

pub round16-round16 : (n : ℕ) → round16 (round16 n) ≡ round16 n
round16-round16 n = omega arith

-- less than a granule is added
pub round16-lt : (n : ℕ) → round16 n < n + 16
round16-lt n = omega arith

pub round16-mono : (m n : ℕ) → m ≤ n → round16 m ≤ round16 n
round16-mono m n below = omega arith

-- whole granules in front stay whole
pub round16-add : (m n : ℕ) → m % 16 ≡ 0 → round16 (m + n) ≡ m + round16 n
round16-add m n multiple = omega arith

-- two bytes of one granule
pub granule_of_same : (start a : ℕ) → start % 16 ≡ 0 → start ≤ a → a < start + 16 → granule_of a ≡ granule_of start
granule_of_same start a multiple from below = omega arith
