-- Pairs in memory, read back (this project's own).
use Rattle.std.specs.Prelude.{ℕ, ◌+◌, ◌^◌, ◌<◌, ◌≤◌}
use Rattle.std.proofs.Common.{arith, ◌∙◌}
use Rattle.mt_base.specs.Memory.{store}
use Rattle.mt_base.specs.Laws.Memory.{load-store_same, load-store_below, load-store_above}
use Rattle.a64_laws.specs.Frames.{HasPair}

-- a pair that was stored
pub HasPair-stored : (byte : ℕ → ℕ) (at first second : ℕ) → first < 2 ^ 64 → second < 2 ^ 64 →
    HasPair (store 8 (store 8 byte at first) (at + 8) second) at first second
HasPair-stored byte at first second fits fits_too = record {
  has_first = load-store_below 8 8 (store 8 byte at first) at (at + 8) second (omega arith) ∙ load-store_same 8 byte at first
      ∙ omega (arith, fits);
  has_second = load-store_same 8 (store 8 byte at first) (at + 8) second ∙ omega (arith, fits_too);
}

-- it is still there behind a store above it, or below
pub HasPair-below : (n : ℕ) {byte : ℕ → ℕ} {at first second : ℕ} (place value : ℕ) → at + 16 ≤ place → HasPair byte at first second →
    HasPair (store n byte place value) at first second
HasPair-below n {byte} {at} place value above pair = record {
  has_first = load-store_below 8 n byte at place value (omega (arith, above)) ∙ pair.has_first;
  has_second = load-store_below 8 n byte (at + 8) place value (omega (arith, above)) ∙ pair.has_second;
}

pub HasPair-above : (n : ℕ) {byte : ℕ → ℕ} {at first second : ℕ} (place value : ℕ) → place + n ≤ at → HasPair byte at first second →
    HasPair (store n byte place value) at first second
HasPair-above n {byte} {at} place value below pair = record {
  has_first = load-store_above 8 n byte at place value (omega (arith, below)) ∙ pair.has_first;
  has_second = load-store_above 8 n byte (at + 8) place value (omega (arith, below)) ∙ pair.has_second;
}
