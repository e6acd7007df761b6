-- Numbers of any size as bytes (unsigned LEB128, DWARF 5, 7.6), in their shortest form.
use Rattle.std.specs.Prelude.{ℕ, ◌+◌, ◌*◌, ◌<◌, ◌≤◌, List, [], ◌∷◌, length}

-- the shortest spelling: the lowest seven bits first, and bit 7 on each byte but the last, which is 0 only where it is the first
pub data IsShortest : ℕ → List ℕ → Type 0 where
  last : (n : ℕ) → n < 128 → IsShortest n (n ∷ [])
  more : (low high : ℕ) (bytes : List ℕ) → low < 128 → 0 < high → IsShortest high bytes
      → IsShortest (low + 128 * high) ((low + 128) ∷ bytes)

-- a number of a descriptor: its shortest spelling, of eight bytes at most
pub record IsNumber (n : ℕ) (bytes : List ℕ) : Type 0 where
  pub shortest : IsShortest n bytes
  pub few : length bytes ≤ 8
