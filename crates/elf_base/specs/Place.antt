-- Parts of a record: reading them, and writing over them.
use Rattle.std.specs.Prelude.{◌≡◌, ℕ, ◌+◌, ◌≤◌, List, ◌++◌, length, take, drop}
use Rattle.byteorder.specs.Endian.{little_number}

-- a part of a file: so many bytes of it from a place on
pub record Taken (file : List ℕ) (at n : ℕ) (part : List ℕ) : Type 0 where
  pub within : at + n ≤ length file
  pub len : length part ≡ n
  pub part_is : part ≡ take n (drop at file)

-- the number whose bytes stand at a place, the lowest byte first
unfoldable pub number_at : ℕ → ℕ → List ℕ → ℕ
number_at width at xs = little_number width (drop at xs)

-- a list with other elements from a place on
unfoldable pub put_at : ℕ → List ℕ → List ℕ → List ℕ
put_at at xs out = take at out ++ xs ++ drop (at + length xs) out
