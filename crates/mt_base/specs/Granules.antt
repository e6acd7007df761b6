-- Granules, the 16 bytes that share one allocation tag.
use Rattle.std.specs.Prelude.{ℕ, ◌+◌, ◌*◌, ◌/◌}

-- the number of the granule that holds the byte at an address
abbrev pub granule_of : ℕ → ℕ
granule_of address = address / 16

-- the least multiple of 16 that is at least n
abbrev pub round16 : ℕ → ℕ
round16 n = (n + 15) / 16 * 16
