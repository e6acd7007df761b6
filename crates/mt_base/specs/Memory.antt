-- Memory seen as functions of the address: a byte at each address, a tag for each granule, regions with their rights, and
-- a guard that no access may touch. Addresses are numbers without a bound, so an access never wraps round.
use Rattle.std.specs.Prelude.{ℕ, zero, suc, ◌+◌, ◌-◌, ◌*◌, ◌/◌, ◌%◌, Bool, true, false, not, ◌&&◌, ◌||◌, ◌==◌, nat_le, nat_lt}
use Rattle.std.specs.Prelude.{if◌then◌else◌, List, [], ◌∷◌, length, slice_index}
use Rattle.std.specs.List.{list_any}
use Rattle.mt_base.specs.Granules.{granule_of}

-- ---- where accesses go

-- so many addresses from `start` on
pub record Span : Type 0 where
  pub start : ℕ
  pub bytes : ℕ

-- where a region lies, and what may be done there besides reading
pub record Extent : Type 0 where
  pub start : ℕ
  pub bytes : ℕ
  pub writable : Bool
  pub executable : Bool

-- the address is one of the `bytes` addresses from `start` on
abbrev pub is_between : ℕ → ℕ → ℕ → Bool
is_between start bytes at = nat_le start at && nat_lt at (start + bytes)

abbrev pub is_in_span : Span → ℕ → Bool
is_in_span span at = is_between span.start span.bytes at

abbrev pub is_in_extent : Extent → ℕ → Bool
is_in_extent extent at = is_between extent.start extent.bytes at

-- some region holds the byte at the address
abbrev pub is_mapped : List Extent → ℕ → Bool
is_mapped regions at = list_any (λ r. is_in_extent r at) regions

-- a region that is not writable holds it
abbrev pub is_protected : List Extent → ℕ → Bool
is_protected regions at = list_any (λ r. is_in_extent r at && not r.writable) regions

-- an executable region holds it
abbrev pub is_executable : List Extent → ℕ → Bool
is_executable regions at = list_any (λ r. is_in_extent r at && r.executable) regions

-- the test holds of each, or of one at least, of the `count` addresses from `at` on
unfoldable pub every_byte : (ℕ → Bool) → ℕ → ℕ → Bool
every_byte test at zero = true
every_byte test at (suc count) = test at && every_byte test (at + 1) count

unfoldable pub some_byte : (ℕ → Bool) → ℕ → ℕ → Bool
some_byte test at zero = false
some_byte test at (suc count) = test at || some_byte test (at + 1) count

-- ---- numbers and bytes, the lowest byte at the lowest address

-- the `count` bytes from `at` on
unfoldable pub bytes_at : ℕ → (ℕ → ℕ) → ℕ → List ℕ
bytes_at zero byte at = []
bytes_at (suc count) byte at = byte at ∷ bytes_at count byte (at + 1)

-- the number of the `count` bytes from `at` on
unfoldable pub load : ℕ → (ℕ → ℕ) → ℕ → ℕ
load zero byte at = 0
load (suc count) byte at = byte at + 256 * load count byte (at + 1)

-- the `count` low bytes of a number
unfoldable pub bytes_of : ℕ → ℕ → List ℕ
bytes_of zero value = []
bytes_of (suc count) value = value % 256 ∷ bytes_of count (value / 256)

-- the bytes after those from `at` on were replaced
unfoldable pub store_bytes : (ℕ → ℕ) → ℕ → List ℕ → ℕ → ℕ
store_bytes byte at bytes a = if is_between at (length bytes) a then slice_index bytes (a - at) else byte a

-- the same by the low bytes of a number
abbrev pub store : ℕ → (ℕ → ℕ) → ℕ → ℕ → ℕ → ℕ
store count byte at value = store_bytes byte at (bytes_of count value)

-- ---- tags

-- the tags of granules after the granule of an address got this one
unfoldable pub store_tag : (ℕ → ℕ) → ℕ → ℕ → ℕ → ℕ
store_tag tags at tag granule = if granule == granule_of at then tag else tags granule
