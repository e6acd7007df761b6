-- Which bytes describe which intervals (Memtag ABI, AARCH64_MEMTAG_GLOBALS). Distances and sizes count granules of 16 bytes.
use Rattle.std.specs.Prelude.{◌≡◌, ℕ, ◌+◌, ◌*◌, ◌-◌, ◌^◌, ◌%◌, ◌<◌, ◌≤◌, List, [], ◌∷◌, ◌++◌}
use Rattle.memtag_desc.specs.declared.interval.Interval.{Interval}
use Rattle.memtag_desc.specs.Numbers.{IsNumber}

-- one descriptor, of a distance and a size: a size of 1 to 7 stands in the low three bits of its number;
-- a larger one less one is a number of its own, and then the low three bits are 0
pub data IsDescriptor : ℕ → ℕ → List ℕ → Type 0 where
  small : (distance size : ℕ) (bytes : List ℕ) → 1 ≤ size → size ≤ 7 → IsNumber (8 * distance + size) bytes
      → IsDescriptor distance size bytes
  large : (distance size : ℕ) (first second : List ℕ) → 8 ≤ size → IsNumber (8 * distance) first → IsNumber (size - 1) second
      → IsDescriptor distance size (first ++ second)

-- where an interval ends
abbrev pub end_of : Interval → ℕ
end_of i = i.start + i.bytes

-- the addresses below which an interval ends, or where it ends: those of 48 bits
abbrev pub address_limit : ℕ
address_limit = 2 ^ 48

-- the interval of that distance from an address, and of that size
abbrev pub interval_at : ℕ → ℕ → ℕ → Interval
interval_at from distance size = record { start = from + 16 * distance; bytes = 16 * size }

-- the bytes describe the intervals, each by its distance from the end of the one before, the first by its distance from an address
pub data DescribesFrom : ℕ → List Interval → List ℕ → Type 0 where
  nothing : (from : ℕ) → DescribesFrom from [] []
  next : (from distance size : ℕ) (intervals : List Interval) (first rest : List ℕ) → IsDescriptor distance size first
      → end_of (interval_at from distance size) ≤ address_limit → DescribesFrom (end_of (interval_at from distance size)) intervals rest
      → DescribesFrom from (interval_at from distance size ∷ intervals) (first ++ rest)

-- the bytes describe the intervals of an image, whose addresses begin at 0
abbrev pub Describes : List Interval → List ℕ → Type 0
Describes intervals bytes = DescribesFrom 0 intervals bytes

-- where the last interval ends, or that address where there is none
abbrev pub end_from : ℕ → List Interval → ℕ
end_from from [] = from
end_from from (i ∷ intervals) = end_from (end_of i) intervals

-- the intervals that have a description: whole granules, in order, none empty, all below the limit
abbrev pub HaveDescription : ℕ → List Interval → Type 0
HaveDescription from [] = Unit {0}
HaveDescription from (i ∷ intervals) =
    (i.start % 16 ≡ 0) × (i.bytes % 16 ≡ 0) × (0 < i.bytes) × (from ≤ i.start) × (end_of i ≤ address_limit)
    × HaveDescription (end_of i) intervals
