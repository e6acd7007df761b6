-- The intervals of the tagged objects of an image, and how many bytes describe them (after the Memtag ABI).
use Rattle.std.specs.Prelude.{◌≡◌, ℕ, ◌+◌, ◌-◌, ◌*◌, ◌≤◌, List, [], ◌∷◌, ◌++◌, replicate, filter_map, length, slice_get, IsPermutation}
use Rattle.std.specs.Prelude.{IsSortedByKey}
use Rattle.std.specs.Option.{option_map}
use Rattle.std.specs.Ordering.{nat_cmp}
use Rattle.elf_obj.specs.declared.parts.Symbol.{Symbol}
use Rattle.elf_obj.specs.Object.{Object}
use Rattle.elf_image.specs.Image.{Image}
use Rattle.memtag_desc.specs.declared.interval.Interval.{Interval}
use Rattle.memtag_desc.specs.Numbers.{IsShortest}
use Rattle.memtag_desc.specs.Descriptors.{interval_at, end_of}
use Rattle.linker.specs.declared.bases.Bases.{Bases}
use Rattle.linker.specs.Names.{numbered}
use Rattle.linker.specs.Addresses.{bases_of, symbol_address}
use Rattle.linker.specs.Code.{code_words}
use Rattle.linker.specs.Data.{rodata_size, filled_size, zero_size}
use Rattle.linker.specs.Relocations.{relative, relocation_count}

-- ---- the intervals

-- the bytes of a symbol of the object of a number
abbrev pub interval_of : List Object → Bases → ℕ → ℕ → Symbol → Interval
interval_of objects bases k number s = record { start = symbol_address objects bases (numbered k number s); bytes = s.size }

-- those of the tagged symbols of objects that are counted from a number, in the order of the objects and of the symbols
abbrev pub tagged_from : List Object → Bases → ℕ → List Object → List Interval
tagged_from objects bases k [] = []
tagged_from objects bases k (o ∷ os) =
    filter_map (λ number. option_map (interval_of objects bases k number) (slice_get o.symbols number)) o.tagged
    ++ tagged_from objects bases (k + 1) os

-- the intervals of all tagged symbols, in the order of their addresses
pub record AreTagged (objects : List Object) (bases : Bases) (intervals : List Interval) : Type 0 where
  pub all : IsPermutation (tagged_from objects bases 0 objects) intervals
  pub in_order : IsSortedByKey (λ i. i.start) nat_cmp intervals

-- ---- descriptors of any length

-- one descriptor of a distance and a size in granules, in the form of `IsDescriptor`, whose numbers may have any number of bytes
pub data SpellsOne : ℕ → ℕ → List ℕ → Type 0 where
  small : (distance size : ℕ) (bytes : List ℕ) → 1 ≤ size → size ≤ 7 → IsShortest (8 * distance + size) bytes
      → SpellsOne distance size bytes
  large : (distance size : ℕ) (first second : List ℕ) → 8 ≤ size → IsShortest (8 * distance) first → IsShortest (size - 1) second
      → SpellsOne distance size (first ++ second)

-- The bytes describe the intervals behind an address, as `DescribesFrom` has it, but each may end beyond 2^48. `next`: the first
-- interval, so many granules behind the address and so long, has its descriptor, and the rest is described from its end on.
pub data SpellsFrom : ℕ → List Interval → List ℕ → Type 0 where
  nothing : (from : ℕ) → SpellsFrom from [] []
  next : (from distance size : ℕ) (intervals : List Interval) (first rest : List ℕ) → SpellsOne distance size first
      → SpellsFrom (end_of (interval_at from distance size)) intervals rest
      → SpellsFrom from (interval_at from distance size ∷ intervals) (first ++ rest)

-- ---- their length

-- an image as large in each part as that of the objects, with so many bytes of descriptors; what the parts hold does not matter
unfoldable pub sized : List Object → ℕ → Image
sized objects count = record {
  entry = 0;
  relocs = replicate (relocation_count objects) (relative 0 0);
  descriptors = replicate count 0;
  rodata = replicate (rodata_size objects) 0;
  words = replicate (code_words objects) 0;
  filled = replicate (filled_size objects) 0;
  zero_bytes = zero_size objects;
}

-- So many bytes of descriptors agree with themselves: the descriptors stand before the tagged objects, so their length decides the
-- addresses, and those that describe the objects at the addresses to which this length leads have this length.
pub record AgreesWithItself (objects : List Object) (count : ℕ) : Type 0 where
  pub intervals : List Interval
  pub bytes : List ℕ
  pub tagged : AreTagged objects (bases_of (sized objects count)) intervals
  pub spelled : SpellsFrom 0 intervals bytes
  pub len : length bytes ≡ count

-- the fewest bytes that agree with themselves
pub record IsFewest (objects : List Object) (count : ℕ) : Type 0 where
  pub agrees : AgreesWithItself objects count
  pub least : (other : ℕ) → AgreesWithItself objects other → count ≤ other
