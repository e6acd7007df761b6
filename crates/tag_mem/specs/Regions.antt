-- Regions: where they may lie, and what a list of them holds.
use Rattle.std.specs.Prelude.{◌≡◌, ℕ, ◌+◌, ◌-◌, ◌*◌, ◌/◌, ◌%◌, ◌^◌, ◌<◌, ◌≤◌, true, if◌then◌else◌, List, [], ◌∷◌, map, length}
use Rattle.std.specs.Prelude.{slice_index, slice_index_or, ◌++◌, take, drop}
use Rattle.std.specs.Global.{Vec}
use Rattle.std.specs.List.{All, AllPairs}
use Rattle.mt_base.specs.Memory.{Span, Extent, is_in_extent, is_in_span}
use Rattle.tag_mem.specs.declared.region.Region.{Region}
use Rattle.tag_mem.specs.declared.region.Span64.{Span64}
use Rattle.tag_mem.specs.declared.chunk.Chunk.{Chunk}

-- ---- where regions may lie

abbrev pub extent_of : Region → Extent
extent_of r = record { start = r.start; bytes = length r.bytes.items; writable = r.writable; executable = r.executable }

abbrev pub extents_of : List Region → List Extent
extents_of regions = map extent_of regions

abbrev pub span_of : Span64 → Span
span_of s = record { start = s.start; bytes = s.bytes }

-- the region has whole granules, and no address past the last of 64 bits
pub record IsWhole (region : Extent) : Type 0 where
  pub start_whole : region.start % 16 ≡ 0
  pub bytes_whole : region.bytes % 16 ≡ 0
  pub within : region.start + region.bytes ≤ 2 ^ 64

-- no address is in both
abbrev pub AreApart : Extent → Extent → Type 0
AreApart r s = (at : ℕ) → is_in_extent r at ≡ true → is_in_extent s at ≡ true → ⊥

abbrev pub IsApartFrom : Span → Extent → Type 0
IsApartFrom guard r = (at : ℕ) → is_in_span guard at ≡ true → is_in_extent r at ≡ true → ⊥

-- the regions and the guard have whole granules, and nothing overlaps
pub record IsWellPlaced (regions : List Extent) (guard : Span) : Type 0 where
  pub whole : All IsWhole regions
  pub guard_start_whole : guard.start % 16 ≡ 0
  pub guard_bytes_whole : guard.bytes % 16 ≡ 0
  pub apart : AllPairs AreApart regions
  pub guard_apart : All (IsApartFrom guard) regions

-- ---- what the regions hold

-- the byte at an address of a region; elsewhere it is 0
abbrev pub byte_in : List Region → ℕ → ℕ
byte_in [] at = 0
byte_in (r ∷ rs) at =
    if is_in_extent (extent_of r) at then slice_index r.bytes.items (at - r.start) % 256 else byte_in rs at

-- the tag of a granule of a region, where the tags of each region stand in a list of its own; elsewhere it is 0
abbrev pub tag_in : List Extent → List (Vec ℕ) → ℕ → ℕ
tag_in [] ts granule = 0
tag_in (e ∷ es) [] granule = 0
tag_in (e ∷ es) (t ∷ ts) granule =
    if is_in_extent e (granule * 16) then slice_index t.items (granule - e.start / 16) % 16 else tag_in es ts granule

-- each region has a tag for each of its granules
pub record HaveTags (regions : List Extent) (tags : List (Vec ℕ)) : Type 0 where
  pub count : length tags ≡ length regions
  pub each : (k : ℕ) (e : Extent) (t : Vec ℕ) → k < length regions →
      length (slice_index_or tags k t).items * 16 ≡ (slice_index_or regions k e).bytes

-- ---- a run of addresses in one region

-- the region at that place holds the address
pub record IsHeldBy (regions : List Region) (place at : ℕ) : Type 0 where
  pub in_range : place < length regions
  pub holds : (d : Region) → is_in_extent (extent_of (slice_index_or regions place d)) at ≡ true

-- the bytes from an address on stand in that region, from the offset on, at most so many and one at least
pub record IsChunk (regions : List Region) (at most : ℕ) (chunk : Chunk) : Type 0 where
  pub in_range : chunk.region < length regions
  pub placed : (d : Region) → (slice_index_or regions chunk.region d).start + chunk.offset ≡ at
  pub holds : (d : Region) → chunk.offset < length (slice_index_or regions chunk.region d).bytes.items
  pub within : (d : Region) → chunk.offset + chunk.count ≤ length (slice_index_or regions chunk.region d).bytes.items
  pub at_most : chunk.count ≤ most
  pub some : 0 < most → 0 < chunk.count

-- the bytes of a list from a place on were replaced
abbrev pub put_list : List ℕ → ℕ → List ℕ → List ℕ
put_list xs at ys = take at xs ++ (ys ++ drop (at + length ys) xs)
