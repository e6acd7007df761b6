-- Where the bytes of regions stand in pages: the part of a page that one region has.
use Rattle.std.specs.Prelude.{◌≡◌, ℕ, ◌+◌, ◌/◌, ◌%◌, ◌<◌, ◌≤◌, ◌==◌, Bool, true, not, List, map, length, slice_index}
use Rattle.std.specs.List.{All, AllPairs, list_any}
use Rattle.std.specs.List.Sorted.{IsStrictlyIncreasing}
use Rattle.mt_base.specs.Memory.{Extent, is_mapped, is_protected, is_executable}
use Rattle.tag_mem.specs.Regions.{IsWhole, AreApart}
use Rattle.tag_pages.specs.declared.bounds.Bounds.{Bounds}
use Rattle.tag_pages.specs.declared.part.Part.{Part}

abbrev pub extent : Bounds → Extent
extent b = record { start = b.start; bytes = b.bytes; writable = b.writable; executable = b.executable }

abbrev pub extents : List Bounds → List Extent
extents regions = map extent regions

-- whether a number is among those of pages
abbrev pub has_number : List ℕ → ℕ → Bool
has_number numbers number = list_any (λ n. n == number) numbers

-- no address is in two regions, the numbers of the pages increase, and each page with an address of a region has one
pub record IsLaidOut (regions : List Extent) (numbers : List ℕ) : Type 0 where
  pub whole : All IsWhole regions
  pub apart : AllPairs AreApart regions
  pub increasing : IsStrictlyIncreasing numbers
  pub covers : (at : ℕ) → is_mapped regions at ≡ true → has_number numbers (at / 4096) ≡ true

-- the addresses of a part are whole granules of one page, which stands at that place, and of one region, with these rights
pub record IsPart (regions : List Extent) (numbers : List ℕ) (part : Part) : Type 0 where
  pub in_range : part.first ≤ part.last → part.page < length numbers
  pub number : part.first ≤ part.last → slice_index numbers part.page ≡ part.first / 4096
  pub one_page : part.first ≤ part.last → part.last / 4096 ≡ part.first / 4096
  pub first_whole : part.first ≤ part.last → part.first % 16 ≡ 0
  pub last_whole : part.first ≤ part.last → (part.last + 1) % 16 ≡ 0
  pub mapped : (at : ℕ) → part.first ≤ at → at ≤ part.last → is_mapped regions at ≡ true
  pub protected : (at : ℕ) → part.first ≤ at → at ≤ part.last → is_protected regions at ≡ not part.writable
  pub executable : (at : ℕ) → part.first ≤ at → at ≤ part.last → is_executable regions at ≡ part.executable

-- and the address is one of them
pub record IsPartAt (regions : List Extent) (numbers : List ℕ) (at : ℕ) (part : Part) : Type 0 where
  pub is_part : IsPart regions numbers part
  pub from : part.first ≤ at
  pub to : at ≤ part.last
