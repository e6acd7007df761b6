-- The bytes of memory behind the relocations of an image: R_AARCH64_RELATIVE with tags (this project's own, after the Memtag ABI).
use Rattle.std.specs.Prelude.{ℕ, ◌+◌, ◌-◌, ◌*◌, ◌^◌, Bool, if◌then◌else◌, List, reverse, Option, Some, None, slice_index}
use Rattle.std.specs.List.{find}
use Rattle.std.specs.Int.{w64, cast_unsigned}
use Rattle.mt_base.specs.Granules.{granule_of}
use Rattle.mt_base.specs.Memory.{Extent, is_between, is_mapped, load, bytes_of}
use Rattle.mt_base.specs.Wrapping.{wrapping_add}
use Rattle.elf_image.specs.declared.parts.RelativeReloc.{RelativeReloc}
use Rattle.tag_startup.specs.Parts.{load_address}

-- memory before any relocation: its bytes, the tags of its granules, and where it is
pub record Before : Type 0 where
  pub byte : ℕ → ℕ
  pub tag : ℕ → ℕ
  pub regions : List Extent

-- the load address plus the addend, in 64 bits
abbrev pub target : RelativeReloc → ℕ
target r = wrapping_add 64 load_address (cast_unsigned w64 r.addend)

-- The address whose tag the pointer takes: the target plus what the place holds before any relocation. That is the negative of an
-- offset where the target is not in its object, as for a pointer to the end of an array.
abbrev pub tagged_address : Before → RelativeReloc → ℕ
tagged_address memory r = wrapping_add 64 (target r) (load 8 memory.byte (load_address + r.place))

-- the tag of the granule of an address, and 0 where no region holds the address
abbrev pub tag_there : Before → ℕ → ℕ
tag_there memory at = if is_mapped memory.regions at then memory.tag (granule_of at) else 0

-- what the place gets: the target with that tag
unfoldable pub pointer : Before → RelativeReloc → ℕ
pointer memory r = wrapping_add 64 (target r) (tag_there memory (tagged_address memory r) * 2 ^ 56)

-- the 8 bytes of the place have that address
abbrev pub is_at_place : ℕ → RelativeReloc → Bool
is_at_place at r = is_between (load_address + r.place) 8 at

-- the byte at an address by the relocation that it is of, where it is of one
abbrev pub byte_by : Before → Option RelativeReloc → ℕ → ℕ
byte_by memory None at = memory.byte at
byte_by memory (Some r) at = slice_index (bytes_of 8 (pointer memory r)) (at - (load_address + r.place))

-- the bytes behind the relocations: where several are of one place, the last one counts
unfoldable pub relocated_byte : Before → List RelativeReloc → ℕ → ℕ
relocated_byte memory relocs at = byte_by memory (find (is_at_place at) (reverse relocs)) at
