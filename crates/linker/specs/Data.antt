-- The data of an image: what is only read, the filled bytes with the table before them, and the zero bytes.
use Rattle.std.specs.Prelude.{ℕ, ◌+◌, ◌-◌, ℤ, pos, negsuc, Bool, ◌&&◌, nat_le, nat_lt, List, map, Option, Some, None, slice_index}
use Rattle.std.specs.Prelude.{if◌then◌else◌}
use Rattle.std.specs.List.{find}
use Rattle.byteorder.specs.Endian.{little_bytes}
use Rattle.mt_base.specs.Granules.{round16}
use Rattle.mt_base.specs.Wrapping.{wrapping_sub}
use Rattle.elf_base.specs.Layout.{Piece}
use Rattle.elf_obj.specs.declared.parts.Reloc.{Reloc}
use Rattle.elf_obj.specs.Object.{Object}
use Rattle.linker.specs.Names.{NumberedSymbol, target}
use Rattle.linker.specs.Sections.{laid, ends, rodata_sizes, init_sizes, zero_sizes, each_from}
use Rattle.linker.specs.Got.{got_bytes}

-- ---- data that is only read

abbrev pub rodata_pieces : List Object → List Piece
rodata_pieces objects = laid 16 0 (map (λ o. o.rodata) objects)

abbrev pub rodata_size : List Object → ℕ
rodata_size objects = ends 16 0 (rodata_sizes objects)

-- ---- places that hold addresses

-- What such a place holds in the file, by the size of its symbol and the addend: 0 where the addend leads into the symbol's object, and
-- else the negative of the addend in 64 bits, by which start-up finds the object's tag (this project's own, after the Memtag ABI).
abbrev pub place_content : ℕ → ℤ → ℕ
place_content size (pos a) = if nat_lt a size then 0 else wrapping_sub 64 0 a
place_content size (negsuc a) = a + 1

-- the size of a symbol that is there
abbrev pub target_size : Option NumberedSymbol → ℕ
target_size None = 0
target_size (Some e) = e.symbol.size

-- the place of 8 bytes of a relocation has this byte
abbrev pub covers : ℕ → Reloc → Bool
covers i r = nat_le r.offset i && nat_lt i (r.offset + 8)

-- The byte that the image has for byte i of an object's filled data, by the relocation whose 8 bytes have it: the object's where there is
-- none, and else the byte with its number among the 8 that this place holds in the file.
abbrev pub byte_with : List Object → ℕ → Object → Option Reloc → ℕ → ℕ → ℕ
byte_with objects k o None i byte = byte
byte_with objects k o (Some r) i byte =
    slice_index (little_bytes 8 (place_content (target_size (target objects k o.symbols r.symbol)) r.addend)) (i - r.offset)

-- the filled bytes of the object of a number
abbrev pub object_bytes : List Object → ℕ → Object → List ℕ
object_bytes objects k o =
    each_from 0 (λ i byte. byte_with objects k o (find (covers i) o.init_relocs) i byte) o.init_bytes

-- ---- the writable part

-- the filled bytes in pieces: the words of the table are zero, and the objects' bytes follow it
abbrev pub filled_pieces : List Object → List Piece
filled_pieces objects = laid 16 (got_bytes objects) (each_from 0 (object_bytes objects) objects)

-- how many there are, in whole granules
abbrev pub filled_size : List Object → ℕ
filled_size objects = round16 (ends 16 (got_bytes objects) (init_sizes objects))

-- how many zero bytes follow them, in whole granules
abbrev pub zero_size : List Object → ℕ
zero_size objects = round16 (ends 16 0 (zero_sizes objects))
