-- The places of an image that hold addresses: R_AARCH64_RELATIVE, of the words of the table and of R_AARCH64_ABS64 in the filled data.
use Rattle.std.specs.Prelude.{ℕ, ◌+◌, ◌*◌, List, [], ◌∷◌, ◌++◌, map, length}
use Rattle.std.specs.Int.{w64, cast_signed}
use Rattle.mt_base.specs.Wrapping.{wrap}
use Rattle.elf_obj.specs.declared.parts.Reloc.{Reloc}
use Rattle.elf_obj.specs.Object.{Object}
use Rattle.elf_image.specs.declared.parts.RelativeReloc.{RelativeReloc}
use Rattle.linker.specs.declared.bases.Bases.{Bases}
use Rattle.linker.specs.Names.{NumberedSymbol, target}
use Rattle.linker.specs.Sections.{each_from}
use Rattle.linker.specs.Got.{got}
use Rattle.linker.specs.Addresses.{symbol_address, init_address, address, plus}

-- a place and the address that is put there, as a signed number of 64 bits
abbrev pub relative : ℕ → ℕ → RelativeReloc
relative place at = record { place = place; addend = cast_signed w64 (wrap 64 at) }

-- the i-th word of the table holds the address of its symbol
abbrev pub got_reloc : List Object → Bases → ℕ → NumberedSymbol → RelativeReloc
got_reloc objects bases i e = relative (bases.filled + 8 * i) (symbol_address objects bases e)

-- a place of the filled data of the object of a number
abbrev pub data_reloc : List Object → Bases → ℕ → Object → Reloc → RelativeReloc
data_reloc objects bases k o r =
    relative (init_address objects bases k + r.offset) (plus (address objects bases (target objects k o.symbols r.symbol)) r.addend)

-- those of objects that are counted from a number
abbrev pub data_relocs_from : List Object → Bases → ℕ → List Object → List RelativeReloc
data_relocs_from objects bases k [] = []
data_relocs_from objects bases k (o ∷ os) =
    map (data_reloc objects bases k o) o.init_relocs ++ data_relocs_from objects bases (k + 1) os

-- all of them, in the order of their places
abbrev pub relocations : List Object → Bases → List RelativeReloc
relocations objects bases = each_from 0 (got_reloc objects bases) (got objects) ++ data_relocs_from objects bases 0 objects

-- how many the objects have in their filled data
abbrev pub data_reloc_count : List Object → ℕ
data_reloc_count [] = 0
data_reloc_count (o ∷ os) = length o.init_relocs + data_reloc_count os

abbrev pub relocation_count : List Object → ℕ
relocation_count objects = length (got objects) + data_reloc_count objects
