-- Where symbols and words of the table lie in an image.
use Rattle.std.specs.Prelude.{ℕ, ◌+◌, ◌*◌, ℤ, List, Option, Some, None, slice_index}
use Rattle.std.specs.Int.{w64, cast_unsigned}
use Rattle.mt_base.specs.Wrapping.{wrapping_add}
use Rattle.elf_obj.specs.declared.parts.Home.{Home}
use Rattle.elf_obj.specs.declared.parts.Home.TheVariants.{Undef, Text, Rodata, Init, Zero}
use Rattle.elf_obj.specs.Object.{Object}
use Rattle.elf_image.specs.Image.{Image}
use Rattle.elf_image.specs.Places.{rodata_place, code_place, filled_place, file_end}
use Rattle.linker.specs.declared.bases.Bases.{Bases}
use Rattle.linker.specs.Names.{NumberedSymbol}
use Rattle.linker.specs.Sections.{starts, word_counts, rodata_sizes, init_sizes, zero_sizes}
use Rattle.linker.specs.Got.{got_number, got_bytes}

-- where the parts of an image begin; the zero bytes follow its file
abbrev pub bases_of : Image → Bases
bases_of image = record {
  rodata = rodata_place image;
  code = code_place image;
  filled = filled_place image;
  zeros = file_end image;
}

-- Where the object of a number has its instructions, which follow the two words of the program's start, its read-only data, its filled
-- data, which follows the table, and its zero bytes. Instructions have 4 bytes, so each 16 bytes are 4 of them.
abbrev pub text_address : List Object → Bases → ℕ → ℕ
text_address objects bases k = bases.code + 4 * slice_index (starts 4 2 (word_counts objects)) k

abbrev pub rodata_address : List Object → Bases → ℕ → ℕ
rodata_address objects bases k = bases.rodata + slice_index (starts 16 0 (rodata_sizes objects)) k

abbrev pub init_address : List Object → Bases → ℕ → ℕ
init_address objects bases k = bases.filled + slice_index (starts 16 (got_bytes objects) (init_sizes objects)) k

abbrev pub zero_address : List Object → Bases → ℕ → ℕ
zero_address objects bases k = bases.zeros + slice_index (starts 16 0 (zero_sizes objects)) k

-- where the section lies that the object of a number has of a kind
abbrev pub section_address : List Object → Bases → ℕ → Home → ℕ
section_address objects bases k Undef = 0
section_address objects bases k Text = text_address objects bases k
section_address objects bases k Rodata = rodata_address objects bases k
section_address objects bases k Init = init_address objects bases k
section_address objects bases k Zero = zero_address objects bases k

-- the address of a symbol, S
abbrev pub symbol_address : List Object → Bases → NumberedSymbol → ℕ
symbol_address objects bases e = section_address objects bases e.object e.symbol.home + e.symbol.value

-- the address of a symbol that is there
abbrev pub address : List Object → Bases → Option NumberedSymbol → ℕ
address objects bases None = 0
address objects bases (Some e) = symbol_address objects bases e

-- the address of its word in the table, which begins the filled data, G
abbrev pub got_address : List Object → Bases → Option NumberedSymbol → ℕ
got_address objects bases None = 0
got_address objects bases (Some e) = bases.filled + 8 * got_number objects e

-- the sum of an address and an addend, S + A, in 64 bits
abbrev pub plus : ℕ → ℤ → ℕ
plus at addend = wrapping_add 64 at (cast_unsigned w64 addend)
