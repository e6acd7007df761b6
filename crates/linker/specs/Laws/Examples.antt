-- Two objects that are linked by hand: `main`, which calls `twice` and uses `shared` through the table, and `twice` beside `shared`, a
-- pointer to the end of `shared`, and a local symbol.
use Rattle.std.proofs.Common.{◌≡◌, ℕ, pos, true, false, Some, None, List, [], ◌∷◌, refl}
use Rattle.std.specs.Prelude.{codes, replicate}
use Rattle.elf_obj.specs.declared.parts.Symbol.{Symbol}
use Rattle.elf_obj.specs.declared.parts.Reloc.{Reloc}
use Rattle.elf_obj.specs.declared.parts.Home.TheVariants.{Undef, Text, Init, Zero}
use Rattle.elf_obj.specs.Object.{Object}
use Rattle.elf_base.specs.Layout.{piece}
use Rattle.elf_image.specs.Places as places
use Rattle.linker.specs.declared.bases.Bases.{Bases}
use Rattle.linker.specs.Names.{numbered, definition, main_name}
use Rattle.linker.specs.Sections.{starts, word_counts}
use Rattle.linker.specs.Got.{got}
use Rattle.linker.specs.Addresses.{bases_of}
use Rattle.linker.specs.Fields.{with_page, with_low_of_8, with_distance}
use Rattle.linker.specs.Code.{code_pieces, code_words}
use Rattle.linker.specs.Data.{filled_pieces, filled_size, zero_size}
use Rattle.linker.specs.Relocations.{relocations, relative}
use Rattle.linker.specs.Tagged.{tagged_from, sized}
use Rattle.linker.specs.LinkFault.{first_repeated, has_main, first_missing}

abbrev main_symbol : Symbol
main_symbol = record { name = codes "main"; home = Text; value = 0; size = 12; local = false; function = true }

abbrev twice_symbol : Symbol
twice_symbol = record { name = codes "twice"; home = Text; value = 4; size = 4; local = false; function = true }

abbrev undefined : List ℕ → Symbol
undefined name = record { name = name; home = Undef; value = 0; size = 0; local = false; function = false }

abbrev shared_symbol : Symbol
shared_symbol = record { name = codes "shared"; home = Init; value = 0; size = 16; local = false; function = false }

-- a local object of the zero bytes, with the name of a function of the other object
abbrev own_symbol : Symbol
own_symbol = record { name = codes "main"; home = Zero; value = 16; size = 32; local = true; function = false }

abbrev reloc : ℕ → ℕ → ℕ → Reloc
reloc offset kind symbol = record { offset = offset; kind = kind; symbol = symbol; addend = pos 0 }

abbrev first : Object
first = record {
  words = 0x94000000 ∷ 0x90000001 ∷ 0xf9400021 ∷ [];
  rodata = 7 ∷ [];
  init_bytes = [];
  zero_bytes = 16;
  symbols = main_symbol ∷ undefined (codes "shared") ∷ undefined (codes "twice") ∷ [];
  text_relocs = reloc 0 283 2 ∷ reloc 4 311 1 ∷ reloc 8 312 1 ∷ [];
  init_relocs = [];
  tagged = [];
}

abbrev second : Object
second = record {
  words = 0xd65f03c0 ∷ 0xd65f03c0 ∷ [];
  rodata = [];
  init_bytes = replicate 32 5;
  zero_bytes = 48;
  symbols = own_symbol ∷ twice_symbol ∷ shared_symbol ∷ [];
  text_relocs = [];
  init_relocs =
      record { offset = 8; kind = 257; symbol = 2; addend = pos 16 }
      ∷ record { offset = 24; kind = 257; symbol = 0; addend = pos 8 }
      ∷ [];
  tagged = 0 ∷ 2 ∷ [];
}

abbrev both : List Object
both = first ∷ second ∷ []

-- ---- names

the_main : definition both main_name ≡ Some (numbered 0 0 main_symbol)
the_main = refl

the_shared : definition both (codes "shared") ≡ Some (numbered 1 2 shared_symbol)
the_shared = refl

none_repeated : first_repeated both ≡ None
none_repeated = refl

main_there : has_main both ≡ true
main_there = refl

all_there : first_missing both ≡ None
all_there = refl

-- of two such objects the second defines the names again, and alone it has no `main`, since its own is local
again : first_repeated (first ∷ second ∷ second ∷ []) ≡ Some (numbered 2 1 twice_symbol)
again = refl

no_main : has_main (second ∷ []) ≡ false
no_main = refl

missing : first_missing (first ∷ []) ≡ Some (numbered 0 1 (undefined (codes "shared")))
missing = refl

-- ---- places

-- the table has one word, for `shared`
the_table : got both ≡ numbered 1 2 shared_symbol ∷ []
unfolding got
the_table = refl

-- in words: the first object from 4 on, the second from 8 on
text_starts : starts 4 2 (word_counts both) ≡ 4 ∷ 8 ∷ []
text_starts = refl

ten_words : code_words both ≡ 10
ten_words = refl

filled_bytes : filled_size both ≡ 48
unfolding got
filled_bytes = refl

zero_bytes : zero_size both ≡ 64
zero_bytes = refl

-- where the parts begin
abbrev at : Bases
at = record { rodata = 0x190; code = 0x1000; filled = 0x20d0; zeros = 0x2100 }

-- bl main; svc #3; then the first object from 0x1010 on and the second from 0x1020 on, where `twice` is at 0x1024
the_code : code_pieces both at
    ≡ piece 0 (0x94000004 ∷ 0xd4000061 ∷ [])
    ∷ piece 4 (0x94000005 ∷ 0xb0000001 ∷ 0xf9406821 ∷ [])
    ∷ piece 8 (0xd65f03c0 ∷ 0xd65f03c0 ∷ [])
    ∷ []
unfolding got with_page with_low_of_8 with_distance
the_code = refl

-- the pointer to the end of `shared` holds -16, and the one into the local object 0
the_filled : filled_pieces both
    ≡ piece 16 [] ∷ piece 16 (5 ∷ 5 ∷ 5 ∷ 5 ∷ 5 ∷ 5 ∷ 5 ∷ 5 ∷ 0xf0 ∷ 0xff ∷ 0xff ∷ 0xff ∷ 0xff ∷ 0xff ∷ 0xff ∷ 0xff
    ∷ 5 ∷ 5 ∷ 5 ∷ 5 ∷ 5 ∷ 5 ∷ 5 ∷ 5 ∷ 0 ∷ 0 ∷ 0 ∷ 0 ∷ 0 ∷ 0 ∷ 0 ∷ 0 ∷ []) ∷ []
unfolding got
the_filled = refl

the_relocations : relocations both at ≡ relative 0x20d0 0x20e0 ∷ relative 0x20e8 0x20f0 ∷ relative 0x20f8 0x2128 ∷ []
unfolding got
the_relocations = refl

-- ---- descriptors

-- in the order of the symbols, before they are sorted
the_tagged : tagged_from both at 0 both ≡ record { start = 0x2120; bytes = 32 } ∷ record { start = 0x20e0; bytes = 16 } ∷ []
unfolding got
the_tagged = refl

-- an image of these sizes, with three bytes of descriptors, has these places
the_places : bases_of (sized both 3) ≡ at
unfolding sized got places.rodata_place places.code_place places.filled_place places.file_end places.descriptors_place
    places.rodata_end places.dynamic_end
    places.dynamic_place places.code_end
the_places = refl
