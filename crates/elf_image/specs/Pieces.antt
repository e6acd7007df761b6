-- An image file as a list of places and the bytes that stand there (ELF64, Memtag ABI).
use Rattle.std.specs.Prelude.{ℕ, ◌-◌, ◌*◌, List, [], ◌∷◌, ◌++◌, length, replicate}
use Rattle.std.specs.List.{flat_map}
use Rattle.elf_base.specs.declared.header.Ehdr.{Ehdr}
use Rattle.elf_base.specs.declared.segment.Phdr.{Phdr}
use Rattle.elf_base.specs.declared.dynamic.Dyn.{Dyn}
use Rattle.elf_base.specs.Field.{number, signed, bytes_of}
use Rattle.elf_base.specs.Layout.{Piece, piece, word_bytes}
use Rattle.elf_base.specs.Records.{ehdr_fields, phdr_fields, dyn_fields}
use Rattle.elf_image.specs.declared.parts.RelativeReloc.{RelativeReloc}
use Rattle.elf_image.specs.Image.{Image}
use Rattle.elf_image.specs.Places.{symbols_place, relocs_place, descriptors_place, rodata_place, rodata_end, code_place, dynamic_place}
use Rattle.elf_image.specs.Places.{dynamic_count, filled_place, file_end, memory_end}
use Rattle.elf_image.specs.Records.{header_with, read_only_with, code_with, writable_with, dynamic_at, table_entries, mode_entries}
use Rattle.elf_image.specs.Records.{described_entries, last_entries, relative}

abbrev pub header : Image → Ehdr
header p = header_with p.entry

-- the first part, up to the end of the read-only data
abbrev pub read_only_part : Image → Phdr
read_only_part p = read_only_with (rodata_end p)

abbrev pub code_part : Image → Phdr
code_part p = code_with (code_place p) (4 * length p.words)

-- the dynamic entries, the filled bytes, and in memory the zero bytes
abbrev pub writable_part : Image → Phdr
writable_part p = writable_with (dynamic_place p) (file_end p - dynamic_place p) (memory_end p - dynamic_place p)

abbrev pub dynamic_part : Image → Phdr
dynamic_part p = dynamic_at (dynamic_place p) (16 * dynamic_count p.descriptors)

-- the entries of some descriptors at a place: none where there are no descriptors
abbrev pub descriptor_entries : ℕ → List ℕ → List Dyn
descriptor_entries place [] = []
descriptor_entries place (d ∷ ds) = described_entries place (length (d ∷ ds))

abbrev pub dynamic_entries : Image → List Dyn
dynamic_entries p =
    table_entries (24 * length p.relocs) ++ mode_entries ++ descriptor_entries (descriptors_place p) p.descriptors ++ last_entries

-- the bytes of a dynamic entry, and of some
unfoldable pub dyn_bytes : Dyn → List ℕ
dyn_bytes d = bytes_of (dyn_fields d)

unfoldable pub entries_bytes : List Dyn → List ℕ
entries_bytes ds = flat_map dyn_bytes ds

-- a relocation as a Rela record: its place, its info, its addend
abbrev pub reloc_bytes : RelativeReloc → List ℕ
reloc_bytes r = bytes_of (number 8 r.place ∷ number 8 relative ∷ signed r.addend ∷ [])

-- the header and the program headers
abbrev pub header_pieces : Image → List Piece
header_pieces p =
    piece 0 (bytes_of (ehdr_fields (header p)))
    ∷ piece 64 (bytes_of (phdr_fields (read_only_part p)))
    ∷ piece 120 (bytes_of (phdr_fields (code_part p)))
    ∷ piece 176 (bytes_of (phdr_fields (writable_part p)))
    ∷ piece 232 (bytes_of (phdr_fields (dynamic_part p)))
    ∷ []

-- a symbol table of one zero symbol with a string table of one zero byte, the relocations, the descriptors, the read-only data
abbrev pub table_pieces : Image → List Piece
table_pieces p =
    piece symbols_place (replicate 25 0)
    ∷ piece relocs_place (flat_map reloc_bytes p.relocs)
    ∷ piece (descriptors_place p) p.descriptors
    ∷ piece (rodata_place p) p.rodata
    ∷ []

-- the code, the dynamic entries and the filled bytes
abbrev pub loaded_pieces : Image → List Piece
loaded_pieces p =
    piece (code_place p) (flat_map word_bytes p.words)
    ∷ piece (dynamic_place p) (entries_bytes (dynamic_entries p))
    ∷ piece (filled_place p) p.filled
    ∷ []

abbrev pub pieces : Image → List Piece
pieces p = header_pieces p ++ table_pieces p ++ loaded_pieces p
