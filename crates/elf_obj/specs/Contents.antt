-- An object file as a list of places and the bytes that stand there.
use Rattle.std.specs.Prelude.{ℕ, ◌+◌, List, [], ◌∷◌, ◌++◌, replicate, codes}
use Rattle.std.specs.List.{flat_map}
use Rattle.mt_base.specs.Granules.{round16}
use Rattle.elf_base.specs.declared.section.Shdr.{Shdr}
use Rattle.elf_base.specs.Field.{bytes_of}
use Rattle.elf_base.specs.Layout.{Piece, piece, word_bytes}
use Rattle.elf_base.specs.Records.{ehdr_fields, shdr_fields}
use Rattle.elf_obj.specs.declared.section.Section.{Section}
use Rattle.elf_obj.specs.Object.{Object}
use Rattle.elf_obj.specs.Sections.{sections, sizes_of, headers_place, headers_of}
use Rattle.elf_obj.specs.Records.{header, symbols_bytes, reloc_bytes, tag_bytes, name_bytes}

-- the names of the sections, .shstrtab
abbrev pub section_names : List ℕ
section_names =
    0 ∷ codes ".text" ++ 0 ∷ codes ".rodata" ++ 0 ∷ codes ".data" ++ 0 ∷ codes ".bss" ++ 0 ∷ codes ".symtab" ++ 0 ∷ codes ".strtab"
    ++ 0 ∷ codes ".shstrtab" ++ 0 ∷ codes ".rela.text" ++ 0 ∷ codes ".rela.data" ++ 0 ∷ codes ".memtag.globals.static"
    ++ 0 ∷ codes ".rela.memtag.globals.static" ++ 0 ∷ []

-- what the sections 1 to 11 hold in the file
abbrev pub contents : Object → List (List ℕ)
contents p =
    flat_map word_bytes p.words
    ∷ p.rodata
    ∷ p.init_bytes
    ∷ []
    ∷ (replicate 24 0 ++ symbols_bytes 1 p.symbols)
    ∷ (0 ∷ flat_map name_bytes p.symbols)
    ∷ section_names
    ∷ flat_map reloc_bytes p.text_relocs
    ∷ flat_map reloc_bytes p.init_relocs
    ∷ []
    ∷ flat_map tag_bytes p.tagged
    ∷ []

-- each content stands at the next multiple of 16
abbrev pub content_pieces : ℕ → List Section → List (List ℕ) → List Piece
content_pieces at [] cs = []
content_pieces at (s ∷ ss) [] = []
content_pieces at (s ∷ ss) (c ∷ cs) = piece (round16 at) c ∷ content_pieces (round16 at + s.bytes) ss cs

abbrev pub header_bytes : Shdr → List ℕ
header_bytes h = bytes_of (shdr_fields h)

-- the header of the file, the contents, and the section headers, of which the first is empty
abbrev pub pieces : Object → List Piece
pieces p =
    piece 0 (bytes_of (ehdr_fields (header (headers_place (sizes_of p)))))
    ∷ content_pieces 64 (sections (sizes_of p)) (contents p)
    ++ piece (headers_place (sizes_of p)) (replicate 64 0 ++ flat_map header_bytes (headers_of 64 (sections (sizes_of p)))) ∷ []
