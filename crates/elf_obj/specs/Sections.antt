-- The sections of an object file, as one list, and where they stand (ELF64; Memtag ABI for the last two).
use Rattle.std.specs.Prelude.{ℕ, ◌+◌, ◌*◌, List, [], ◌∷◌, length, if◌then◌else◌}
use Rattle.mt_base.specs.Granules.{round16}
use Rattle.elf_base.specs.declared.section.Shdr.{Shdr}
use Rattle.elf_obj.specs.declared.parts.Symbol.{Symbol}
use Rattle.elf_obj.specs.declared.section.Section.{Section}
use Rattle.elf_obj.specs.declared.sizes.Sizes.{Sizes}
use Rattle.elf_obj.specs.Object.{Object}

-- a section whose bytes are in the file: where its name stands in .shstrtab, its type, its flags and its size
abbrev pub plain : ℕ → ℕ → ℕ → ℕ → Section
plain name kind flags size = record {
  name = name;
  kind = kind;
  flags = flags;
  bytes = size;
  size = size;
  link = 0;
  info = 0;
  entsize = 0;
}

-- one that has no bytes in the file
abbrev pub without_bytes : ℕ → ℕ → ℕ → ℕ → Section
without_bytes name kind flags size = record (plain name kind flags size) { bytes = 0 }

-- one of entries of 24 bytes, with its link and its info
abbrev pub table : ℕ → ℕ → ℕ → ℕ → ℕ → Section
table name kind size link info = record (plain name kind 0 size) { link = link; info = info; entsize = 24 }

-- the sections 1 to 11: .text, .rodata, .data, .bss, .symtab, .strtab, .shstrtab, .rela.text, .rela.data,
-- .memtag.globals.static and its relocations
abbrev pub sections : Sizes → List Section
sections z =
    plain 1 1 6 z.text
    ∷ plain 7 1 2 z.rodata
    ∷ plain 15 1 3 z.init
    ∷ without_bytes 21 8 3 z.zero
    ∷ table 26 2 z.symbols 6 z.first_global
    ∷ plain 34 3 0 z.strings
    ∷ plain 42 3 0 125
    ∷ table 52 4 z.text_relocs 5 1
    ∷ table 63 4 z.init_relocs 5 3
    ∷ without_bytes 74 0x70000007 0 0
    ∷ table 97 4 z.tagged 5 10
    ∷ []

-- where the names of the symbols end that begin at a place: each has a zero byte behind it
abbrev pub names_end : ℕ → List Symbol → ℕ
names_end place [] = place
names_end place (s ∷ ss) = names_end (place + length s.name + 1) ss

-- the number of the first symbol that is not local, counted from a number
abbrev pub first_global : ℕ → List Symbol → ℕ
first_global n [] = n
first_global n (s ∷ ss) = if s.local then first_global (n + 1) ss else n

-- how much each part of an object is; the symbol table begins with an empty symbol, and the names with a zero byte
abbrev pub sizes_of : Object → Sizes
sizes_of p = record {
  text = 4 * length p.words;
  rodata = length p.rodata;
  init = length p.init_bytes;
  zero = p.zero_bytes;
  symbols = 24 * (length p.symbols + 1);
  first_global = first_global 1 p.symbols;
  strings = names_end 1 p.symbols;
  text_relocs = 24 * length p.text_relocs;
  init_relocs = 24 * length p.init_relocs;
  tagged = 24 * length p.tagged;
}

-- where the contents of sections end, of which the first stands at the next multiple of 16, and so on
abbrev pub contents_end : ℕ → List Section → ℕ
contents_end at [] = at
contents_end at (s ∷ ss) = contents_end (round16 at + s.bytes) ss

-- the section headers follow the contents, which follow the header of the file
unfoldable pub headers_place : Sizes → ℕ
headers_place z = round16 (contents_end 64 (sections z))

-- the twelve headers end the file
unfoldable pub file_size : Sizes → ℕ
file_size z = headers_place z + 768

-- the header of a section that begins at a place
abbrev pub header_of : Section → ℕ → Shdr
header_of s place = record {
  name = s.name;
  kind = s.kind;
  flags = s.flags;
  addr = 0;
  offset = place;
  size = s.size;
  link = s.link;
  info = s.info;
  addralign = 16;
  entsize = s.entsize;
}

-- the headers of sections of which the first begins at the next multiple of 16
abbrev pub headers_of : ℕ → List Section → List Shdr
headers_of at [] = []
headers_of at (s ∷ ss) = header_of s (round16 at) ∷ headers_of (round16 at + s.bytes) ss
