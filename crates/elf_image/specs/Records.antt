-- The records of an image: its header, its program headers and its dynamic entries (ELF64, Memtag ABI). Each field stands here and
-- nowhere else: the bytes of a file are those of these records, and its faults are where a file's records differ from them.
use Rattle.std.specs.Prelude.{ℕ, pos, List, [], ◌∷◌, length}
use Rattle.elf_base.specs.declared.header.Ehdr.{Ehdr}
use Rattle.elf_base.specs.declared.segment.Phdr.{Phdr}
use Rattle.elf_base.specs.declared.dynamic.Dyn.{Dyn}
use Rattle.elf_base.specs.Records.{identification}
use Rattle.elf_image.specs.Places.{symbols_place, strings_place, relocs_place}

-- the file's header, with its entry: ET_DYN for EM_AARCH64, four program headers at 64, no sections
abbrev pub header_with : ℕ → Ehdr
header_with entry = record {
  ident = identification;
  kind = 3;
  machine = 183;
  version = 1;
  entry = entry;
  phoff = 64;
  shoff = 0;
  flags = 0;
  ehsize = 64;
  phentsize = 56;
  phnum = 4;
  shentsize = 0;
  shnum = 0;
  shstrndx = 0;
}

-- ---- the program headers

-- a part that is loaded, PT_LOAD, with its flags: 4 to read, 2 to write, 1 to execute
abbrev pub load : ℕ → ℕ → ℕ → ℕ → Phdr
load flags place filesz memsz = record {
  kind = 1;
  flags = flags;
  offset = place;
  vaddr = place;
  paddr = place;
  filesz = filesz;
  memsz = memsz;
  align = 4096;
}

-- the first part, which is only read, by its bytes
abbrev pub read_only_with : ℕ → Phdr
read_only_with bytes = load 4 0 bytes bytes

-- the code, by its place and its bytes
abbrev pub code_with : ℕ → ℕ → Phdr
code_with place bytes = load 5 place bytes bytes

-- the writable part, by its place, its bytes in the file and those in memory
abbrev pub writable_with : ℕ → ℕ → ℕ → Phdr
writable_with place filesz memsz = load 6 place filesz memsz

-- the dynamic entries, PT_DYNAMIC, by their place and bytes
abbrev pub dynamic_at : ℕ → ℕ → Phdr
dynamic_at place bytes = record {
  kind = 2;
  flags = 6;
  offset = place;
  vaddr = place;
  paddr = place;
  filesz = bytes;
  memsz = bytes;
  align = 8;
}

-- ---- the dynamic entries, in their order

abbrev pub entry : ℕ → ℕ → Dyn
entry tag value = record { tag = pos tag; value = value }

-- STRTAB, SYMTAB, STRSZ, SYMENT, RELA and RELASZ, by how many bytes the relocations have
abbrev pub table_entries : ℕ → List Dyn
table_entries relocs =
    entry 5 strings_place ∷ entry 6 symbols_place ∷ entry 10 1 ∷ entry 11 24 ∷ entry 7 relocs_place ∷ entry 8 relocs ∷ []

-- RELAENT, then AARCH64_MEMTAG_MODE (synchronous), MEMTAG_HEAP (no) and MEMTAG_STACK (yes)
abbrev pub mode_entries : List Dyn
mode_entries = entry 9 24 ∷ entry 0x70000009 0 ∷ entry 0x7000000b 0 ∷ entry 0x7000000c 1 ∷ []

-- AARCH64_MEMTAG_GLOBALS and GLOBALSSZ: where the descriptors are and how many bytes they have
abbrev pub described_entries : ℕ → ℕ → List Dyn
described_entries place bytes = entry 0x7000000d place ∷ entry 0x7000000f bytes ∷ []

-- NULL
abbrev pub last_entries : List Dyn
last_entries = entry 0 0 ∷ []

-- ---- the relocations

-- the info of a Rela record: symbol 0 with the type R_AARCH64_RELATIVE (ELF for the Arm 64-bit Architecture)
abbrev pub relative : ℕ
relative = 1027
