-- The record that stands at a place of a file, by the places and widths of its fields (ELF64).
use Rattle.std.specs.Prelude.{ℕ, zero, suc, ◌+◌, List, [], ◌∷◌, take, drop}
use Rattle.std.specs.Int.{w64, cast_signed}
use Rattle.elf_base.specs.declared.header.Ehdr.{Ehdr}
use Rattle.elf_base.specs.declared.segment.Phdr.{Phdr}
use Rattle.elf_base.specs.declared.dynamic.Dyn.{Dyn}
use Rattle.elf_base.specs.Place.{number_at}

abbrev pub ehdr_at : ℕ → List ℕ → Ehdr
ehdr_at at file = record {
  ident = take 16 (drop at file);
  kind = number_at 2 (at + 16) file;
  machine = number_at 2 (at + 18) file;
  version = number_at 4 (at + 20) file;
  entry = number_at 8 (at + 24) file;
  phoff = number_at 8 (at + 32) file;
  shoff = number_at 8 (at + 40) file;
  flags = number_at 4 (at + 48) file;
  ehsize = number_at 2 (at + 52) file;
  phentsize = number_at 2 (at + 54) file;
  phnum = number_at 2 (at + 56) file;
  shentsize = number_at 2 (at + 58) file;
  shnum = number_at 2 (at + 60) file;
  shstrndx = number_at 2 (at + 62) file;
}

abbrev pub phdr_at : ℕ → List ℕ → Phdr
phdr_at at file = record {
  kind = number_at 4 at file;
  flags = number_at 4 (at + 4) file;
  offset = number_at 8 (at + 8) file;
  vaddr = number_at 8 (at + 16) file;
  paddr = number_at 8 (at + 24) file;
  filesz = number_at 8 (at + 32) file;
  memsz = number_at 8 (at + 40) file;
  align = number_at 8 (at + 48) file;
}

abbrev pub dyn_at : ℕ → List ℕ → Dyn
dyn_at at file = record { tag = cast_signed w64 (number_at 8 at file); value = number_at 8 (at + 8) file }

-- so many program headers from a place on, and so many dynamic entries
abbrev pub phdrs_at : ℕ → ℕ → List ℕ → List Phdr
phdrs_at zero at file = []
phdrs_at (suc count) at file = phdr_at at file ∷ phdrs_at count (at + 56) file

abbrev pub dyns_at : ℕ → ℕ → List ℕ → List Dyn
dyns_at zero at file = []
dyns_at (suc count) at file = dyn_at at file ∷ dyns_at count (at + 16) file
