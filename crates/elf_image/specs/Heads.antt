-- What the headers of a file say, whatever that is (ELF64).
use Rattle.std.specs.Prelude.{ℕ, zero, suc, ◌+◌, ◌*◌, ◌==◌, if◌then◌else◌, List, [], ◌∷◌}
use Rattle.elf_base.specs.declared.header.Ehdr.{Ehdr}
use Rattle.elf_base.specs.declared.dynamic.Dyn.{Dyn}
use Rattle.elf_base.specs.Standing.{ehdr_at, phdr_at, dyn_at}
use Rattle.elf_image.specs.declared.heads.Heads.{Heads}

-- the file's header, and the four program headers from the place on that it names
abbrev pub heads_of : Ehdr → List ℕ → Heads
heads_of header file = record {
  header = header;
  read_only = phdr_at header.phoff file;
  code = phdr_at (header.phoff + 56) file;
  writable = phdr_at (header.phoff + 112) file;
  dynamic = phdr_at (header.phoff + 168) file;
}

abbrev pub heads_at : List ℕ → Heads
heads_at file = heads_of (ehdr_at 0 file) file

-- the dynamic entry of a number, in the dynamic segment
abbrev pub entry_at : List ℕ → Heads → ℕ → Dyn
entry_at file heads i = dyn_at (heads.dynamic.offset + 16 * i) file

-- how many bytes the relocations have, by the entry RELASZ
abbrev pub reloc_bytes_at : List ℕ → Heads → ℕ
reloc_bytes_at file heads = (entry_at file heads 5).value

-- how many bytes the descriptors have, by the entry MEMTAG_GLOBALSSZ, which is there in 13 entries and not in 11
abbrev pub descriptor_bytes_at : List ℕ → Heads → ℕ
descriptor_bytes_at file heads = if heads.dynamic.filesz == 208 then (entry_at file heads 11).value else 0
