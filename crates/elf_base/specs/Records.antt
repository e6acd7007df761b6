-- The fields of each record, with their widths and in their order in the file (ELF64).
use Rattle.std.specs.Prelude.{ℕ, List, [], ◌∷◌}
use Rattle.elf_base.specs.declared.header.Ehdr.{Ehdr}
use Rattle.elf_base.specs.declared.segment.Phdr.{Phdr}
use Rattle.elf_base.specs.declared.dynamic.Dyn.{Dyn}
use Rattle.elf_base.specs.declared.section.Shdr.{Shdr}
use Rattle.elf_base.specs.declared.symbol.Sym.{Sym}
use Rattle.elf_base.specs.declared.relocation.Rela.{Rela}
use Rattle.elf_base.specs.Field.{Field, number, signed, raw}

-- the identification that begins a file: its name, 64 bits, little-endian, version 1
abbrev pub identification : List ℕ
identification = 0x7f ∷ 0x45 ∷ 0x4c ∷ 0x46 ∷ 2 ∷ 1 ∷ 1 ∷ 0 ∷ 0 ∷ 0 ∷ 0 ∷ 0 ∷ 0 ∷ 0 ∷ 0 ∷ 0 ∷ []

-- the header of a file, `Elf64_Ehdr`
abbrev pub ehdr_fields : Ehdr → List Field
ehdr_fields h =
    raw 16 h.ident ∷ number 2 h.kind ∷ number 2 h.machine ∷ number 4 h.version ∷ number 8 h.entry
    ∷ number 8 h.phoff ∷ number 8 h.shoff ∷ number 4 h.flags ∷ number 2 h.ehsize ∷ number 2 h.phentsize
    ∷ number 2 h.phnum ∷ number 2 h.shentsize ∷ number 2 h.shnum ∷ number 2 h.shstrndx ∷ []

-- a program header, `Elf64_Phdr`
abbrev pub phdr_fields : Phdr → List Field
phdr_fields p =
    number 4 p.kind ∷ number 4 p.flags ∷ number 8 p.offset ∷ number 8 p.vaddr ∷ number 8 p.paddr
    ∷ number 8 p.filesz ∷ number 8 p.memsz ∷ number 8 p.align ∷ []

-- a dynamic entry, `Elf64_Dyn`
abbrev pub dyn_fields : Dyn → List Field
dyn_fields d = signed d.tag ∷ number 8 d.value ∷ []

-- a section header, `Elf64_Shdr`
abbrev pub shdr_fields : Shdr → List Field
shdr_fields s =
    number 4 s.name ∷ number 4 s.kind ∷ number 8 s.flags ∷ number 8 s.addr ∷ number 8 s.offset ∷ number 8 s.size ∷ number 4 s.link
    ∷ number 4 s.info ∷ number 8 s.addralign ∷ number 8 s.entsize ∷ []

-- a symbol, `Elf64_Sym`
abbrev pub sym_fields : Sym → List Field
sym_fields s =
    number 4 s.name ∷ number 1 s.info ∷ number 1 s.other ∷ number 2 s.shndx ∷ number 8 s.value ∷ number 8 s.size ∷ []

-- a relocation, `Elf64_Rela`
abbrev pub rela_fields : Rela → List Field
rela_fields r =
    number 8 r.offset ∷ number 8 r.info ∷ signed r.addend ∷ []
