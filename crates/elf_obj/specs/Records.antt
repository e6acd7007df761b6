-- The records of an object file (ELF64; ELF for the Arm 64-bit architecture).
use Rattle.std.specs.Prelude.{ℕ, pos, ◌+◌, ◌*◌, Bool, true, false, List, [], ◌∷◌, ◌++◌, length}
use Rattle.elf_base.specs.declared.header.Ehdr.{Ehdr}
use Rattle.elf_base.specs.declared.symbol.Sym.{Sym}
use Rattle.elf_base.specs.declared.relocation.Rela.{Rela}
use Rattle.elf_base.specs.Field.{bytes_of}
use Rattle.elf_base.specs.Records.{sym_fields, rela_fields, identification}
use Rattle.elf_obj.specs.declared.parts.Symbol.{Symbol}
use Rattle.elf_obj.specs.declared.parts.Reloc.{Reloc}
use Rattle.elf_obj.specs.declared.parts.Home.{Home}
use Rattle.elf_obj.specs.declared.parts.Home.TheVariants.{Undef, Text, Rodata, Init, Zero}

-- the file's header: ET_REL for EM_AARCH64, twelve section headers at a place, their names in section 7
abbrev pub header : ℕ → Ehdr
header place = record {
  ident = identification;
  kind = 1;
  machine = 183;
  version = 1;
  entry = 0;
  phoff = 0;
  shoff = place;
  flags = 0;
  ehsize = 64;
  phentsize = 0;
  phnum = 0;
  shentsize = 64;
  shnum = 12;
  shstrndx = 7;
}

-- the number of a section, SHN_UNDEF for none
abbrev pub home_number : Home → ℕ
home_number Undef = 0
home_number Text = 1
home_number Rodata = 2
home_number Init = 3
home_number Zero = 4

-- the binding in the high four bits: STB_LOCAL or STB_GLOBAL
abbrev pub binding_of : Bool → ℕ
binding_of true = 0
binding_of false = 16

-- STT_FUNC or STT_OBJECT
abbrev pub function_type : Bool → ℕ
function_type true = 2
function_type false = 1

-- the type in the low four bits: STT_NOTYPE where the symbol is not defined
abbrev pub type_of : Home → Bool → ℕ
type_of Undef function = 0
type_of Text function = function_type function
type_of Rodata function = function_type function
type_of Init function = function_type function
type_of Zero function = function_type function

-- a symbol whose name stands at a place of .strtab
abbrev pub symbol_record : ℕ → Symbol → Sym
symbol_record place s = record {
  name = place;
  info = binding_of s.local + type_of s.home s.function;
  other = 0;
  shndx = home_number s.home;
  value = s.value;
  size = s.size;
}

-- a relocation: its symbol's number in the file, which is one more than in the parts, stands above its kind
abbrev pub reloc_record : Reloc → Rela
reloc_record r = record { offset = r.offset; info = 4294967296 * (r.symbol + 1) + r.kind; addend = r.addend }

-- a tagged symbol, named by R_AARCH64_NONE
abbrev pub tag_record : ℕ → Rela
tag_record t = record { offset = 0; info = 4294967296 * (t + 1); addend = pos 0 }

-- the bytes of symbols whose names stand one after the other from a place on
abbrev pub symbols_bytes : ℕ → List Symbol → List ℕ
symbols_bytes place [] = []
symbols_bytes place (s ∷ ss) = bytes_of (sym_fields (symbol_record place s)) ++ symbols_bytes (place + length s.name + 1) ss

unfoldable pub reloc_bytes : Reloc → List ℕ
reloc_bytes r = bytes_of (rela_fields (reloc_record r))

unfoldable pub tag_bytes : ℕ → List ℕ
tag_bytes t = bytes_of (rela_fields (tag_record t))

-- a name with its zero byte, as it stands in .strtab
abbrev pub name_bytes : Symbol → List ℕ
name_bytes s = s.name ++ 0 ∷ []
