-- The parts of an object, without where they lie in memory.
use Rattle.std.specs.Prelude.{ℕ, List}
use Rattle.elf_obj.specs.declared.parts.ObjectParts.{ObjectParts}
use Rattle.elf_obj.specs.declared.parts.Symbol.{Symbol}
use Rattle.elf_obj.specs.declared.parts.Reloc.{Reloc}

-- what an object holds (ELF for the Arm 64-bit architecture, Memtag ABI)
pub record Object : Type 0 where
  pub words : List ℕ
  pub rodata : List ℕ
  pub init_bytes : List ℕ
  pub zero_bytes : ℕ
  pub symbols : List Symbol
  pub text_relocs : List Reloc
  pub init_relocs : List Reloc
  pub tagged : List ℕ

-- the object that the parts make
abbrev pub object_of : ObjectParts → Object
object_of p = record {
  words = p.words.items;
  rodata = p.rodata;
  init_bytes = p.init_bytes;
  zero_bytes = p.zero_bytes;
  symbols = p.symbols.items;
  text_relocs = p.text_relocs.items;
  init_relocs = p.init_relocs.items;
  tagged = p.tagged.items;
}
