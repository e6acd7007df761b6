-- An object by its parts.
use Rattle.std.proofs.Common.{◌≡◌, ℕ, List}
use Rattle.elf_obj.specs.Object.{Object}
use Rattle.elf_obj.specs.declared.parts.Reloc.{Reloc}
use Rattle.elf_obj.specs.declared.parts.Symbol.{Symbol}

pub same_object : {words rodata init_bytes rodata' init_bytes' tagged tagged' : List ℕ} {zero_bytes zero_bytes' : ℕ}
    {symbols symbols' : List Symbol} {text_relocs text_relocs' init_relocs init_relocs' : List Reloc} →
    rodata ≡ rodata' → init_bytes ≡ init_bytes' → zero_bytes ≡ zero_bytes' → symbols ≡ symbols' → text_relocs ≡ text_relocs' →
    init_relocs ≡ init_relocs' → tagged ≡ tagged' →
    ◌≡◌ {A = Object} (record {
      words = words;
      rodata = rodata;
      init_bytes = init_bytes;
      zero_bytes = zero_bytes;
      symbols = symbols;
      text_relocs = text_relocs;
      init_relocs = init_relocs;
      tagged = tagged;
    }) (record {
      words = words;
      rodata = rodata';
      init_bytes = init_bytes';
      zero_bytes = zero_bytes';
      symbols = symbols';
      text_relocs = text_relocs';
      init_relocs = init_relocs';
      tagged = tagged';
    })
same_object {words = words} a b c d e f g = λ i. record {
  words = words;
  rodata = a i;
  init_bytes = b i;
  zero_bytes = c i;
  symbols = d i;
  text_relocs = e i;
  init_relocs = f i;
  tagged = g i;
}
