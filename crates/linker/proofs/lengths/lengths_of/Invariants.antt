use Rattle.std.proofs.Common.{◌≡◌, take}
use Rattle.linker.specs.Sections.{word_counts, rodata_sizes, init_sizes, zero_sizes}
use Rattle.linker.specs.Known.{objects_of}
use Rattle.linker.proofs.lengths.lengths_of.Given as goal

abbrev pub invariant-loop-parts : goal.invariant-loop-parts
invariant-loop-parts l = record {
  words : l.words.items ≡ word_counts (objects_of (take l.parts-index l.objects));
  rodata : l.rodata.items ≡ rodata_sizes (objects_of (take l.parts-index l.objects));
  init : l.init.items ≡ init_sizes (objects_of (take l.parts-index l.objects));
  zero : l.zero.items ≡ zero_sizes (objects_of (take l.parts-index l.objects));
}
