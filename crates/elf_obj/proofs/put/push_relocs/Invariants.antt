use Rattle.std.proofs.Common.{◌≡◌, ◌++◌, take}
use Rattle.std.specs.List.{flat_map}
use Rattle.elf_obj.specs.Records.{reloc_bytes}
use Rattle.elf_obj.proofs.put.push_relocs.Given as goal

abbrev pub invariant-loop-reloc : goal.invariant-loop-reloc
invariant-loop-reloc l = l.out.items ≡ l.initial.out.items ++ flat_map reloc_bytes (take l.reloc-index l.relocs)
