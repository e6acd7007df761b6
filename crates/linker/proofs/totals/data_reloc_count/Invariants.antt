use Rattle.std.proofs.Common.{◌≡◌, ◌+◌, ◌*◌, ◌^◌, ◌≤◌, drop}
use Rattle.linker.specs.Relocations.{data_reloc_count}
use Rattle.linker.specs.Known.{objects_of}
use Rattle.linker.proofs.totals.data_reloc_count.Given as goal

abbrev pub invariant-loop-parts : goal.invariant-loop-parts
invariant-loop-parts l = record {
  rest : l.count + data_reloc_count (drop l.parts-index (objects_of l.objects)) ≡ data_reloc_count (objects_of l.objects);
  small : l.count ≤ l.parts-index * 2 ^ 64;
}
