use Rattle.std.proofs.Common.{◌≡◌, ◌++◌, Some, map, drop, slice_get}
use Rattle.elf_obj.specs.Object.{Object}
use Rattle.linker.specs.Relocations.{data_reloc}
use Rattle.linker.specs.Known.{objects_of}
use Rattle.linker.proofs.relocate.Link.push_places.Given as goal

abbrev pub invariant-loop-reloc : goal.invariant-loop-reloc
invariant-loop-reloc l =
    (o : Object) → slice_get (objects_of l.self.objects.now) l.object ≡ Some o
    → l.out.items ++ map (data_reloc (objects_of l.self.objects.now) l.self.layout.bases l.object o) (drop l.reloc-index l.relocs)
    ≡ l.fn.out.items ++ map (data_reloc (objects_of l.self.objects.now) l.self.layout.bases l.object o) l.relocs
