use Rattle.std.proofs.Common.{◌≡◌, ◌≤◌, Some, drop, length, slice_get}
use Rattle.elf_obj.specs.Object.{Object}
use Rattle.linker.specs.Sections.{each_from}
use Rattle.linker.specs.Known.{objects_of}
use Rattle.linker.proofs.Placed.{byte_by}
use Rattle.linker.proofs.relocate.Link.fill_places.Given as goal

abbrev pub invariant-loop-left : goal.invariant-loop-left
invariant-loop-left l = record {
  within : l.left ≤ length l.relocs;
  done : (o : Object) → slice_get (objects_of l.self.objects.now) l.object ≡ Some o
      → l.out ≡ each_from 0 (byte_by (objects_of l.self.objects.now) l.object o (drop l.left l.relocs)) l.fn.out;
}

abbrev pub decreases-loop-left : goal.decreases-loop-left
decreases-loop-left l = l.left
