use Rattle.std.proofs.Common.{◌≡◌, ◌++◌, drop}
use Rattle.linker.specs.Relocations.{relocations, data_relocs_from}
use Rattle.linker.specs.Known.{objects_of}
use Rattle.linker.proofs.relocate.Link.relocations.Given as goal

abbrev pub invariant-loop-object : goal.invariant-loop-object
invariant-loop-object l =
    let os = objects_of l.self.objects.now in
    l.out.items ++ data_relocs_from os l.self.layout.bases l.object (drop l.object os) ≡ relocations os l.self.layout.bases
