use Rattle.std.proofs.Common.{◌≡◌, [], drop}
use Rattle.elf_base.specs.Laying.{put_all}
use Rattle.linker.specs.Sections.{laid, each_from}
use Rattle.linker.specs.Data.{object_bytes, filled_pieces}
use Rattle.linker.specs.Known.{objects_of}
use Rattle.linker.specs.Laws.FilledLaws.{filled_so_far}
use Rattle.linker.proofs.relocate.Link.filled.Given as goal

abbrev pub invariant-loop-object : goal.invariant-loop-object
invariant-loop-object l =
    let os = objects_of l.self.objects.now in
    put_all (laid 16 (filled_so_far os l.object) (each_from l.object (object_bytes os) (drop l.object os))) l.out.items
    ≡ put_all (filled_pieces os) []
