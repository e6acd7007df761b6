use Rattle.std.proofs.Common.{◌≡◌, [], drop, length}
use Rattle.elf_base.specs.Laying.{put_all}
use Rattle.linker.specs.Sections.{laid, each_from}
use Rattle.linker.specs.Code.{object_words, code_pieces}
use Rattle.linker.specs.Known.{objects_of}
use Rattle.linker.proofs.relocate.Link.code.Given as goal

abbrev pub invariant-loop-object : goal.invariant-loop-object
invariant-loop-object l =
    let os = objects_of l.self.objects.now in
    put_all (laid 4 (length l.out.items) (each_from l.object (object_words os l.self.layout.bases) (drop l.object os))) l.out.items
    ≡ put_all (code_pieces os l.self.layout.bases) []
