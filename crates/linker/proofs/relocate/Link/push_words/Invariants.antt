use Rattle.std.proofs.Common.{◌≡◌, ◌++◌, drop}
use Rattle.linker.specs.Sections.{each_from}
use Rattle.linker.specs.Got.{got}
use Rattle.linker.specs.Relocations.{got_reloc}
use Rattle.linker.specs.Known.{objects_of}
use Rattle.linker.proofs.relocate.Link.push_words.Given as goal

abbrev pub invariant-loop-index : goal.invariant-loop-index
invariant-loop-index l =
    let os = objects_of l.self.objects.now in
    l.out.items ++ each_from l.index (got_reloc os l.self.layout.bases) (drop l.index (got os))
    ≡ l.fn.out.items ++ each_from 0 (got_reloc os l.self.layout.bases) (got os)
