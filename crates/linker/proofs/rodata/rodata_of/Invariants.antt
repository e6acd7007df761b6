use Rattle.std.proofs.Common.{◌≡◌, [], map, drop, length}
use Rattle.elf_base.specs.Laying.{put_all}
use Rattle.linker.specs.Sections.{laid}
use Rattle.linker.specs.Data.{rodata_pieces}
use Rattle.linker.specs.Known.{objects_of}
use Rattle.linker.proofs.rodata.rodata_of.Given as goal

abbrev pub invariant-loop-parts : goal.invariant-loop-parts
invariant-loop-parts l =
    put_all (laid 16 (length l.out.items) (map (λ o. o.rodata) (drop l.parts-index (objects_of l.objects)))) l.out.items
    ≡ put_all (rodata_pieces (objects_of l.objects)) []
