use Rattle.std.proofs.Common.{◌≡◌, map, take}
use Rattle.tag_startup.specs.Memory.{before}
use Rattle.tag_startup.specs.Relocated.{pointer}
use Rattle.tag_startup.proofs.relocate.pointers_of.Given as goal

abbrev pub invariant-loop-reloc : goal.invariant-loop-reloc
invariant-loop-reloc g l = l.pointers.items ≡ map (pointer (before g.M.TagMemory l.memory)) (take l.reloc-index l.relocs)
