use Rattle.std.proofs.Common.{drop}
use Rattle.tag_startup.proofs.Storing.{StillStores}
use Rattle.tag_startup.proofs.relocate.put_pointers.Given as goal

abbrev pub invariant-loop-i : goal.invariant-loop-i
invariant-loop-i g l =
    StillStores g.M.TagMemory l.initial.memory l.memory l.relocs (drop l.i l.relocs) l.pointers (drop l.i l.pointers)
