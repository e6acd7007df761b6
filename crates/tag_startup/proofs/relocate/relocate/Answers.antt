use Rattle.std.proofs.Common.{ap, subst, ◌∙◌}
use Rattle.tag_startup.specs.Laws.PlaceLaws.{pointers_stored}
use Rattle.tag_startup.specs.Memory.{IsStored, before, stored}
use Rattle.tag_startup.proofs.relocate.relocate.Goals as goal

pub returns : goal.returns
returns g c =
    subst (IsStored g.M.TagMemory c.args.memory.now c.put_pointers.new.memory)
    (ap (stored (g.M.TagMemory.byte c.args.memory.now) c.args.relocs.now) (c.deref.ensures.value ∙ c.in_ok-pointers.ensures)
    ∙ pointers_stored (before g.M.TagMemory c.args.memory.now) c.args.relocs.now) c.put_pointers.ensures
