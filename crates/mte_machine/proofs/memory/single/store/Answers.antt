use Rattle.std.proofs.Common.{◌∙◌, sym, ap, take}
use Rattle.mt_base.specs.Pointers.{address_of}
use Rattle.tag_mem.specs.Laws.Bytes.{bytes_of_8}
use Rattle.mte_machine.specs.Accesses.{with_memory}
use Rattle.mte_machine.proofs.NumberLaws.{stored, take-bytes_of}
use Rattle.mte_machine.proofs.memory.single.store.Goals as goal

pub returns : goal.returns
returns g c s =
    stored (with_memory g.M.TagMemory c.args.memory.now s)
    (with_memory g.M.TagMemory c.write.new.memory s) c.args.pointer c.args.bytes c.args.bytes
    (address_of c.args.pointer) c.args.value c.args.checked
    (take c.args.bytes c.to_le_bytes-number.result) c.write.result
    (ap (take c.args.bytes) (c.to_le_bytes-number.ensures ∙ sym (bytes_of_8 c.args.value))
    ∙ take-bytes_of c.args.bytes 8 c.args.value c.requires.few)
    (c.write.ensures s)
