use Rattle.mt_base.specs.Pointers.{address_of}
use Rattle.mte_machine.specs.Accesses.{with_memory}
use Rattle.mte_machine.proofs.NumberLaws.{stored_pair}
use Rattle.mte_machine.proofs.memory.pair.store_pair.Goals as goal

pub returns : goal.returns
returns g c s =
    stored_pair (with_memory g.M.TagMemory c.args.memory.now s) (with_memory g.M.TagMemory c.write.new.memory s) c.args.pointer
    (address_of c.args.pointer) c.args.first c.args.second c.args.checked
    c.bytes_of_pair-numbers.result c.write.result c.bytes_of_pair-numbers.ensures (c.write.ensures s)
