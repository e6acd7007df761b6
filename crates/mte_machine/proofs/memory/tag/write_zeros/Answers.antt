use Rattle.mt_base.specs.Memory.{bytes_of}
use Rattle.mte_machine.proofs.memory.tag.write_zeros.Goals as goal

pub returns-then-two-clause-done : goal.returns-then-two-clause-done
unfolding bytes_of
returns-then-two-clause-done g c did = rw c.if-two.true (c.write.ensures.done did)

pub returns-else-two-clause-done : goal.returns-else-two-clause-done
unfolding bytes_of
returns-else-two-clause-done g c did = rw c.if-two.false (c.write-else-two.ensures.done did)
