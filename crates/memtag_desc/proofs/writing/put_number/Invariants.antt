use Rattle.memtag_desc.proofs.Spelling.{Puts}
use Rattle.memtag_desc.proofs.writing.put_number.Given as goal

abbrev pub invariant-loop-rest : goal.invariant-loop-rest
invariant-loop-rest l = Puts l.fn.value l.rest l.fn.out.items l.out.items

abbrev pub decreases-loop-rest : goal.decreases-loop-rest
decreases-loop-rest l = l.rest
