-- Some blocks of the call have ended.
use Rattle.std.proofs.Common.{List, length}
use Rattle.block_meaning.specs.Blocks.{Block}
use Rattle.mean_memory.specs.Standing.{IsMemory, IsEnding}
use Rattle.mean_memory.proofs.memory.Memory.end_call.Given as goal

abbrev pub invariant-loop : goal.invariant-loop
invariant-loop l = (blocks : List Block) → IsMemory l.fn.self blocks → IsEnding l.self l.call blocks

abbrev pub decreases-loop : goal.decreases-loop
decreases-loop l = length l.self.slots.items
