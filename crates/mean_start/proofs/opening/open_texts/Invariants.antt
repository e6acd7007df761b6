-- The texts passed have their blocks.
use Rattle.std.proofs.Common.{List, ◌++◌, take}
use Rattle.block_meaning.specs.Blocks.{Block}
use Rattle.block_meaning.specs.Opening.{texts_from}
use Rattle.mean_memory.specs.Standing.{IsMemory}
use Rattle.mean_start.proofs.opening.open_texts.Given as goal

abbrev pub invariant-loop-number : goal.invariant-loop-number
invariant-loop-number l =
    (blocks : List Block) → IsMemory l.fn.memory blocks → IsMemory l.memory (blocks ++ texts_from l.unit 0 (take l.number l.texts))
