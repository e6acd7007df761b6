-- The blocks that a memory holds.
use Rattle.std.specs.Prelude.{◌≡◌, ℕ, List, Option}
use Rattle.block_meaning.specs.declared.access.Access.{Access}
use Rattle.block_meaning.specs.declared.cell.Cell.{Cell}
use Rattle.block_meaning.specs.declared.reason.Reason.{Reason}
use Rattle.block_meaning.specs.Access.{reason_against}
use Rattle.block_meaning.specs.Blocks.{Block}
use Rattle.block_meaning.specs.Meaning.{end_call}
use Rattle.mean_memory.specs.declared.memory.Memory.{Memory}
use Rattle.mean_memory.specs.Shown.{Holds, written_or_kept}

abbrev pub IsMemory : Memory → List Block → Type 0
IsMemory m blocks = Holds m.slots.items m.next blocks

-- what a write to a block leaves and answers
pub record IsWritten (m : Memory) (a : Access) (cells : List Cell) (b : Block) (blocks : List Block) (answer : Option Reason) : Type 0 where
  pub is : answer ≡ reason_against b a
  pub leaves : IsMemory m (written_or_kept a cells blocks answer)

-- some blocks of a call ended, and what its end leaves is the same
pub record IsEnding (m : Memory) (call : ℕ) (blocks : List Block) : Type 0 where
  pub now : List Block
  pub holds : IsMemory m now
  pub same : end_call call now ≡ end_call call blocks
