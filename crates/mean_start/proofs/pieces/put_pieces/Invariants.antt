-- What is left is written over what is written.
use Rattle.std.proofs.Common.{◌≡◌, ℕ, drop}
use Rattle.block_meaning.specs.Opening.{with_pieces}
use Rattle.block_meaning.specs.Running.{Program}
use Rattle.mean_start.specs.Files.{IsFile}
use Rattle.mean_start.proofs.pieces.put_pieces.Given as goal

abbrev pub invariant-loop-p : goal.invariant-loop-p
invariant-loop-p l = (program : Program) (unit : ℕ) → IsFile l.file program unit →
    with_pieces program.units unit (drop l.p-index l.pieces) l.cells.items ≡ with_pieces program.units unit l.pieces l.fn.cells.items
