-- What is filled.
use Rattle.std.proofs.Common.{◌≡◌, take, map}
use Rattle.block_meaning.specs.declared.cell.Cell.TheVariants.{Byte}
use Rattle.mean_memory.proofs.storing.fill_bytes.Given as goal

abbrev pub invariant-loop-i : goal.invariant-loop-i
invariant-loop-i l = take l.i l.cells ≡ map Byte (take l.i l.bytes)
