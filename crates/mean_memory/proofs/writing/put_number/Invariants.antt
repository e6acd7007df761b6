-- What is filled, and the cells of what is left of the number.
use Rattle.std.proofs.Common.{◌≡◌, ◌++◌, ◌-◌, length, take}
use Rattle.block_meaning.specs.Values.{number_cells}
use Rattle.mean_memory.proofs.writing.put_number.Given as goal

abbrev pub invariant-loop-i : goal.invariant-loop-i
invariant-loop-i l = take l.i l.cells ++ number_cells (length l.cells - l.i) l.rest ≡ number_cells (length l.cells) l.n
