use Rattle.std.proofs.Common.{length}
use Rattle.mean_memory.proofs.judge.+has_nothing.Given as goal

abbrev pub decreases-has_nothing : goal.decreases-has_nothing
decreases-has_nothing l = length l.cells.now
