-- It is there so many times.
use Rattle.std.proofs.Common.{◌≡◌}
use Rattle.block_meaning.specs.Opening.{repeated}
use Rattle.mean_start.proofs.zero.repeated.Given as goal

abbrev pub invariant-loop : goal.invariant-loop
invariant-loop l = l.made.items ≡ repeated l.counter l.cells
