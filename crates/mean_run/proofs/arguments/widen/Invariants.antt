-- So many were added.
use Rattle.std.proofs.Common.{◌≡◌, ◌++◌, replicate, None}
use Rattle.mean_run.proofs.arguments.widen.Given as goal

abbrev pub invariant-loop : goal.invariant-loop
invariant-loop l = l.locals.items ≡ l.initial.locals.items ++ replicate l.counter None
