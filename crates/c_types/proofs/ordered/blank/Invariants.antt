use Rattle.std.proofs.Common.{◌≡◌, replicate, None}
use Rattle.c_types.proofs.ordered.blank.Given as goal

-- as many as passed
abbrev pub invariant-loop : goal.invariant-loop
invariant-loop g l = l.made.items ≡ replicate l.counter None
