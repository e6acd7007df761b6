use Rattle.std.proofs.Common.{◌≡◌, ◌++◌, replicate}
use Rattle.unit_object.proofs.texts.push_zeros.Given as goal

-- so many zeros stand at the end
abbrev pub invariant-loop : goal.invariant-loop
invariant-loop l = l.out.items ≡ l.initial.out.items ++ replicate l.counter 0
