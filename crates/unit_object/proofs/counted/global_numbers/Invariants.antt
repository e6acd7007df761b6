use Rattle.std.proofs.Common.{◌≡◌, ◌++◌, drop}
use Rattle.unit_object.specs.Counted as spec
use Rattle.unit_object.proofs.counted.global_numbers.Given as goal

-- the numbers of those that are left follow
abbrev pub invariant-loop-global : goal.invariant-loop-global
invariant-loop-global l =
    l.made.items ++ spec.global_numbers l.from l.names (drop l.global-index l.globals) ≡ spec.global_numbers l.from l.names l.globals
