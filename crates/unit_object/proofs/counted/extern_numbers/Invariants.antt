use Rattle.std.proofs.Common.{◌≡◌, ◌++◌, drop}
use Rattle.unit_object.specs.Counted as spec
use Rattle.unit_object.proofs.counted.extern_numbers.Given as goal

-- the numbers of those that are left follow
abbrev pub invariant-loop-info : goal.invariant-loop-info
invariant-loop-info l =
    l.made.items ++ spec.extern_numbers l.from l.names (drop l.info-index l.externs) ≡ spec.extern_numbers l.from l.names l.externs
