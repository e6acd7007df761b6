use Rattle.std.proofs.Common.{◌≡◌, ◌++◌, drop}
use Rattle.unit_object.specs.Counted as spec
use Rattle.unit_object.proofs.counted.function_numbers.Given as goal

-- the numbers of those that are left follow
abbrev pub invariant-loop-function : goal.invariant-loop-function
invariant-loop-function l =
    l.made.items ++ spec.function_numbers l.from l.names (drop l.function-index l.functions) ≡ spec.function_numbers l.from l.names
    l.functions
