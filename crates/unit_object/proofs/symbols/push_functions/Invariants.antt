use Rattle.std.proofs.Common.{◌≡◌, ◌++◌, map, drop}
use Rattle.unit_object.specs.Symbols as spec
use Rattle.unit_object.proofs.symbols.push_functions.Given as goal

-- the symbols of those that are left follow
abbrev pub invariant-loop-place : goal.invariant-loop-place
invariant-loop-place l =
    l.made.items ++ map spec.function_symbol (drop l.place-index l.functions)
    ≡ l.initial.made.items ++ map spec.function_symbol l.functions
