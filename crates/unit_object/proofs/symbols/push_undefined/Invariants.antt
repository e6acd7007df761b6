use Rattle.std.proofs.Common.{◌≡◌, ◌++◌, map, drop}
use Rattle.unit_object.specs.Symbols as spec
use Rattle.unit_object.proofs.symbols.push_undefined.Given as goal

-- the symbols of those that are left follow
abbrev pub invariant-loop-name : goal.invariant-loop-name
invariant-loop-name l =
    l.made.items ++ map spec.undefined_symbol (drop l.name-index l.names)
    ≡ l.initial.made.items ++ map spec.undefined_symbol l.names
