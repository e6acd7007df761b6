use Rattle.std.proofs.Common.{◌≡◌, ◌++◌, map, drop}
use Rattle.unit_object.specs.Symbols.{name_of}
use Rattle.unit_object.proofs.symbols.symbol_names.Given as goal

-- the names of those that are left follow
abbrev pub invariant-loop-symbol : goal.invariant-loop-symbol
invariant-loop-symbol l = l.names ++ map name_of (drop l.symbol-index l.symbols) ≡ map name_of l.symbols
