use Rattle.std.proofs.Common.{◌≡◌, ◌++◌, drop}
use Rattle.unit_object.specs.Symbols as spec
use Rattle.unit_object.proofs.symbols.tagged.Given as goal

-- the numbers of those that are left follow
abbrev pub invariant-loop-symbol : goal.invariant-loop-symbol
invariant-loop-symbol l =
    l.made.items ++ spec.objects_from l.number (drop l.symbol-index l.symbols) ≡ spec.objects_from 0 l.symbols
