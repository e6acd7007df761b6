use Rattle.std.proofs.Common.{◌≡◌, List, find, drop}
use Rattle.linker.specs.Names.{NumberedSymbol}
use Rattle.linker.specs.Known.{Knows, is_unknown}
use Rattle.linker.proofs.names.first_unknown.Given as goal

abbrev pub invariant-loop-symbol : goal.invariant-loop-symbol
invariant-loop-symbol l = (seen : List NumberedSymbol) → Knows l.names seen
    → find (is_unknown seen) (drop l.symbol-index l.symbols) ≡ find (is_unknown seen) l.symbols
