use Rattle.std.proofs.Common.{◌≡◌, List, find, drop}
use Rattle.linker.specs.Names.{NumberedSymbol}
use Rattle.linker.specs.Known.{Knows, is_known}
use Rattle.linker.proofs.names.first_known.Given as goal

abbrev pub invariant-loop-symbol : goal.invariant-loop-symbol
invariant-loop-symbol l = (seen : List NumberedSymbol) → Knows l.names seen
    → find (is_known seen) (drop l.symbol-index l.symbols) ≡ find (is_known seen) l.symbols
