use Rattle.std.proofs.Common.{List, ◌++◌, take}
use Rattle.linker.specs.Names.{NumberedSymbol, numbered_from}
use Rattle.linker.specs.Known.{Knows}
use Rattle.linker.proofs.names.add_names.Given as goal

abbrev pub invariant-loop-number : goal.invariant-loop-number
invariant-loop-number l = (seen : List NumberedSymbol) → Knows l.fn.names seen
    → Knows l.names (seen ++ numbered_from l.object 0 (take l.number l.symbols))
