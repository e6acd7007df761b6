use Rattle.std.proofs.Common.{◌≡◌, drop}
use Rattle.std.specs.List.{list_any}
use Rattle.linker.specs.Known.{is_main}
use Rattle.linker.proofs.names.has_main.Given as goal

abbrev pub invariant-loop-symbol : goal.invariant-loop-symbol
invariant-loop-symbol l = list_any is_main (drop l.symbol-index l.symbols) ≡ list_any is_main l.symbols
