use Rattle.std.proofs.Common.{◌≡◌, ◌++◌, drop}
use Rattle.elf_obj.specs.Records.{symbols_bytes}
use Rattle.elf_obj.specs.ObjectFile.{NamesFit}
use Rattle.elf_obj.proofs.put.put_symbols.Given as goal

abbrev pub invariant-loop-symbol : goal.invariant-loop-symbol
invariant-loop-symbol l = record {
  fit : NamesFit l.place (drop l.symbol-index l.symbols);
  rest : l.initial.out.items ++ symbols_bytes 1 l.symbols ≡ l.out.items ++ symbols_bytes l.place (drop l.symbol-index l.symbols);
}
