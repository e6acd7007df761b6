use Rattle.std.proofs.Common.{◌≡◌, drop}
use Rattle.elf_obj.specs.Sections.{names_end}
use Rattle.elf_obj.proofs.sizes.names_end.Given as goal

abbrev pub invariant-loop-symbol : goal.invariant-loop-symbol
invariant-loop-symbol l = names_end l.place (drop l.symbol-index l.symbols) ≡ names_end 1 l.symbols
