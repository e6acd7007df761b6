use Rattle.std.proofs.Common.{◌≡◌, ◌+◌, drop}
use Rattle.elf_obj.specs.Sections.{first_global}
use Rattle.elf_obj.proofs.sizes.first_global.Given as goal

abbrev pub invariant-loop-symbol : goal.invariant-loop-symbol
invariant-loop-symbol l = record {
  counts : l.number ≡ l.symbol-index + 1;
  rest : first_global l.number (drop l.symbol-index l.symbols) ≡ first_global 1 l.symbols;
}
