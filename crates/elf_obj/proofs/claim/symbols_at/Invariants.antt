use Rattle.std.proofs.Common.{◌≡◌, ◌+◌, ◌-◌, ◌*◌, ◌++◌}
use Rattle.elf_obj.specs.Claimed.{names_in, symbols_at}
use Rattle.elf_obj.proofs.claim.symbols_at.Given as goal

abbrev pub invariant-loop-index : goal.invariant-loop-index
invariant-loop-index l = symbols_at (names_in l.count l.strings) l.at l.file
    ≡ l.symbols.items ++ symbols_at (names_in (l.count - l.index) l.rest) (l.at + 24 * l.index) l.file
