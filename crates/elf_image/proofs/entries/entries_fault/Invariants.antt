use Rattle.std.proofs.Common.{◌≡◌, ◌+◌, drop}
use Rattle.elf_base.specs.Conditions.{first_fault}
use Rattle.elf_image.specs.Faults.{asks}
use Rattle.elf_image.proofs.entries.entries_fault.Given as goal

abbrev pub invariant-loop-entry : goal.invariant-loop-entry
invariant-loop-entry l = (l.i ≡ l.first + l.entry-index)
    × (first_fault (asks l.bytes l.heads l.first l.wanted) ≡ first_fault (asks l.bytes l.heads l.i (drop l.entry-index l.wanted)))
