use Rattle.std.proofs.Common.{◌≡◌, ◌+◌, ◌-◌, ◌*◌}
use Rattle.elf_image.specs.Faults.{are_relative}
use Rattle.elf_image.proofs.entries.are_relative.Given as goal

abbrev pub invariant-loop-i : goal.invariant-loop-i
invariant-loop-i l = are_relative l.count 0x140 l.bytes ≡ are_relative (l.count - l.i) (0x140 + 24 * l.i) l.bytes
