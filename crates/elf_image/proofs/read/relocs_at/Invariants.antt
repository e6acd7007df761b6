use Rattle.std.proofs.Common.{◌≡◌}
use Rattle.elf_image.specs.Laws.Items.{relocs_at}
use Rattle.elf_image.proofs.read.relocs_at.Given as goal

abbrev pub invariant-loop-i : goal.invariant-loop-i
invariant-loop-i l = l.relocs.items ≡ relocs_at l.i 0x140 l.bytes
