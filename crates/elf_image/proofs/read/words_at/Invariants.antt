use Rattle.std.proofs.Common.{◌≡◌}
use Rattle.elf_image.specs.Laws.Items.{words_at}
use Rattle.elf_image.proofs.read.words_at.Given as goal

abbrev pub invariant-loop-i : goal.invariant-loop-i
invariant-loop-i l = l.words.items ≡ words_at l.i l.at l.bytes
