use Rattle.std.proofs.Common.{◌≡◌, ◌+◌, ◌-◌, ◌*◌, ◌++◌}
use Rattle.elf_obj.specs.Claimed.{words_at}
use Rattle.elf_obj.proofs.claim.words_at.Given as goal

abbrev pub invariant-loop-index : goal.invariant-loop-index
invariant-loop-index l = words_at l.count l.at l.file ≡ l.words.items ++ words_at (l.count - l.index) (l.at + 4 * l.index) l.file
