use Rattle.std.proofs.Common.{◌≡◌, ◌+◌, ◌-◌, ◌*◌, ◌++◌}
use Rattle.elf_obj.specs.Claimed.{tags_at}
use Rattle.elf_obj.proofs.claim.tags_at.Given as goal

abbrev pub invariant-loop-index : goal.invariant-loop-index
invariant-loop-index l = tags_at l.count l.at l.file ≡ l.tags.items ++ tags_at (l.count - l.index) (l.at + 24 * l.index) l.file
