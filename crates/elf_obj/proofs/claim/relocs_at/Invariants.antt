use Rattle.std.proofs.Common.{◌≡◌, ◌+◌, ◌-◌, ◌*◌, ◌++◌}
use Rattle.elf_obj.specs.Claimed.{relocs_at}
use Rattle.elf_obj.proofs.claim.relocs_at.Given as goal

abbrev pub invariant-loop-index : goal.invariant-loop-index
invariant-loop-index l = relocs_at l.count l.at l.file ≡ l.relocs.items ++ relocs_at (l.count - l.index) (l.at + 24 * l.index) l.file
