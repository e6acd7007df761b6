use Rattle.std.proofs.Common.{◌≡◌}
use Rattle.elf_image.proofs.Walks.{IsLater}
use Rattle.elf_image.proofs.memtag.first_entry.Given as goal

abbrev pub invariant-loop-index : goal.invariant-loop-index
invariant-loop-index l = IsLater l.fn.tag l.bytes l.segment l.index
