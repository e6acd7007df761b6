use Rattle.std.proofs.Common.{length}
use Rattle.elf_image.specs.MemtagEntries.{holds}
use Rattle.elf_image.proofs.Walks.{IsBehind}
use Rattle.elf_image.proofs.memtag.first_holder.Given as goal

abbrev pub invariant-loop-k : goal.invariant-loop-k
invariant-loop-k l = IsBehind (holds (length l.bytes) l.address l.size) l.bytes l.headers.place l.headers.count l.k
