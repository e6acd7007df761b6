use Rattle.elf_image.specs.MemtagFile.{is_dynamic}
use Rattle.elf_image.proofs.Walks.{IsBehind}
use Rattle.elf_image.proofs.memtag.first_dynamic.Given as goal

abbrev pub invariant-loop-k : goal.invariant-loop-k
invariant-loop-k l = IsBehind is_dynamic l.bytes l.headers.place l.headers.count l.k
