use Rattle.std.proofs.Common.{◌≡◌, drop}
use Rattle.elf_obj.specs.Sections.{sections, contents_end}
use Rattle.elf_obj.proofs.write.headers_place.Given as goal

abbrev pub invariant-loop-index : goal.invariant-loop-index
invariant-loop-index l = contents_end l.end (drop l.index (sections l.sizes)) ≡ contents_end 64 (sections l.sizes)
