use Rattle.std.proofs.Common.{◌≡◌, ◌++◌, take, drop}
use Rattle.elf_obj.specs.Claimed.{name_first, after_name}
use Rattle.elf_obj.proofs.claim.name_end.Given as goal

abbrev pub invariant-loop-index : goal.invariant-loop-index
invariant-loop-index l = record {
  name : name_first l.bytes ≡ take l.index l.bytes ++ name_first (drop l.index l.bytes);
  after : after_name l.bytes ≡ after_name (drop l.index l.bytes);
}
