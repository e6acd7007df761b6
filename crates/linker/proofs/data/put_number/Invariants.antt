use Rattle.std.proofs.Common.{◌≡◌, length}
use Rattle.linker.specs.Sections.{each_from}
use Rattle.linker.specs.Ready.{with_bytes}
use Rattle.linker.proofs.data.put_number.Given as goal

abbrev pub invariant-loop-index : goal.invariant-loop-index
invariant-loop-index l = record {
  bytes : l.out ≡ each_from 0 (with_bytes l.place l.value l.index) l.fn.out;
  len : length l.out ≡ length l.fn.out;
}
