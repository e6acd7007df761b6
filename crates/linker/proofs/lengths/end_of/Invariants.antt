use Rattle.std.proofs.Common.{◌≡◌, ◌+◌, ◌*◌, ◌^◌, ◌≤◌, drop}
use Rattle.linker.specs.Sections.{ends}
use Rattle.linker.proofs.lengths.end_of.Given as goal

abbrev pub invariant-loop-length : goal.invariant-loop-length
invariant-loop-length l = record {
  rest : ends l.unit l.end (drop l.length-index l.lengths) ≡ ends l.unit l.at l.lengths;
  small : l.end ≤ (l.length-index + 9) * 2 ^ 65;
}
