use Rattle.std.proofs.Common.{◌≡◌, ◌+◌, ◌*◌, ◌^◌, ◌≤◌, ◌<◌, ◌++◌, drop}
use Rattle.std.specs.List.{All}
use Rattle.linker.specs.Sections.{starts}
use Rattle.linker.proofs.lengths.starts_of.Given as goal

abbrev pub invariant-loop-length : goal.invariant-loop-length
invariant-loop-length l = record {
  rest : l.starts.items ++ starts l.unit l.end (drop l.length-index l.lengths) ≡ starts l.unit l.at l.lengths;
  low : All (λ n. n < 2 ^ 80) l.starts.items;
  small : l.end ≤ (l.length-index + 9) * 2 ^ 65;
}
