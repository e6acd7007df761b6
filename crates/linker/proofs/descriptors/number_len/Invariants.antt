use Rattle.std.proofs.Common.{ℕ, ◌+◌, ◌-◌, ◌≤◌, ◌<◌}
use Rattle.memtag_desc.specs.Numbers.{IsShortest}
use Rattle.linker.specs.Spans.{HasLength}
use Rattle.linker.specs.Laws.Spelled.{digits_hold}
use Rattle.linker.proofs.descriptors.number_len.Given as goal

abbrev pub invariant-loop-rest : goal.invariant-loop-rest
invariant-loop-rest l = record {
  rest : (m : ℕ) → HasLength (IsShortest l.rest) (1 + m) → HasLength (IsShortest l.n) (l.len + m);
  some : 1 ≤ l.len;
  few : l.len ≤ 20;
  low : l.rest < digits_hold (20 - l.len);
}

abbrev pub decreases-loop-rest : goal.decreases-loop-rest
decreases-loop-rest l = l.rest
