use Rattle.std.proofs.Common.{◌≡◌, ◌+◌, ◌-◌, ◌≤◌, length, drop}
use Rattle.std.specs.List.{prefix_len}
use Rattle.c_lex.proofs.bytes.run.Given as goal
use Rattle.c_lex.specs.Scan.Words.{is_of}

abbrev pub invariant-loop-end : goal.invariant-loop-end
invariant-loop-end l =
    (l.end + prefix_len (is_of l.kind) (drop l.end l.text) ≡ prefix_len (is_of l.kind) l.text) × (l.end ≤ length l.text)

abbrev pub decreases-loop-end : goal.decreases-loop-end
decreases-loop-end l = length l.text - l.end
