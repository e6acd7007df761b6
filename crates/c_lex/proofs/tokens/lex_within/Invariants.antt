use Rattle.std.proofs.Common.{length, ◌-◌, ◌≤◌}
use Rattle.c_ast.specs.Seen.{all_seen}
use Rattle.c_lex.proofs.LoopLaws.{Arrives}
use Rattle.c_lex.proofs.tokens.lex_within.Given as goal

-- the text before the place is gaps and the tokens so far, and `line` is what stands on the place's line
abbrev pub invariant-loop-place : goal.invariant-loop-place
invariant-loop-place l = record {
  reached : Arrives l.text l.place l.line (all_seen l.tokens.items);
  within : l.place ≤ length l.text;
}

abbrev pub decreases-loop-place : goal.decreases-loop-place
decreases-loop-place l = length l.text - l.place
