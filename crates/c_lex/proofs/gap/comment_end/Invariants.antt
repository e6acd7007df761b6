use Rattle.std.proofs.Common.{◌≡◌, ◌+◌, length}
use Rattle.std.specs.Option.{option_map}
use Rattle.c_lex.specs.Gap.{comment_end}
use Rattle.c_lex.proofs.gap.comment_end.Given as goal

abbrev pub invariant-loop-text : goal.invariant-loop-text
invariant-loop-text l =
    (option_map (λ n. l.bytes + n) (comment_end l.text) ≡ comment_end l.initial.text) × (l.bytes + length l.text ≡ length l.initial.text)

abbrev pub decreases-loop-text : goal.decreases-loop-text
decreases-loop-text l = length l.text
