use Rattle.std.proofs.Common.{◌-◌, length}
use Rattle.c_lex.specs.Laws.TextLaws.{IsReadTo}
use Rattle.c_lex.proofs.quoted.read_text.Given as goal

abbrev pub invariant-loop-value : goal.invariant-loop-value
invariant-loop-value l = IsReadTo l.text l.values.items l.place

abbrev pub decreases-loop-value : goal.decreases-loop-value
decreases-loop-value l = length l.text - l.place
