use Rattle.std.proofs.Common.{◌≡◌, length}
use Rattle.c_grammar.specs.Declarators as grammar
use Rattle.c_parse_decl.proofs.declarators.lengths.arrays.Given as goal

-- the lengths that are left belong around what was made so far
abbrev pub invariant-loop-length : goal.invariant-loop-length
invariant-loop-length l = record { made : grammar.arrays l.ty l.trees ≡ grammar.arrays l.fn.element l.fn.trees }

abbrev pub decreases-loop-length : goal.decreases-loop-length
decreases-loop-length l = length l.trees
