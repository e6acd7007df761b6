use Rattle.std.proofs.Common.{◌≡◌, length}
use Rattle.c_lex.specs.ConstantTypes.{first_type}
use Rattle.c_lex.proofs.numeral.first_type.Given as goal

abbrev pub invariant-loop-types : goal.invariant-loop-types
invariant-loop-types l = first_type l.value l.types ≡ first_type l.value l.initial.types

abbrev pub decreases-loop-types : goal.decreases-loop-types
decreases-loop-types l = length l.types
