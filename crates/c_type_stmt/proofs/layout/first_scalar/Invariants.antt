use Rattle.std.proofs.Common.{◌≡◌}
use Rattle.c_type_base.specs.Layout.{first_by, first_in_struct, first_scalar}
use Rattle.c_type_stmt.proofs.layout.first_scalar.Given as goal

-- the first scalar of what was reached is that of the whole
abbrev pub invariant-loop-left : goal.invariant-loop-left
invariant-loop-left l = first_by (first_in_struct l.left l.structs) l.inner ≡ first_scalar l.structs l.t

abbrev pub decreases-loop-left : goal.decreases-loop-left
decreases-loop-left l = l.left
