use Rattle.std.proofs.Common.{◌≡◌, length}
use Rattle.c_types.specs.Placed.{placed}
use Rattle.c_types.proofs.ordered.at_numbers.Given as goal

-- those that are left go to their places
abbrev pub invariant-loop-item : goal.invariant-loop-item
invariant-loop-item g l =
    placed g.T.Named.name_of l.names l.places.items l.gathered ≡ placed g.T.Named.name_of l.names l.initial.places.items l.initial.gathered

abbrev pub decreases-loop-item : goal.decreases-loop-item
decreases-loop-item g l = length l.gathered
