use Rattle.std.proofs.Common.{◌≡◌, flat_map}
use Rattle.c_types.specs.Ordered.{option_list}
use Rattle.c_types.proofs.ordered.all_there.Given as goal

-- those passed are there
abbrev pub invariant-loop-place : goal.invariant-loop-place
invariant-loop-place g l = l.made ≡ flat_map option_list l.yielded
