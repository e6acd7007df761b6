use Rattle.std.proofs.Common.{map, take}
use Rattle.c_type_stmt.specs.Initials.{initialiser, loose_all}
use Rattle.c_type_stmt.specs.Slots.{Passes}
use Rattle.c_type_stmt.proofs.initial.+loose.Given as goal

-- the walk has passed the initialisers so far
abbrev pub invariant-loose_all-loop-init : goal.invariant-loose_all-loop-init
invariant-loose_all-loop-init l = Passes (loose_all (map initialiser (take l.init-index l.inits))) l.initial.walk l.walk l.known
