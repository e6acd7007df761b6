use Rattle.std.proofs.Common.{◌≡◌, map, take}
use Rattle.slot_safety.specs.Kinds.{marked}
use Rattle.slot_safety.specs.Statements.{joined, init_harms}
use Rattle.slot_safety.proofs.statement.+init.Given as goal

-- the initialisers passed are seen
abbrev pub invariant-spread_inits-loop-init : goal.invariant-spread_inits-loop-init
invariant-spread_inits-loop-init l =
    l.kinds ≡ marked l.initial.kinds (joined (map (init_harms l.structs) (take l.init-index l.inits)))
