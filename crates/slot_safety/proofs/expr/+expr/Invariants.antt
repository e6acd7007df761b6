use Rattle.std.proofs.Common.{◌≡◌, map, take}
use Rattle.std.specs.Prelude.{flat_map}
use Rattle.slot_safety.specs.Kinds.{marked}
use Rattle.slot_safety.specs.Occurrences.{uses, all}
use Rattle.slot_safety.proofs.expr.+expr.Given as goal

-- the arguments passed are seen
abbrev pub invariant-spread_all-loop-argument : goal.invariant-spread_all-loop-argument
invariant-spread_all-loop-argument l =
    l.kinds ≡ marked l.initial.kinds (flat_map all (map (uses l.structs) (take l.argument-index l.arguments)))
