use Rattle.std.proofs.Common.{◌≡◌, map, take}
use Rattle.slot_safety.specs.Kinds.{marked}
use Rattle.slot_safety.specs.Statements.{joined, item_harms}
use Rattle.slot_safety.proofs.statement.+stmt.Given as goal

-- the parts passed are seen
abbrev pub invariant-spread_items-loop-item : goal.invariant-spread_items-loop-item
invariant-spread_items-loop-item l =
    l.kinds ≡ marked l.initial.kinds (joined (map (item_harms l.structs) (take l.item-index l.items)))
