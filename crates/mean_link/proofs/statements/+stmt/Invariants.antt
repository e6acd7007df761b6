use Rattle.std.proofs.Common.{◌≡◌, map, take, true}
use Rattle.slot_safety.specs.Kinds.{put}
use Rattle.mean_link.specs.Uses.{joined, item_uses}
use Rattle.mean_link.proofs.statements.+stmt.Given as goal

-- those passed are marked
abbrev pub invariant-use_items-loop-item : goal.invariant-use_items-loop-item
invariant-use_items-loop-item l =
    l.used ≡ put true l.initial.used (joined (map item_uses (take l.item-index l.items)))
