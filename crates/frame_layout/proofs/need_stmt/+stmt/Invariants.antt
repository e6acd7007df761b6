use Rattle.std.proofs.Common.{◌≡◌, max, map, drop}
use Rattle.frame_layout.specs.StatementNeeds.{most, item_need}
use Rattle.frame_layout.proofs.need_stmt.+stmt.Given as goal

-- with what is left it is the most of all
abbrev pub invariant-need_items-loop-item : goal.invariant-need_items-loop-item
invariant-need_items-loop-item l =
    max l.most (most (map item_need (drop l.item-index l.items))) ≡ most (map item_need l.items)
