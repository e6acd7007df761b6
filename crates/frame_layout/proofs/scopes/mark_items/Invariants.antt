use Rattle.std.proofs.Common.{◌≡◌, true, flat_map, drop}
use Rattle.slot_safety.specs.Kinds.{put}
use Rattle.frame_layout.specs.Scopes.{declared}
use Rattle.frame_layout.proofs.scopes.mark_items.Given as goal

-- with what is left all are marked
abbrev pub invariant-loop-item : goal.invariant-loop-item
invariant-loop-item l =
    put true l.outer (flat_map declared (drop l.item-index l.items)) ≡ put true l.initial.outer (flat_map declared l.items)
