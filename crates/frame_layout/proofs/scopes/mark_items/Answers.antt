use Rattle.std.proofs.Common.{arith, true, flat_map}
use Rattle.slot_safety.specs.Kinds.{put}
use Rattle.frame_layout.specs.Scopes.{declared}
use Rattle.frame_layout.proofs.ScopeTurns.{item_turn}
use Rattle.frame_layout.proofs.scopes.mark_items.Goals as goal

pub loop-item-preserved : goal.loop-item-preserved
loop-item-preserved c =
    item_turn declared c.args.items.now c.loop-item.item-index c.item-item.result c.loop-item.outer c.mark_item.new.outer
    (put true c.args.outer.now (flat_map declared c.args.items.now))
    (omega arith) c.item-item.is c.loop-item.invariant c.mark_item.ensures
