use Rattle.std.proofs.Common.{arith}
use Rattle.mean_link.specs.Uses.{object_uses}
use Rattle.mean_link.specs.Laws.UseLaws.{put_turn}
use Rattle.mean_link.proofs.statements.use_objects.Goals as goal

pub loop-global-preserved : goal.loop-global-preserved
loop-global-preserved c =
    put_turn object_uses c.args.globals.now c.loop-global.global-index c.global-item.result
    c.args.used.now c.loop-global.used c.use_pieces.new.used
    (omega arith) c.global-item.is c.loop-global.invariant (rw c.as_slice.ensures at c.use_pieces.ensures)
