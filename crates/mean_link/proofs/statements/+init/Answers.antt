use Rattle.std.proofs.Common.{arith}
use Rattle.mean_link.specs.Uses.{init_uses}
use Rattle.mean_link.specs.Laws.UseLaws.{put_turn}
use Rattle.mean_link.proofs.statements.+init.Goals as goal

pub use_inits-loop-init-preserved : goal.use_inits-loop-init-preserved
use_inits-loop-init-preserved t c =
    put_turn init_uses c.args.inits.now c.loop-init.init-index c.init-item.result
    c.args.used.now c.loop-init.used c.use_init.new.used
    (omega arith) c.init-item.is c.loop-init.invariant c.use_init.ensures
