use Rattle.std.proofs.Common.{arith}
use Rattle.slot_safety.specs.Statements.{init_harms}
use Rattle.slot_safety.specs.Laws.MarkedLaws.{marked_turn}
use Rattle.slot_safety.proofs.statement.+init.Goals as goal

pub spread_inits-loop-init-preserved : goal.spread_inits-loop-init-preserved
spread_inits-loop-init-preserved t c =
    marked_turn (λ ks. ks) (init_harms c.args.structs.now) c.args.inits.now c.loop-init.init-index c.init-item.result
    c.args.kinds.now c.loop-init.kinds c.spread_init.new.kinds
    (omega arith) c.init-item.is c.loop-init.invariant c.spread_init.ensures
