use Rattle.c_type_stmt.proofs.InitialLaws.{loose_next}
use Rattle.c_type_stmt.proofs.initial.+loose.Goals as goal

pub loose_all-loop-init-preserved : goal.loose_all-loop-init-preserved
loose_all-loop-init-preserved t c =
    rw c.both-known.ensures
    (loose_next c.args.inits.now c.loop-init.init-index c.init-item.result _ _ _ _ _ c.loop-init-test.true c.loop-init.invariant
    (rw (← c.init-item.is) c.in_ok-this.ensures))
