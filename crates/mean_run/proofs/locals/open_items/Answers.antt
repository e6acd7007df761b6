use Rattle.std.proofs.Common.{subst, arith, ◌++◌, take}
use Rattle.block_meaning.specs.Statements.{declared}
use Rattle.mean_run.specs.Entering.{Made}
use Rattle.mean_run.proofs.ScopeTurns.{items_next}
use Rattle.mean_run.proofs.locals.open_items.Goals as goal

pub loop-item-preserved : goal.loop-item-preserved
loop-item-preserved c = λ o ks made.
    let test = c.loop-item-test.true in
    let before = ks ++ declared (take c.loop-item.item-index c.args.items.now) in
    subst (λ js. Made c.args.h o js c.open_item.new.n c.open_item.new.locals)
    (items_next ks c.args.items.now c.loop-item.item-index c.item-item.result (omega arith) c.item-item.is)
    (c.in_ok-open_item.ensures o before (c.loop-item.invariant o ks made))
