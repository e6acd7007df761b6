use Rattle.mean_link.specs.Names.{object_name}
use Rattle.mean_link.proofs.Tables.{adds_turn, adds_none}
use Rattle.mean_link.proofs.names.add_objects.Goals as goal

pub loop-global-init : goal.loop-global-init
loop-global-init c = adds_none c.args.known.now

pub loop-global-preserved : goal.loop-global-preserved
loop-global-preserved c =
    adds_turn object_name c.args.globals.now c.loop-global.global-index c.global-item.result c.args.known.now c.loop-global.known
    c.add_where.new.known c.loop-global-test.true c.global-item.is c.loop-global.invariant c.in_ok-add_where.ensures
