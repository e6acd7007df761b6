use Rattle.mean_link.specs.Names.{function_name}
use Rattle.mean_link.proofs.Tables.{adds_turn, adds_none}
use Rattle.mean_link.proofs.names.add_functions.Goals as goal

pub loop-function-init : goal.loop-function-init
loop-function-init c = adds_none c.args.known.now

pub loop-function-preserved : goal.loop-function-preserved
loop-function-preserved c =
    adds_turn function_name c.args.functions.now c.loop-function.function-index c.function-item.result c.args.known.now
    c.loop-function.known c.add_where.new.known c.loop-function-test.true c.function-item.is c.loop-function.invariant
    c.in_ok-add_where.ensures
