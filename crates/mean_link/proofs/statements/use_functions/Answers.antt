use Rattle.std.proofs.Common.{arith}
use Rattle.mean_link.specs.Uses.{function_uses}
use Rattle.mean_link.specs.Laws.UseLaws.{put_turn}
use Rattle.mean_link.proofs.statements.use_functions.Goals as goal

pub loop-function-preserved : goal.loop-function-preserved
loop-function-preserved c =
    put_turn function_uses c.args.functions.now c.loop-function.function-index c.function-item.result
    c.args.used.now c.loop-function.used c.use_stmt.new.used
    (omega arith) c.function-item.is c.loop-function.invariant c.use_stmt.ensures
