use Rattle.mean_run.specs.Entering.{for_first}
use Rattle.mean_run.specs.Laws.Scopes.{moves-entered, moves-not-entered}
use Rattle.mean_run.specs.Laws.Moving.{moves-here}
use Rattle.mean_expressions.specs.Stacked.{heading_of}
use Rattle.mean_run.specs.Processes.{world_of}
use Rattle.mean_run.proofs.scopes.for_loop.Goals as goal

pub returns-in-Ok : goal.returns-in-Ok
returns-in-Ok c = λ here k now process.
    let p = c.enter_scope.new.p in
    let inside = for_first (heading_of c.args.h) c.args.body.now in
    moves-entered inside c.in-Ok.is (c.enter_scope.ensures inside here k now process) (λ inner frames after there.
    moves-here there.at (c.declare_for.ensures p.now (world_of p) inner frames after there.stack there.shown))

pub returns-in-Err : goal.returns-in-Err
returns-in-Err c = λ here k now process.
    let inside = for_first (heading_of c.args.h) c.args.body.now in
    moves-not-entered inside c.in-Err.is (c.enter_scope.ensures inside here k now process)
