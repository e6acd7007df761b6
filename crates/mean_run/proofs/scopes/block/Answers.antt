use Rattle.block_meaning.specs.Running.{Context}
use Rattle.std.proofs.Common.{List}
use Rattle.mean_machine.specs.Execution.{sequence}
use Rattle.mean_machine.specs.Frames.{Frame}
use Rattle.mean_machine.specs.Going.{Stand}
use Rattle.mean_run.specs.Laws.Scopes.{moves-entered, moves-not-entered}
use Rattle.mean_run.specs.Laws.Moving.{moves-here}
use Rattle.mean_run.specs.Processes.{world_of}
use Rattle.mean_run.proofs.scopes.block.Goals as goal

pub returns-in-Ok : goal.returns-in-Ok
returns-in-Ok c = λ here k now process.
    let p = c.enter_scope.new.p in
    let inside : Context → List Frame → Stand = λ inner frames. sequence inner frames c.args.items.now in
    moves-entered inside c.in-Ok.is (c.enter_scope.ensures inside here k now process) (λ inner frames after there.
    moves-here there.at (c.sequence.ensures p.now (world_of p) inner frames after there.stack there.shown))

pub returns-in-Err : goal.returns-in-Err
returns-in-Err c = λ here k now process.
    let inside : Context → List Frame → Stand = λ inner frames. sequence inner frames c.args.items.now in
    moves-not-entered inside c.in-Err.is (c.enter_scope.ensures inside here k now process)
