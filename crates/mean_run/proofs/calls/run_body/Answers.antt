use Rattle.std.proofs.Common.{refl}
use Rattle.mean_run.specs.declared.process.Process.{Process}
use Rattle.mean_run.specs.Laws.Calls.{call-waits}
use Rattle.mean_run.specs.Laws.Moving.{moves-here}
use Rattle.mean_expressions.specs.Stacked.{World}
use Rattle.mean_run.proofs.CallTurns.{pushed_there, not_pushed}
use Rattle.mean_run.proofs.calls.run_body.Goals as goal

pub returns-in-Ok : goal.returns-in-Ok
returns-in-Ok c = λ q before k s at stacked.
    let p = c.args.p.now in
    let w : World = record { code = c.args.e.here; locals = p.locals.items } in
    let after : Process = record { now = p.now; locals = p.locals; stack = c.sequence.new.stack; here = c.args.e.here } in
    moves-here {p = after} s.at (c.sequence.ensures p.now w s.inner _ s.after
    (call-waits p.stack.items k s _ refl (pushed_there _ _ _ c.in-Ok.is c.push.ensures) at stacked) s.shown)

pub returns-in-Err : goal.returns-in-Err
returns-in-Err c = λ q before k s at stacked. not_pushed _ _ _ c.in-Err.is c.push.ensures
