use Rattle.std.proofs.Common.{refl}
use Rattle.mean_effects.specs.declared.now.Now.{Now}
use Rattle.mean_run.specs.declared.process.Process.{Process}
use Rattle.mean_run.specs.Laws.Calls.{moves-returned}
use Rattle.mean_run.proofs.calls.leave_call.Goals as goal

pub returns-then-end_call : goal.returns-then-end_call
returns-then-end_call c = λ here call b inside.
    let p = c.args.p.now in
    let n : Now = record { memory = c.end_call.new.self; work = p.now.work; calls = p.now.calls } in
    let after : Process = record { now = n; locals = c.truncate.new.self; stack = p.stack; here = c.args.outer } in
    moves-returned {p = after} {middle = p} b c.args.ty.now c.args.flow inside c.result_of.ensures refl c.truncate.ensures.items refl
    (c.end_call.ensures c.if-end_call.true) refl refl
