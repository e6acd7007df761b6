use Rattle.std.proofs.Common.{sym, subst, [], Err}
use Rattle.block_meaning.specs.Meaning.{outside_of_calls}
use Rattle.block_meaning.specs.Running.{gives, with_some}
use Rattle.mean_machine.specs.Execution.{enter}
use Rattle.mean_machine.specs.Going.{go_by}
use Rattle.mean_machine.specs.Steps.{begin_with}
use Rattle.mean_run.specs.declared.process.Process.{Process}
use Rattle.mean_run.specs.Calling.{function_by}
use Rattle.mean_run.specs.Laws.Moving.{moves-spent, moves-unspent}
use Rattle.mean_run.specs.Processes.{Moves}
use Rattle.mean_run.proofs.beginning.begin.Goals as goal

pub returns-in-Ok : goal.returns-in-Ok
returns-in-Ok c = λ program now process is.
    subst (λ d. Moves c.enter.new.p now c.enter.result (go_by (with_some d gives now) (begin_with program))) (sym is)
    (moves-spent (enter (outside_of_calls program) [] (function_by c.args.main) []) c.in-Ok.is (c.spend.ensures now process.shown)
    (λ after shown. c.enter.ensures (outside_of_calls program) [] after
    (record { at = process.at; stack = process.stack; shown = shown })))

pub returns-in-Err : goal.returns-in-Err
returns-in-Err c = λ program now process is.
    let p = c.args.p.now in
    let after : Process = record { now = c.spend.new.n; locals = p.locals; stack = p.stack; here = p.here } in
    subst (λ d. Moves after now (Err c.in-Err.e) (go_by (with_some d gives now) (begin_with program))) (sym is)
    (moves-unspent (enter (outside_of_calls program) [] (function_by c.args.main) []) c.in-Err.is (c.spend.ensures now process.shown))
