use Rattle.std.proofs.Common.{sym, subst, ap, Err}
use Rattle.block_meaning.specs.Linkage.{function_of}
use Rattle.mean_machine.specs.Evaluation as evaluation
use Rattle.mean_machine.specs.Execution.{enter}
use Rattle.mean_run.specs.Calling.{function_answer}
use Rattle.mean_run.specs.Laws.Moving.{moves-then, moves-stop}
use Rattle.mean_run.specs.Processes.{Moves}
use Rattle.mean_run.proofs.calls.enter_callee.Goals as goal

pub returns-in-Function : goal.returns-in-Function
returns-in-Function c = λ here k now process.
    subst (λ x. Moves c.enter.new.p now c.enter.result (evaluation.call enter here k c.args.span x c.args.values.now now))
    (sym c.in-Function.is)
    (subst (λ u. Moves c.enter.new.p now c.enter.result (enter here k (function_of u c.in-Function.number) c.args.values.now now))
    process.at.code.unit (c.enter.ensures here k now process))

pub returns-in-Ok : goal.returns-in-Ok
returns-in-Ok c = λ here k now process.
    subst (λ x. Moves c.enter-in-Ok.new.p now c.enter-in-Ok.result (evaluation.call enter here k c.args.span x c.args.values.now now))
    (sym c.in-Extern.is)
    (moves-then (evaluation.function_called here c.args.span c.in-Extern.number now) (λ g. enter here k g c.args.values.now)
    (ap function_answer c.in-Ok.is) (c.function_called.ensures here c.args.p.now.now now process.at.code process.shown) (λ after shown.
    c.enter-in-Ok.ensures here k after (record { at = process.at; stack = process.stack; shown = shown })))

pub returns-in-Err : goal.returns-in-Err
returns-in-Err c = λ here k now process.
    subst (λ x. Moves c.args.p.now now (Err c.in-Err.e) (evaluation.call enter here k c.args.span x c.args.values.now now))
    (sym c.in-Extern.is)
    (moves-stop (evaluation.function_called here c.args.span c.in-Extern.number now) (λ g. enter here k g c.args.values.now)
    (ap function_answer c.in-Err.is) (c.function_called.ensures here c.args.p.now.now now process.at.code process.shown))
