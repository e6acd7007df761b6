use Rattle.std.proofs.Common.{subst}
use Rattle.mean_machine.specs.Evaluation as evaluation
use Rattle.mean_machine.specs.Execution.{enter}
use Rattle.mean_run.specs.Processes.{Moves}
use Rattle.mean_run.proofs.calls.call.Goals as goal

pub returns : goal.returns
returns c = λ here k now process.
    subst (λ vs. Moves c.enter_callee.new.p now c.enter_callee.result (evaluation.call enter here k c.args.span c.args.callee vs now))
    c.deref.ensures.value (c.enter_callee.ensures here k now process)
