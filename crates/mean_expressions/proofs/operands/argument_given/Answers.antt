use Rattle.std.proofs.Common.{ap}
use Rattle.mean_machine.specs.Evaluation.{arguments}
use Rattle.mean_machine.specs.Execution.{enter}
use Rattle.mean_expressions.proofs.Alike.{machine-is}
use Rattle.mean_expressions.proofs.operands.argument_given.Goals as goal

pub returns-in-Ok : goal.returns-in-Ok
returns-in-Ok c = λ w here k now stacked of_now.
    let a = c.args.calling in
    machine-is (ap (λ vs. arguments enter here k a.span a.callee vs c.args.left.now now) c.in-Ok.ensures.items)
    (c.arguments.ensures w here k now stacked of_now)
