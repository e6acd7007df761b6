use Rattle.std.proofs.Common.{refl}
use Rattle.mean_machine.specs.Evaluation.{call}
use Rattle.mean_machine.specs.Execution.{enter}
use Rattle.mean_expressions.specs.Laws.Standing.{stands-at, stands-spent, stands-unspent}
use Rattle.mean_expressions.proofs.operands.call_next.Goals as goal

pub returns-in-Ok : goal.returns-in-Ok
returns-in-Ok c = λ w here k frames now stacked of_now.
    let a = c.args.calling in
    stands-spent (call enter here k a.span a.callee a.done.items) c.in-Ok.is (c.spend.ensures now of_now) (λ after shown.
    stands-at k refl stacked shown)

pub returns-in-Err : goal.returns-in-Err
returns-in-Err c = λ w here k frames now stacked of_now.
    let a = c.args.calling in
    stands-unspent (call enter here k a.span a.callee a.done.items) c.in-Err.is (c.spend.ensures now of_now)
