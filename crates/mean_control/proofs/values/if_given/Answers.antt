use Rattle.std.proofs.Common.{Bool, option_copied}
use Rattle.block_meaning.specs.Operators.{is_true}
use Rattle.mean_machine.specs.Execution.{else_part}
use Rattle.mean_machine.specs.Frames.{Execute, Runs}
use Rattle.mean_machine.specs.Going.{Stand, either}
use Rattle.mean_expressions.specs.Laws.Standing.{stands-then, stands-stop, stands-at}
use Rattle.mean_control.proofs.values.if_given.Goals as goal

pub returns-in-Ok : goal.returns-in-Ok
returns-in-Ok c = λ w here k frames now of_here stacked of_now.
    let b = c.args.b in
    let next : Bool → Stand = λ holds. either holds (Runs (Execute b.then.now) here k) (else_part here k (option_copied b.other)) in
    stands-then (is_true here b.condition.now.span c.args.v now) next c.in-Ok.is (c.is_true.ensures here now of_here of_now)
    (λ after shown. stands-at k (c.branch-b.ensures here k after) stacked shown)

pub returns-in-Err : goal.returns-in-Err
returns-in-Err c = λ w here k frames now of_here stacked of_now.
    let b = c.args.b in
    let next : Bool → Stand = λ holds. either holds (Runs (Execute b.then.now) here k) (else_part here k (option_copied b.other)) in
    stands-stop (is_true here b.condition.now.span c.args.v now) next c.in-Err.is (c.is_true.ensures here now of_here of_now)
