use Rattle.std.proofs.Common.{Bool}
use Rattle.block_meaning.specs.Operators.{is_true}
use Rattle.block_meaning.specs.Statements.{Next}
use Rattle.mean_machine.specs.Execution.{holding}
use Rattle.mean_machine.specs.Going.{Stand, either, flow}
use Rattle.mean_expressions.specs.Laws.Standing.{stands-then, stands-stop}
use Rattle.mean_expressions.specs.Stacked.{loop_of}
use Rattle.mean_control.proofs.values.test_given.Goals as goal

pub returns-in-Ok : goal.returns-in-Ok
returns-in-Ok c = λ w here k now of_here stacked of_now.
    let t = c.args.t in
    let next : Bool → Stand = λ holds. either holds (holding here k (loop_of t.of)) (flow here k Next) in
    stands-then (is_true here t.condition.now.span c.args.v now) next c.in-Ok.is (c.is_true.ensures here now of_here of_now)
    (λ after shown. c.after_test.ensures w here k after stacked shown)

pub returns-in-Err : goal.returns-in-Err
returns-in-Err c = λ w here k now of_here stacked of_now.
    let t = c.args.t in
    let next : Bool → Stand = λ holds. either holds (holding here k (loop_of t.of)) (flow here k Next) in
    stands-stop (is_true here t.condition.now.span c.args.v now) next c.in-Err.is (c.is_true.ensures here now of_here of_now)
