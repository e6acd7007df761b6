use Rattle.block_meaning.specs.Expressions.{same_truth}
use Rattle.block_meaning.specs.Operators.{is_true, number_of_truth}
use Rattle.std.specs.Prelude.{Bool}
use Rattle.mean_machine.specs.Evaluation.{operand_first}
use Rattle.mean_machine.specs.Frames.{LogicalSecond}
use Rattle.mean_machine.specs.Going.{Stand, by, either, value}
use Rattle.mean_expressions.specs.Laws.Standing.{stands-then, stands-spent}
use Rattle.mean_expressions.proofs.evaluation.first_given.Goals as goal

pub returns-in-Ok-is_true : goal.returns-in-Ok-is_true
returns-in-Ok-is_true c = λ w here k now of_here stacked of_now.
    let l = c.args.logical in
    let run = is_true here l.first.now.span c.args.v in
    let next : Bool → Stand = λ first. either (same_truth first l.decides) (value here k (number_of_truth l.decides))
    (operand_first here k l.second.now (LogicalSecond l.second.now)) in
    stands-spent (by run next) c.in-Ok.is (c.spend.ensures now of_now) (λ after shown.
    stands-then (run after) next c.in-Ok-is_true.is (c.is_true.ensures here after of_here shown) (λ last shown'.
    c.decided.ensures c.is_true.new.n w here k last stacked shown'))
