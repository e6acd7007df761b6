use Rattle.block_meaning.specs.Operators.{number_of_truth}
use Rattle.block_meaning.specs.Running.{gives}
use Rattle.mean_effects.specs.Laws.Comparing.{compared_now}
use Rattle.mean_effects.specs.Laws.Giving.{done-then, stopped-then, gives-value}
use Rattle.mean_effects.proofs.operators.compared_values.Goals as goal

pub returns-in-Ok : goal.returns-in-Ok
returns-in-Ok c = λ here now of_here of_now.
    let both = c.args.both in
    done-then (compared_now here c.args.span both.operator both.first both.second now) (λ b. gives (number_of_truth b)) c.in-Ok.is
    (c.compared_now.ensures here now of_here of_now) (λ after shown. gives-value c.number_of_truth.ensures shown)

pub returns-in-Err : goal.returns-in-Err
returns-in-Err c = λ here now of_here of_now.
    let both = c.args.both in
    stopped-then (compared_now here c.args.span both.operator both.first both.second now) (λ b. gives (number_of_truth b)) c.in-Err.is
    (c.compared_now.ensures here now of_here of_now)
