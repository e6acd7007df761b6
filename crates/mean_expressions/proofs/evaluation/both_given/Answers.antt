use Rattle.std.proofs.Common.{refl}
use Rattle.block_meaning.specs.Operators.{on_values}
use Rattle.mean_machine.specs.Going.{by, value}
use Rattle.mean_expressions.specs.Laws.Standing.{stands-then, stands-stop, stands-spent, stands-value}
use Rattle.mean_expressions.proofs.evaluation.both_given.Goals as goal

pub returns-in-Ok-on_values : goal.returns-in-Ok-on_values
returns-in-Ok-on_values c = λ w here k frames now of_here stacked of_now.
    let o = c.args.o in
    let run = on_values here o.span o.operator o.first_type.now o.second_type.now o.first o.second in
    stands-spent (by run (value here k)) c.in-Ok.is (c.spend.ensures now of_now) (λ after shown.
    stands-then (run after) (value here k) c.in-Ok-on_values.is (c.on_values.ensures here after of_here shown) (λ last shown'.
    stands-value refl stacked shown'))

pub returns-in-Err-on_values : goal.returns-in-Err-on_values
returns-in-Err-on_values c = λ w here k frames now of_here stacked of_now.
    let o = c.args.o in
    let run = on_values here o.span o.operator o.first_type.now o.second_type.now o.first o.second in
    stands-spent (by run (value here k)) c.in-Ok.is (c.spend.ensures now of_now) (λ after shown.
    stands-stop (run after) (value here k) c.in-Err-on_values.is (c.on_values.ensures here after of_here shown))
