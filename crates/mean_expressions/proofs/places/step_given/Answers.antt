use Rattle.std.proofs.Common.{refl}
use Rattle.mean_machine.specs.Evaluation.{step_effect}
use Rattle.mean_machine.specs.Going.{by, value}
use Rattle.mean_expressions.specs.Laws.Standing.{stands-then, stands-stop, stands-spent, stands-value}
use Rattle.mean_expressions.proofs.places.step_given.Goals as goal

pub returns-in-Ok-step_effect : goal.returns-in-Ok-step_effect
returns-in-Ok-step_effect c = λ w here k frames now of_here stacked of_now.
    let run = step_effect here c.args.s c.args.e.now c.args.p in
    stands-spent (by run (value here k)) c.in-Ok.is (c.spend.ensures now of_now) (λ after shown.
    stands-then (run after) (value here k) c.in-Ok-step_effect.is (c.step_effect.ensures here after of_here shown) (λ last shown'.
    stands-value refl stacked shown'))

pub returns-in-Err-step_effect : goal.returns-in-Err-step_effect
returns-in-Err-step_effect c = λ w here k frames now of_here stacked of_now.
    let run = step_effect here c.args.s c.args.e.now c.args.p in
    stands-spent (by run (value here k)) c.in-Ok.is (c.spend.ensures now of_now) (λ after shown.
    stands-stop (run after) (value here k) c.in-Err-step_effect.is (c.step_effect.ensures here after of_here shown))
