use Rattle.std.proofs.Common.{refl}
use Rattle.mean_machine.specs.Evaluation.{unary_effect}
use Rattle.mean_machine.specs.Going.{by, value}
use Rattle.mean_expressions.specs.Laws.Standing.{stands-then, stands-spent, stands-value}
use Rattle.mean_expressions.proofs.evaluation.unary_given.Goals as goal

pub returns-in-Ok-unary_effect : goal.returns-in-Ok-unary_effect
returns-in-Ok-unary_effect c = λ w here k frames now of_here stacked of_now.
    let run = unary_effect here c.args.operator c.args.e.now c.args.v in
    stands-spent (by run (value here k)) c.in-Ok.is (c.spend.ensures now of_now) (λ after shown.
    stands-then (run after) (value here k) c.in-Ok-unary_effect.is (c.unary_effect.ensures here after of_here shown) (λ last shown'.
    stands-value refl stacked shown'))
