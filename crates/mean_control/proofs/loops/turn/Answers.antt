use Rattle.mean_expressions.specs.Laws.Standing.{stands-spent}
use Rattle.mean_expressions.specs.Stacked.{loop_of}
use Rattle.mean_control.specs.Turns.{turn_after}
use Rattle.mean_control.proofs.Turning.{stands-turn}
use Rattle.mean_control.proofs.loops.turn.Goals as goal

pub returns-in-Ok : goal.returns-in-Ok
returns-in-Ok c = λ w here k now stacked of_now.
    let l = loop_of c.args.l in
    stands-turn k l (stands-spent (turn_after here k l) c.in-Ok.is (c.spend.ensures now of_now) (λ after shown.
    c.turn_begun.ensures c.spend.new.n w here k after stacked shown))
