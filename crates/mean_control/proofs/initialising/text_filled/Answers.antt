use Rattle.std.proofs.Common.{refl}
use Rattle.mean_machine.specs.Execution.{fill_text}
use Rattle.mean_machine.specs.Going.{by, finished}
use Rattle.mean_expressions.specs.Laws.Standing.{stands-then, stands-stop, stands-spent, stands-at}
use Rattle.mean_control.proofs.initialising.text_filled.Goals as goal

pub returns-in-Ok-text_put : goal.returns-in-Ok-text_put
returns-in-Ok-text_put c = λ w here k frames now of_here stacked of_now.
    let run = fill_text here c.args.chars.count c.args.chars.at c.args.number in
    stands-spent (by run (finished here k)) c.in-Ok.is (c.spend.ensures now of_now) (λ after shown.
    stands-then (run after) (finished here k) c.in-Ok-text_put.is (c.text_put.ensures here after of_here shown) (λ last shown'.
    stands-at k refl stacked shown'))

pub returns-in-Err-text_put : goal.returns-in-Err-text_put
returns-in-Err-text_put c = λ w here k frames now of_here stacked of_now.
    let run = fill_text here c.args.chars.count c.args.chars.at c.args.number in
    stands-spent (by run (finished here k)) c.in-Ok.is (c.spend.ensures now of_now) (λ after shown.
    stands-stop (run after) (finished here k) c.in-Err-text_put.is (c.text_put.ensures here after of_here shown))
