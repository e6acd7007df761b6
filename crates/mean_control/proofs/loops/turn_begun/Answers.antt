use Rattle.std.proofs.Common.{subst, sym}
use Rattle.mean_expressions.specs.Stacked.{Stands, loop_of}
use Rattle.mean_control.specs.Turns.{turn_after}
use Rattle.mean_control.proofs.loops.turn_begun.Goals as goal

pub returns-in-For : goal.returns-in-For
returns-in-For c = λ n w here k now stacked of_now.
    subst (λ l. Stands n c.test_or_body.new.stack.items w here now c.test_or_body.result (turn_after here k (loop_of l) now))
    (sym c.in-For.is) (c.test_or_body.ensures n w here k now stacked of_now)
