use Rattle.std.proofs.Common.{subst, sym}
use Rattle.mean_machine.specs.Execution.{turn, holding}
use Rattle.mean_expressions.specs.Stacked.{Stands, loop_of}
use Rattle.mean_control.proofs.loops.holding.Goals as goal

pub returns-in-DoWhile : goal.returns-in-DoWhile
returns-in-DoWhile c = λ w here k now stacked of_now.
    subst (λ l. Stands c.turn.new.n c.turn.new.stack.items w here now c.turn.result (holding here k (loop_of l) now))
    (sym c.in-DoWhile.is)
    (subst (λ l. Stands c.turn.new.n c.turn.new.stack.items w here now c.turn.result (turn here k (loop_of l) now))
    c.in-DoWhile.is (c.turn.ensures w here k now stacked of_now))
