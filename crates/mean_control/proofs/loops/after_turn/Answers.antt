use Rattle.std.proofs.Common.{subst, sym}
use Rattle.mean_machine.specs.Execution.{turn, after_turn}
use Rattle.mean_expressions.specs.Stacked.{Stands, loop_of}
use Rattle.mean_control.proofs.loops.after_turn.Goals as goal

pub returns-in-While : goal.returns-in-While
returns-in-While c = λ w here k now stacked of_now.
    subst (λ l. Stands c.turn.new.n c.turn.new.stack.items w here now c.turn.result (after_turn here k (loop_of l) now))
    (sym c.in-While.is)
    (subst (λ l. Stands c.turn.new.n c.turn.new.stack.items w here now c.turn.result (turn here k (loop_of l) now))
    c.in-While.is (c.turn.ensures w here k now stacked of_now))
