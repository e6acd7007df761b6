use Rattle.mte_machine.proofs.machine.Machine.go_on.Goals as goal

pub returns-in-Ok : goal.returns-in-Ok
returns-in-Ok g c = λ w. rw c.in-Ok.is (c.advance.ensures.ran, c.advance.ensures.state w)
