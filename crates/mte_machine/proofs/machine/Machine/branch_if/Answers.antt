use Rattle.mte_machine.proofs.machine.Machine.branch_if.Goals as goal

pub returns-then-taken : goal.returns-then-taken
returns-then-taken g c = λ w. rw c.if-taken.true (c.branch-self.ensures w)

pub returns-else-taken : goal.returns-else-taken
returns-else-taken g c = λ w. rw c.if-taken.false (c.advance.ensures.ran, c.advance.ensures.state w)
