use Rattle.mte_machine.proofs.machine.Machine.go.Goals as goal

pub returns-in-Cbz : goal.returns-in-Cbz
returns-in-Cbz g c = λ w. rw (c.in-Cbz.is, ← c.number.ensures w) (c.branch_if.ensures w)

pub returns-in-Cbnz : goal.returns-in-Cbnz
returns-in-Cbnz g c = λ w. rw (c.in-Cbnz.is, ← c.number-in-Cbnz.ensures w) (c.branch_if-in-Cbnz.ensures w)

pub returns-in-B : goal.returns-in-B
returns-in-B g c = λ w. rw c.in-B.is (c.branch-self.ensures w)

pub returns-in-Bl : goal.returns-in-Bl
returns-in-Bl g c = λ w. rw c.in-Bl.is (c.branch_with_link.ensures w)

pub returns-in-BCond : goal.returns-in-BCond
returns-in-BCond g c = λ w. rw (c.in-BCond.is, ← c.condition_holds.ensures) (c.branch_if-in-BCond.ensures w)

pub returns-in-Ret : goal.returns-in-Ret
returns-in-Ret g c = λ w. rw c.in-Ret.is (c.branch_to_link.ensures w)
