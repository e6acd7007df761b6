use Rattle.mte_machine.proofs.machine.Machine.carry_out.Goals as goal

pub returns-in-Nop : goal.returns-in-Nop
returns-in-Nop g c = λ w. rw c.in-Nop.is (c.advance.ensures.ran, c.advance.ensures.state w)
