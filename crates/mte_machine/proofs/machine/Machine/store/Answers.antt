use Rattle.mte_machine.proofs.machine.Machine.store.Goals as goal

pub returns-then-wide : goal.returns-then-wide
returns-then-wide g c = λ w. rw (c.in-Str.is, c.if-wide.true) (c.store_register.ensures w)

pub returns-else-wide : goal.returns-else-wide
returns-else-wide g c = λ w. rw (c.in-Str.is, c.if-wide.false) (c.store_register-else-wide.ensures w)

pub returns-in-Strb : goal.returns-in-Strb
returns-in-Strb g c = λ w. rw c.in-Strb.is (c.store_register-in-Strb.ensures w)

pub returns-in-Strh : goal.returns-in-Strh
returns-in-Strh g c = λ w. rw c.in-Strh.is (c.store_register-in-Strh.ensures w)

pub returns-in-Stp : goal.returns-in-Stp
returns-in-Stp g c = λ w. rw c.in-Stp.is (c.store_two_registers.ensures w)
