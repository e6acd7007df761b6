use Rattle.mte_machine.proofs.machine.Machine.load.Goals as goal

pub returns-then-wide : goal.returns-then-wide
returns-then-wide g c = λ w. rw (c.in-Ldr.is, c.if-wide.true) (c.load_register.ensures w)

pub returns-else-wide : goal.returns-else-wide
returns-else-wide g c = λ w. rw (c.in-Ldr.is, c.if-wide.false) (c.load_register-else-wide.ensures w)

pub returns-in-Ldrb : goal.returns-in-Ldrb
returns-in-Ldrb g c = λ w. rw c.in-Ldrb.is (c.load_register-in-Ldrb.ensures w)

pub returns-in-Ldrh : goal.returns-in-Ldrh
returns-in-Ldrh g c = λ w. rw c.in-Ldrh.is (c.load_register-in-Ldrh.ensures w)

pub returns-in-Ldrsw : goal.returns-in-Ldrsw
returns-in-Ldrsw g c = λ w. rw c.in-Ldrsw.is (c.load_signed.ensures w)

pub returns-in-Ldrsb : goal.returns-in-Ldrsb
returns-in-Ldrsb g c = λ w. rw c.in-Ldrsb.is (c.load_signed-in-Ldrsb.ensures w)

pub returns-in-Ldrsh : goal.returns-in-Ldrsh
returns-in-Ldrsh g c = λ w. rw c.in-Ldrsh.is (c.load_signed-in-Ldrsh.ensures w)

pub returns-in-Ldp : goal.returns-in-Ldp
returns-in-Ldp g c = λ w. rw c.in-Ldp.is (c.load_two_registers.ensures w)

pub returns-in-Ldg : goal.returns-in-Ldg
returns-in-Ldg g c = λ w. rw c.in-Ldg.is (c.load_granule_tag.ensures w)
