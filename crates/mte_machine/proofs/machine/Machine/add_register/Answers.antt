use Rattle.mte_machine.proofs.machine.Machine.add_register.Goals as goal

pub returns-in-AddReg : goal.returns-in-AddReg
returns-in-AddReg g c = λ w. rw (c.in-AddReg.is, ← c.general.ensures w, ← c.general-in-AddReg.ensures w, ← c.add.ensures.value)
    (c.put.ensures w)

pub returns-in-SubReg : goal.returns-in-SubReg
returns-in-SubReg g c =
    λ w. rw (c.in-SubReg.is, ← c.general-in-SubReg.ensures w, ← c.general-in-SubReg-2.ensures w, ← c.subtract.ensures.value)
    (c.put-in-SubReg.ensures w)

pub returns-in-SubsReg : goal.returns-in-SubsReg
returns-in-SubsReg g c = λ w. rw (c.in-SubsReg.is, ← c.general-in-SubsReg.ensures w, ← c.general-in-SubsReg-2.ensures w)
    (c.put_difference.ensures w)
