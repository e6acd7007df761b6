use Rattle.mte_machine.proofs.machine.Machine.combine.Goals as goal

pub returns-in-AndReg : goal.returns-in-AndReg
returns-in-AndReg g c = λ w. rw (c.in-AndReg.is, ← c.number.ensures w, ← c.number-in-AndReg.ensures w) (c.put.ensures w)

pub returns-in-OrrReg : goal.returns-in-OrrReg
returns-in-OrrReg g c = λ w. rw (c.in-OrrReg.is, ← c.number-in-OrrReg.ensures w, ← c.number-in-OrrReg-2.ensures w)
    (c.put-in-OrrReg.ensures w)

pub returns-in-EorReg : goal.returns-in-EorReg
returns-in-EorReg g c = λ w. rw (c.in-EorReg.is, ← c.number-in-EorReg.ensures w, ← c.number-in-EorReg-2.ensures w)
    (c.put-in-EorReg.ensures w)

pub returns-in-Csinc : goal.returns-in-Csinc
returns-in-Csinc g c =
    λ w. rw (
      c.in-Csinc.is,
      ← c.condition_holds-holds.ensures,
      ← c.general-x.ensures w,
      ← c.general-y.ensures w,
      ← c.chosen_or_next.ensures,
    ) (c.put-in-Csinc.ensures w)
