use Rattle.mte_machine.proofs.machine.Machine.move_number.Goals as goal

pub returns-in-Movk : goal.returns-in-Movk
returns-in-Movk g c = λ w. rw (c.in-Movk.is, ← c.number-old.ensures w, ← c.with_halfword.ensures) (c.put-in-Movk.ensures w)

pub returns-in-Adrp : goal.returns-in-Adrp
returns-in-Adrp g c = λ w. rw (c.in-Adrp.is, ← c.page_target.ensures w) (c.put-in-Adrp.ensures w)
