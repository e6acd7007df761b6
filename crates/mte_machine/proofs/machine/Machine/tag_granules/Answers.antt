use Rattle.mte_machine.proofs.machine.Machine.tag_granules.Goals as goal

pub returns-in-Stg : goal.returns-in-Stg
returns-in-Stg g c = λ w. rw c.in-Stg.is (c.store_tags.ensures w)

pub returns-in-Stzg : goal.returns-in-Stzg
returns-in-Stzg g c = λ w. rw c.in-Stzg.is (c.clear.ensures w)

pub returns-in-St2g : goal.returns-in-St2g
returns-in-St2g g c = λ w. rw c.in-St2g.is (c.store_tags-in-St2g.ensures w)

pub returns-in-Stz2g : goal.returns-in-Stz2g
returns-in-Stz2g g c = λ w. rw c.in-Stz2g.is (c.clear-in-Stz2g.ensures w)
