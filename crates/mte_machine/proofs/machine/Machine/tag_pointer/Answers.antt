use Rattle.mte_machine.proofs.machine.Machine.tag_pointer.Goals as goal

pub returns-in-Addg : goal.returns-in-Addg
returns-in-Addg g c = λ w. rw (c.in-Addg.is, ← c.general_or_sp-pointer.ensures w, ← c.from.ensures, ← c.add-address.ensures.value)
    (c.put_with_next_tag.ensures w)

pub returns-in-Subg : goal.returns-in-Subg
returns-in-Subg g c =
    λ w. rw (c.in-Subg.is, ← c.general_or_sp-pointer-in-Subg.ensures w, ← c.from-in-Subg.ensures, ← c.subtract-address.ensures.value)
    (c.put_with_next_tag-in-Subg.ensures w)

pub returns-in-Irg : goal.returns-in-Irg
returns-in-Irg g c = λ w. rw c.in-Irg.is (c.insert_random_tag.ensures w)
