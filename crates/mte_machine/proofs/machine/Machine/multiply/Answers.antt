use Rattle.mte_machine.proofs.machine.Machine.multiply.Goals as goal

pub returns-in-Udiv : goal.returns-in-Udiv
returns-in-Udiv g c = λ w. rw (c.in-Udiv.is, ← c.general.ensures w, ← c.general-in-Udiv.ensures w, ← c.divide_unsigned.ensures.value)
    (c.put.ensures w)

pub returns-in-Sdiv : goal.returns-in-Sdiv
returns-in-Sdiv g c =
    λ w. rw (c.in-Sdiv.is, ← c.general-in-Sdiv.ensures w, ← c.general-in-Sdiv-2.ensures w, ← c.divide_signed.ensures.value)
    (c.put-in-Sdiv.ensures w)

pub returns-in-Madd : goal.returns-in-Madd
returns-in-Madd g c =
    λ w. rw (
      c.in-Madd.is,
      ← c.general-x.ensures w,
      ← c.general-y.ensures w,
      ← c.general-in-Madd.ensures w,
      ← c.multiply_add.ensures.value,
    ) (c.put-in-Madd.ensures w)

pub returns-in-Msub : goal.returns-in-Msub
returns-in-Msub g c =
    λ w. rw (
      c.in-Msub.is,
      ← c.general-x-in-Msub.ensures w,
      ← c.general-y-in-Msub.ensures w,
      ← c.general-in-Msub.ensures w,
      ← c.multiply_sub.ensures.value,
    ) (c.put-in-Msub.ensures w)
