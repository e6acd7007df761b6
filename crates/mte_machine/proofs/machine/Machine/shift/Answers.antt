use Rattle.mte_machine.proofs.machine.Machine.shift.Goals as goal

pub returns-in-Lslv : goal.returns-in-Lslv
returns-in-Lslv g c = λ w. rw (c.in-Lslv.is, ← c.general.ensures w, ← c.general-in-Lslv.ensures w, ← c.shift_left.ensures.value)
    (c.put.ensures w)

pub returns-in-Lsrv : goal.returns-in-Lsrv
returns-in-Lsrv g c =
    λ w. rw (c.in-Lsrv.is, ← c.general-in-Lsrv.ensures w, ← c.general-in-Lsrv-2.ensures w, ← c.shift_right.ensures.value)
    (c.put-in-Lsrv.ensures w)

pub returns-in-Asrv : goal.returns-in-Asrv
returns-in-Asrv g c =
    λ w. rw (c.in-Asrv.is, ← c.general-in-Asrv.ensures w, ← c.general-in-Asrv-2.ensures w, ← c.shift_arithmetic.ensures.value)
    (c.put-in-Asrv.ensures w)

pub returns-in-Sbfm : goal.returns-in-Sbfm
returns-in-Sbfm g c = λ w. rw (c.in-Sbfm.is, ← c.general-in-Sbfm.ensures w, ← c.signed_bitfield.ensures.value) (c.put-in-Sbfm.ensures w)

pub returns-in-Ubfm : goal.returns-in-Ubfm
returns-in-Ubfm g c = λ w. rw (c.in-Ubfm.is, ← c.general-in-Ubfm.ensures w, ← c.unsigned_bitfield.ensures.value) (c.put-in-Ubfm.ensures w)
