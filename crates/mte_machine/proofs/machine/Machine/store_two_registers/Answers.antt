use Rattle.std.proofs.Common.{◌+◌, true}
use Rattle.mt_base.specs.Memory.{store}
use Rattle.mt_base.specs.Pointers.{address_of}
use Rattle.a64_code.specs.State.{with_bytes}
use Rattle.a64_code.specs.Access.{pair, access_end}
use Rattle.mte_machine.specs.Machine.{state_of}
use Rattle.mte_machine.proofs.Performed.{stored}
use Rattle.mte_machine.proofs.machine.Machine.store_two_registers.Goals as goal

pub returns : goal.returns
returns g c = λ w.
    let old = state_of g.M.TagMemory c.args.self.now w in
    let pointer = c.beside-pointer.result in
    let bytes = store 8 (store 8 old.byte (address_of pointer) c.general-first.result) (address_of pointer + 8) c.general-second.result in
    rw (← c.from.ensures, ← c.beside-pointer.ensures w, ← c.general-first.ensures w, ← c.general-second.ensures w, ← c.is_checked.ensures)
    (stored (access_end old (pair pointer true c.is_checked.result)) (with_bytes bytes old) old _ _ _ _
    (c.store_pair-answer.ensures old) (c.go_on.ensures w))
