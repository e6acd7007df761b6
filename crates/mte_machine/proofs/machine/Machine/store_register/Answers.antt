use Rattle.std.proofs.Common.{true}
use Rattle.mt_base.specs.Memory.{store}
use Rattle.mt_base.specs.Pointers.{address_of}
use Rattle.a64_code.specs.State.{with_bytes}
use Rattle.a64_code.specs.Access.{single, access_end}
use Rattle.mte_machine.specs.Machine.{state_of}
use Rattle.mte_machine.proofs.Performed.{stored}
use Rattle.mte_machine.proofs.machine.Machine.store_register.Goals as goal

pub returns : goal.returns
returns g c = λ w.
    let old = state_of g.M.TagMemory c.args.self.now w in
    let pointer = c.behind-pointer.result in
    let bytes = c.from.result in
    rw (← c.behind-pointer.ensures w, ← c.general-value.ensures w, ← c.is_checked.ensures, ← c.from.ensures)
    (stored (access_end old (single bytes pointer true c.is_checked.result))
    (with_bytes (store bytes old.byte (address_of pointer) c.general-value.result) old) old _ _ _ _
    (c.store-answer.ensures old) (c.go_on.ensures w))
