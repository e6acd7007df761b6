use Rattle.mt_base.specs.Pointers.{address_of}
use Rattle.a64_code.specs.State.{tagged, with_tags}
use Rattle.a64_code.specs.Access.{tag_store, access_end}
use Rattle.mte_machine.specs.Accesses.{granules}
use Rattle.mte_machine.specs.Machine.{state_of}
use Rattle.mte_machine.proofs.Performed.{stored}
use Rattle.mte_machine.proofs.machine.Machine.store_tags.Goals as goal

pub returns : goal.returns
returns g c = λ w.
    let old = state_of g.M.TagMemory c.args.self.now w in
    let pointer = c.beside-pointer.result in
    let tags = with_tags (tagged (granules c.args.two) old.tag (address_of pointer) c.tag_of-tag.result) old in
    rw (← c.beside-pointer.ensures w, ← c.general_or_sp.ensures w, ← c.tag_of-tag.ensures)
    (stored (access_end old (tag_store (granules c.args.two) pointer)) tags old _ _ _ _ (c.tag_granules-answer.ensures old)
    (c.go_on.ensures w))
