use Rattle.mt_base.specs.Granules.{granule_of}
use Rattle.mt_base.specs.Pointers.{address_of, with_tag}
use Rattle.a64_code.specs.Access.{tag_load, access_end}
use Rattle.a64_code.specs.State.{with_general, advanced}
use Rattle.mte_machine.specs.Machine.{state_of}
use Rattle.mte_machine.proofs.Performed.{loaded, not_loaded}
use Rattle.mte_machine.proofs.machine.Machine.load_granule_tag.Goals as goal

pub returns-in-Ok : goal.returns-in-Ok
returns-in-Ok g c = λ w.
    let old = state_of g.M.TagMemory c.args.self.now w in
    let pointer = c.beside-pointer.result in
    rw (← c.beside-pointer.ensures w, ← c.general.ensures w)
    (loaded (access_end old (tag_load pointer)) (old.tag (granule_of (address_of pointer))) c.in-Ok.tag
    (λ tag. advanced (with_general c.args.rt (with_tag c.general.result tag) old)) old _ _ (c.in-Ok.ensures old)
    (rw (← c.with_tag.ensures) (c.put.ensures w)))

pub returns-in-Err : goal.returns-in-Err
returns-in-Err g c = λ w.
    let old = state_of g.M.TagMemory c.args.self.now w in
    let pointer = c.beside-pointer.result in
    rw (← c.beside-pointer.ensures w)
    (not_loaded (access_end old (tag_load pointer)) (old.tag (granule_of (address_of pointer))) c.in-Err.end _ old (c.in-Err.ensures old))
