use Rattle.std.proofs.Common.{◌*◌, ◌∙◌, ap, sym, false}
use Rattle.mt_base.specs.Extension.{sign_extend}
use Rattle.mt_base.specs.Memory.{load}
use Rattle.mt_base.specs.Pointers.{address_of}
use Rattle.a64_code.specs.Access.{single, access_end}
use Rattle.a64_code.specs.State.{with_general, advanced}
use Rattle.mte_machine.specs.Machine.{state_of}
use Rattle.mte_machine.proofs.Performed.{loaded, not_loaded}
use Rattle.mte_machine.proofs.machine.Machine.load_signed.Goals as goal

pub returns-in-Ok : goal.returns-in-Ok
returns-in-Ok g c = λ w.
    let old = state_of g.M.TagMemory c.args.self.now w in
    let pointer = c.behind-pointer.result in
    let bytes = c.from.result in
    rw (← c.behind-pointer.ensures w, ← c.is_checked.ensures, ← c.from.ensures)
    (loaded (access_end old (single bytes pointer false c.is_checked.result)) (load bytes old.byte (address_of pointer)) c.in-Ok.number
    (λ value. advanced (with_general c.args.rt (sign_extend (8 * bytes) 64 value) old)) old _ _ (c.in-Ok.ensures old)
    (let went = c.put.ensures w in (
      went.0,
      went.1
          ∙ ap (λ value. advanced (with_general c.args.rt value old))
          (c.sext.ensures ∙ ap (λ n. sign_extend (8 * n) 64 c.in-Ok.number) (sym c.from.ensures)),
    )))

pub returns-in-Err : goal.returns-in-Err
returns-in-Err g c = λ w.
    let old = state_of g.M.TagMemory c.args.self.now w in
    let pointer = c.behind-pointer.result in
    let bytes = c.from.result in
    rw (← c.behind-pointer.ensures w, ← c.is_checked.ensures, ← c.from.ensures)
    (not_loaded (access_end old (single bytes pointer false c.is_checked.result)) (load bytes old.byte (address_of pointer)) c.in-Err.end
    _ old (c.in-Err.ensures old))
