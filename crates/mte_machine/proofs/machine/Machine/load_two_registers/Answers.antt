use Rattle.std.proofs.Common.{◌+◌, ◌∙◌, ℕ, ap, sym, false}
use Rattle.mt_base.specs.Memory.{load}
use Rattle.mt_base.specs.Pointers.{address_of}
use Rattle.a64_code.specs.Access.{pair, access_end}
use Rattle.a64_code.specs.State.{State, with_general, advanced}
use Rattle.mte_machine.specs.Machine.{state_of}
use Rattle.mte_machine.proofs.Performed.{loaded, not_loaded}
use Rattle.mte_machine.proofs.machine.Machine.load_two_registers.Goals as goal

pub returns-in-Ok : goal.returns-in-Ok
returns-in-Ok g c = λ w.
    let old = state_of g.M.TagMemory c.args.self.now w in
    let at = address_of c.beside-pointer.result in
    let went = c.put.ensures w in
    rw (← c.from.ensures, ← c.beside-pointer.ensures w, ← c.is_checked.ensures)
    (loaded (access_end old (pair c.beside-pointer.result false c.is_checked.result)) (load 8 old.byte at, load 8 old.byte (at + 8))
    (c.in-Ok.first, c.in-Ok.second)
    (λ (numbers : ℕ × ℕ). advanced (with_general c.args.rt2 numbers.1 (with_general c.args.rt numbers.0 old))) old _ _
    (sym c.in-Ok.is ∙ c.load_pair.ensures old)
    (went.0, went.1 ∙ ap (λ (s : State). advanced (with_general c.args.rt2 c.in-Ok.second s)) (c.set_general.ensures w)))

pub returns-in-Err : goal.returns-in-Err
returns-in-Err g c = λ w.
    let old = state_of g.M.TagMemory c.args.self.now w in
    let at = address_of c.beside-pointer.result in
    rw (← c.from.ensures, ← c.beside-pointer.ensures w, ← c.is_checked.ensures)
    (not_loaded (access_end old (pair c.beside-pointer.result false c.is_checked.result))
    (load 8 old.byte at, load 8 old.byte (at + 8)) c.in-Err.end
    _ old (sym c.in-Err.is ∙ c.load_pair.ensures old))
