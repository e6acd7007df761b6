use Rattle.std.proofs.Common.{◌≡◌, false, ◌+◌, ◌∙◌, refl, ap₂}
use Rattle.mt_base.specs.Memory.{load}
use Rattle.mt_base.specs.Pointers.{address_of}
use Rattle.a64_code.specs.Access.{pair, access_end}
use Rattle.mte_machine.specs.Accesses.{with_memory}
use Rattle.mte_machine.proofs.NumberLaws.{given, front_of_pair, back_of_pair}
use Rattle.mte_machine.proofs.memory.pair.load_pair.Goals as goal

pub returns : goal.returns
returns g c s =
    let now = with_memory g.M.TagMemory c.args.memory.now s in
    let at = address_of c.args.pointer in
    let read = c.in_ok-read.ensures.done refl in
    let first : c.from_le_bytes.result ≡ load 8 now.byte at =
    c.from_le_bytes.ensures ∙ front_of_pair now.byte at c.read.new.out c.copy_from_slice.new.self read c.copy_from_slice.ensures.after in
    let second : c.from_le_bytes-2.result ≡ load 8 now.byte (at + 8) =
    c.from_le_bytes-2.ensures ∙ back_of_pair now.byte at c.read.new.out c.copy_from_slice-2.new.self read
    c.copy_from_slice-2.ensures.after in
    given (access_end now (pair c.args.pointer false c.args.checked)) c.in_ok-read.field-0 _ _ (c.in_ok-read.ensures.answer s)
    (ap₂ (λ x y. (x, y)) first second)
