use Rattle.std.proofs.Common.{◌≡◌, ℕ, ◌*◌, Bool, ◌∙◌, Err, false, sym, ap, rules}
use Rattle.mt_base.specs.Memory.{store}
use Rattle.mt_base.specs.Pointers.{address_of}
use Rattle.a64_code.specs.State.{State, with_bytes, tagged, with_tags}
use Rattle.mte_machine.specs.Accesses.{with_memory, end_of_answer, granules}
use Rattle.mte_machine.proofs.Judgement.{no_end, answered}
use Rattle.mte_machine.proofs.WriteLaws.{write_misaligned, same_memory, other_bytes}
use Rattle.mte_machine.proofs.TagLaws.{unchecked, not_done, some_state, still_writable}
use Rattle.mte_machine.proofs.memory.tag.clear_granules.Goals as goal

-- the state behind it
cleared : Bool → State → ℕ → ℕ → State
cleared two old at tag = with_bytes (store (16 * granules two) old.byte at 0) (with_tags (tagged (granules two) old.tag at tag) old)

pub returns-then-at-ne0 : goal.returns-then-at-ne0
unfolding cleared
returns-then-at-ne0 g c s =
    let old = with_memory g.M.TagMemory c.args.memory.now s in
    write_misaligned old c.args.pointer 16 (16 * granules c.args.two) c.address_of-at.result false
    (cleared c.args.two old (address_of c.args.pointer) c.args.tag) c.address_of-at.ensures c.if-at-ne0.true

pub returns-in_err-end_at : goal.returns-in_err-end_at
unfolding cleared
returns-in_err-end_at g c s =
    let failed : c.from_residual.result ≡ Err c.in_err-end_at.field-0.0 = search rules in
    let old = with_memory g.M.TagMemory c.args.memory.now s in
    unchecked old (with_memory g.M.TagMemory c.write_zeros-answer.new.memory s)
    (cleared c.args.two old (address_of c.args.pointer) c.args.tag) c.args.pointer (16 * granules c.args.two) c.address_of-at.result
    c.write_zeros-answer.result c.from_residual.result c.address_of-at.ensures c.if-at-ne0.false c.write_zeros-answer.ensures.answer
    (failed ∙ c.in_err-end_at.ensures)
    (λ did. absurd (not_done c.write_zeros-answer.result c.address_of-at.result c.in_err-end_at.field-0.0 c.in_err-end_at.ensures did))
    (λ other. same_memory g.M.TagMemory c.args.memory.now c.write_zeros-answer.new.memory s
    (c.write_zeros-answer.ensures.refused other) c.write_zeros-answer.ensures.same_tags c.write_zeros-answer.ensures.same_regions
    c.write_zeros-answer.ensures.same_guard)

pub set_tags-requires-clause-writable : goal.set_tags-requires-clause-writable
set_tags-requires-clause-writable g c =
    let old = with_memory g.M.TagMemory c.args.memory.now some_state in
    let new = with_memory g.M.TagMemory c.write_zeros-answer.new.memory some_state in
    let did = answered c.write_zeros-answer.result c.address_of-at.result
    (no_end (end_of_answer c.write_zeros-answer.result c.address_of-at.result) c.in_ok-end_at.field-0 (tt {0}) c.in_ok-end_at.ensures) in
    still_writable old new c.address_of-at.result (16 * granules c.args.two)
    c.write_zeros-answer.ensures.same_regions c.write_zeros-answer.ensures.same_guard
    (sym c.write_zeros-answer.ensures.answer ∙ did)

pub returns : goal.returns
unfolding cleared
returns g c s =
    let old = with_memory g.M.TagMemory c.args.memory.now s in
    let at = c.address_of-at.result in
    let did = answered c.write_zeros-answer.result at
    (no_end (end_of_answer c.write_zeros-answer.result at) c.in_ok-end_at.field-0 (tt {0}) c.in_ok-end_at.ensures) in
    let zeros = store (16 * granules c.args.two) old.byte at 0 in
    let wrote : with_memory g.M.TagMemory c.write_zeros-answer.new.memory s ≡ with_bytes zeros old =
    other_bytes g.M.TagMemory c.args.memory.now c.write_zeros-answer.new.memory s zeros
    (c.write_zeros-answer.ensures.done did) c.write_zeros-answer.ensures.same_tags c.write_zeros-answer.ensures.same_regions
    c.write_zeros-answer.ensures.same_guard in
    unchecked old (with_memory g.M.TagMemory c.set_tags.new.memory s)
    (cleared c.args.two old (address_of c.args.pointer) c.args.tag) c.args.pointer (16 * granules c.args.two) at
    c.write_zeros-answer.result _ c.address_of-at.ensures c.if-at-ne0.false c.write_zeros-answer.ensures.answer c.in_ok-end_at.ensures
    (λ _. c.set_tags.ensures s ∙ ap (λ (t : State). with_tags (tagged (granules c.args.two) t.tag at c.args.tag) t) wrote
    ∙ ap (λ a. cleared c.args.two old a c.args.tag) c.address_of-at.ensures)
    (λ other. absurd (other did))
