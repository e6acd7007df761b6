use Rattle.std.proofs.Common.{◌≡◌, ◌*◌, ◌∙◌, Err, false, sym, ap, rules}
use Rattle.mt_base.specs.Pointers.{address_of}
use Rattle.a64_code.specs.State.{State, tagged, with_tags}
use Rattle.mte_machine.specs.Accesses.{with_memory, end_of_answer, granules}
use Rattle.mte_machine.proofs.Judgement.{no_end, answered}
use Rattle.mte_machine.proofs.WriteLaws.{write_misaligned}
use Rattle.mte_machine.proofs.TagLaws.{unchecked, not_done, some_state, still_writable}
use Rattle.mte_machine.proofs.memory.tag.tag_granules.Goals as goal

pub returns-then-at-ne0 : goal.returns-then-at-ne0
returns-then-at-ne0 g c s =
    let old = with_memory g.M.TagMemory c.args.memory.now s in
    write_misaligned old c.args.pointer 16 (16 * granules c.args.two) c.address_of-at.result false
    (with_tags (tagged (granules c.args.two) old.tag (address_of c.args.pointer) c.args.tag) old) c.address_of-at.ensures c.if-at-ne0.true

pub returns-in_err-end_at : goal.returns-in_err-end_at
returns-in_err-end_at g c s =
    let failed : c.from_residual.result ≡ Err c.in_err-end_at.field-0.0 = search rules in
    let old = with_memory g.M.TagMemory c.args.memory.now s in
    unchecked old (with_memory g.M.TagMemory c.write_again-answer.new.memory s)
    (with_tags (tagged (granules c.args.two) old.tag (address_of c.args.pointer) c.args.tag) old) c.args.pointer
    (16 * granules c.args.two) c.address_of-at.result
    c.write_again-answer.result c.from_residual.result c.address_of-at.ensures c.if-at-ne0.false c.write_again-answer.ensures.answer
    (failed ∙ c.in_err-end_at.ensures)
    (λ did. absurd (not_done c.write_again-answer.result c.address_of-at.result c.in_err-end_at.field-0.0 c.in_err-end_at.ensures did))
    (λ other. c.write_again-answer.ensures.same s)

pub set_tags-requires-clause-writable : goal.set_tags-requires-clause-writable
set_tags-requires-clause-writable g c =
    let old = with_memory g.M.TagMemory c.args.memory.now some_state in
    let new = with_memory g.M.TagMemory c.write_again-answer.new.memory some_state in
    let same = c.write_again-answer.ensures.same some_state in
    let did = answered c.write_again-answer.result c.address_of-at.result
    (no_end (end_of_answer c.write_again-answer.result c.address_of-at.result) c.in_ok-end_at.field-0 (tt {0}) c.in_ok-end_at.ensures)
    in
    still_writable old new c.address_of-at.result (16 * granules c.args.two)
    (ap (λ (t : State). t.regions) same) (ap (λ (t : State). t.guard) same)
    (sym c.write_again-answer.ensures.answer ∙ did)

pub returns : goal.returns
returns g c s =
    let old = with_memory g.M.TagMemory c.args.memory.now s in
    let did = answered c.write_again-answer.result c.address_of-at.result
    (no_end (end_of_answer c.write_again-answer.result c.address_of-at.result) c.in_ok-end_at.field-0 (tt {0}) c.in_ok-end_at.ensures)
    in
    unchecked old (with_memory g.M.TagMemory c.set_tags.new.memory s)
    (with_tags (tagged (granules c.args.two) old.tag (address_of c.args.pointer) c.args.tag) old) c.args.pointer
    (16 * granules c.args.two) c.address_of-at.result
    c.write_again-answer.result _ c.address_of-at.ensures c.if-at-ne0.false c.write_again-answer.ensures.answer c.in_ok-end_at.ensures
    (λ _. c.set_tags.ensures s
    ∙ ap (λ (t : State). with_tags (tagged (granules c.args.two) t.tag c.address_of-at.result c.args.tag) t)
    (c.write_again-answer.ensures.same s)
    ∙ ap (λ a. with_tags (tagged (granules c.args.two) old.tag a c.args.tag) old) c.address_of-at.ensures)
    (λ other. absurd (other did))
