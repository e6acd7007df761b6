use Rattle.std.proofs.Common.{◌≡◌, ◌∙◌, length, Err, rules}
use Rattle.mte_machine.specs.Accesses.{with_memory}
use Rattle.mte_machine.proofs.ReadLaws.{read_misaligned, read_refused, read_compared}
use Rattle.mte_machine.proofs.memory.judge.read.Goals as goal

pub returns-then-at-unit-ne0-clause-answer : goal.returns-then-at-unit-ne0-clause-answer
returns-then-at-unit-ne0-clause-answer g c s =
    read_misaligned (with_memory g.M.TagMemory c.args.memory.now s) c.args.pointer c.args.unit
    (length c.args.out.now) c.address_of-at.result c.args.checked c.address_of-at.ensures c.if-at-unit-ne0.true

-- the memory refused it
pub returns-in_err-end_at-clause-answer : goal.returns-in_err-end_at-clause-answer
returns-in_err-end_at-clause-answer g c s =
    let failed : c.from_residual.result ≡ Err c.in_err-end_at.field-0.0 = search rules in
    failed
    ∙ read_refused (with_memory g.M.TagMemory c.args.memory.now s) c.args.pointer c.args.unit
    (length c.args.out.now) c.address_of-at.result c.args.checked c.read-answer.result c.in_err-end_at.field-0.0
    c.address_of-at.ensures c.if-at-unit-ne0.false c.read-answer.ensures.answer c.in_err-end_at.ensures

-- the tags decide
pub returns-clause-answer : goal.returns-clause-answer
returns-clause-answer g c s =
    let long : length c.read-answer.new.out ≡ length c.args.out.now = c.read-answer.auto.out in
    let compared = c.compare_tags.ensures s in
    read_compared (with_memory g.M.TagMemory c.args.memory.now s) c.args.pointer c.args.unit
    (length c.args.out.now) c.address_of-at.result c.args.checked c.read-answer.result c.in_ok-end_at.field-0 c.compare_tags.result
    c.address_of-at.ensures c.if-at-unit-ne0.false c.read-answer.ensures.answer c.in_ok-end_at.ensures (rw long at compared)
