use Rattle.std.proofs.Common.{◌≡◌, ◌∙◌, true, false, Err, rules}
use Rattle.mt_base.specs.Granules.{granule_of}
use Rattle.mt_base.specs.Memory.{is_mapped}
use Rattle.mt_base.specs.Pointers.{address_of}
use Rattle.mte_machine.specs.Accesses.{with_memory}
use Rattle.mte_machine.proofs.TagLaws.{tag_not_loaded, tag_loaded, granule_mapped}
use Rattle.mte_machine.proofs.memory.tag.load_tag.Goals as goal

pub returns-in_err-end_at : goal.returns-in_err-end_at
returns-in_err-end_at g c s =
    let failed : c.from_residual.result ≡ Err c.in_err-end_at.field-0.0 = search rules in
    let now = with_memory g.M.TagMemory c.args.memory.now s in
    failed
    ∙ tag_not_loaded now c.args.pointer c.address_of-at.result c.read-answer.result c.in_err-end_at.field-0.0
    (now.tag (granule_of (address_of c.args.pointer)))
    c.address_of-at.ensures c.read-answer.ensures.answer c.in_err-end_at.ensures

-- the granule was read, so a region holds it
pub unreachable-requires : goal.unreachable-requires
unreachable-requires g c =
    let mapped : is_mapped (g.M.TagMemory.regions c.args.memory.now) c.address_of-at.result ≡ true =
    granule_mapped (g.M.TagMemory.regions c.args.memory.now)
    (g.M.TagMemory.guard c.args.memory.now) c.address_of-at.result c.read-answer.result c.in_ok-end_at.field-0
    c.read-answer.ensures.answer c.in_ok-end_at.ensures in
    let clash : false ≡ true = c.in-None.ensures.there.1 mapped in
    cc

pub returns : goal.returns
returns g c s =
    tag_loaded (with_memory g.M.TagMemory c.args.memory.now s) c.args.pointer c.address_of-at.result c.read-answer.result
    c.in_ok-end_at.field-0 c.in-Some.tag
    c.address_of-at.ensures c.read-answer.ensures.answer c.in_ok-end_at.ensures c.in-Some.ensures.value
