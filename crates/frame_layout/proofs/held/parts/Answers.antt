use Rattle.std.proofs.Common.{◌≡◌, ap, sym, ◌∙◌, length}
use Rattle.slot_safety.specs.Kinds.{kind_by, harms}
use Rattle.slot_safety.specs.Laws.NumberLaws.{length-by_number}
use Rattle.frame_layout.specs.Parts.{setting, parts_by, ArePositive}
use Rattle.frame_layout.specs.Parts as spec
use Rattle.frame_layout.specs.Scopes.{as_told, outermost}
use Rattle.frame_layout.proofs.PartTurns.{if_ok, parts_are, are_positive}
use Rattle.frame_layout.proofs.held.parts.Goals as goal

pub collect-requires-clause-kinds : goal.collect-requires-clause-kinds
collect-requires-clause-kinds c =
    let f = c.args.function.now in
    ap length (c.as_slice-2.ensures.value ∙ c.in_ok-kinds.ensures)
    ∙ length-by_number kind_by (harms c.args.structs.now f) 0 f.locals
    ∙ ap length (sym c.as_slice.ensures)

pub collect-requires-clause-outer : goal.collect-requires-clause-outer
collect-requires-clause-outer c =
    let f = c.args.function.now in
    ap length (c.as_slice-3.ensures.value ∙ c.in_ok-outer.ensures)
    ∙ length-by_number as_told (outermost f.body) 0 f.locals
    ∙ ap length (sym c.as_slice.ensures)

pub returns-clause-value : goal.returns-clause-value
returns-clause-value c =
    let s = c.args.structs.now in
    let f = c.args.function.now in
    let ls = c.as_slice.result.now in
    let found = c.as_slice-2.result.now in
    let outers = c.as_slice-3.result.now in
    if_ok c.collect.result (λ ps. ps.items ≡ parts_by (setting s f.params) 0 ls found outers) (λ ps. ps.items ≡ spec.parts s f)
    (λ ps is. parts_are s f ls found outers ps.items c.as_slice.ensures (c.as_slice-2.ensures.value ∙ c.in_ok-kinds.ensures)
    (c.as_slice-3.ensures.value ∙ c.in_ok-outer.ensures) is)
    c.collect.ensures

pub returns-clause-positive : goal.returns-clause-positive
returns-clause-positive c =
    let s = c.args.structs.now in
    let f = c.args.function.now in
    if_ok c.collect.result (λ ps. ps.items ≡ spec.parts s f) (λ ps. ArePositive ps.items)
    (λ ps is. are_positive s c.requires.laid_out f ps.items is) (returns-clause-value c)
