use Rattle.std.proofs.Common.{◌≡◌, ◌++◌, append_assoc, ap, sym, ◌∙◌}
use Rattle.std.specs.Prelude.{codes, decimal}
use Rattle.slot_safety.specs.declared.kind.Kind.TheVariants.{Safe, Tagged}
use Rattle.frame_plan.specs.Lines.{slot_words}
use Rattle.frame_plan.proofs.Clauses.{spelled}
use Rattle.frame_plan.proofs.lines.words_of.Goals as goal

pub returns-in-Safe : goal.returns-in-Safe
returns-in-Safe c =
    let s = c.args.slot in
    let text = codes "safe " ++ (decimal s.start ++ (codes " " ++ (decimal s.bytes ++ codes " "))) in
    let same : text ≡ slot_words s Safe = simp append_assoc in
    spelled c.format.result text (slot_words s s.kind) c.format.ensures.ok (same ∙ ap (slot_words s) (sym c.in-Safe.is))

pub returns-in-Tagged : goal.returns-in-Tagged
returns-in-Tagged c =
    let s = c.args.slot in
    let text = codes "tagged "
    ++ (decimal s.start ++ (codes " " ++ (decimal s.bytes ++ (codes " " ++ (decimal s.index ++ codes " "))))) in
    let same : text ≡ slot_words s Tagged = simp append_assoc in
    spelled c.format-in-Tagged.result text (slot_words s s.kind) c.format-in-Tagged.ensures.ok
    (same ∙ ap (slot_words s) (sym c.in-Tagged.is))
