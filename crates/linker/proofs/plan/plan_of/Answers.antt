use Rattle.std.proofs.Common.{◌≡◌, ℕ, ◌+◌, List, sym, ap, subst, ◌∙◌}
use Rattle.elf_obj.specs.Object.{Object}
use Rattle.linker.specs.declared.spans.Span.{Span}
use Rattle.linker.specs.declared.totals.Totals.{Totals}
use Rattle.linker.specs.Data.{filled_size, zero_size}
use Rattle.linker.specs.Known.{objects_of}
use Rattle.linker.specs.Spans.{AreApart}
use Rattle.linker.specs.Laws.PlanLaws.{sizes}
use Rattle.linker.proofs.plan.plan_of.Goals as goal

pub spans_of-requires-clause-size : goal.spans_of-requires-clause-size
spans_of-requires-clause-size c =
    ap (λ (t : Totals). t.filled) c.totals_of-totals.ensures.totals ∙ (sizes (objects_of c.args.objects.now)).filled

pub fewest-count-requires-clause-apart : goal.fewest-count-requires-clause-apart
fewest-count-requires-clause-apart c =
    let os : List Object = objects_of c.args.objects.now in
    let filled : c.totals_of-totals.result.filled ≡ filled_size os =
    ap (λ (t : Totals). t.filled) c.totals_of-totals.ensures.totals ∙ (sizes os).filled in
    let zeros : c.totals_of-totals.result.zeros ≡ zero_size os =
    ap (λ (t : Totals). t.zeros) c.totals_of-totals.ensures.totals ∙ (sizes os).zeros in
    let end : filled_size os + zero_size os ≡ c.totals_of-totals.result.filled + c.totals_of-totals.result.zeros =
    λ i. sym filled i + sym zeros i in
    let here : AreApart 0 (filled_size os + zero_size os) c.deref.result.now =
    subst (λ (l : List Span). AreApart 0 (filled_size os + zero_size os) l) (sym c.deref.ensures.value) c.in_ok-spans.ensures.spans.apart in
    subst (λ (m : ℕ). AreApart 0 m c.deref.result.now) end here
