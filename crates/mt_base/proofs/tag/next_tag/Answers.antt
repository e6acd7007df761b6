use Rattle.std.proofs.Common.{◌∙◌, ap, ◌+◌, arith, slice_index}
use Rattle.mt_base.specs.Tags.{allowed_from}
use Rattle.mt_base.specs.Laws.TagChoice.{next_tag_next}
use Rattle.mt_base.proofs.tag.next_tag.Goals as goal

-- the first tag behind the one before is that of the next offset
pub loop-step-preserved : goal.loop-step-preserved
loop-step-preserved c =
    c.first_allowed-chosen-in-loop-step.ensures
    ∙ ap (λ n. slice_index (allowed_from c.args.exclude.0 (n + 1)) 0) (c.chosen.view_is ∙ c.loop-step.invariant)
    ∙ next_tag_next c.args.tag c.loop-step.step c.args.exclude.0 (omega arith)
