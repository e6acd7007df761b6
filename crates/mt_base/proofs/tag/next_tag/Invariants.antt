use Rattle.std.proofs.Common.{◌≡◌}
use Rattle.mt_base.specs.Tags.{next_tag}
use Rattle.mt_base.proofs.tag.next_tag.Given as goal

abbrev pub invariant-loop-step : goal.invariant-loop-step
invariant-loop-step l = l.chosen ≡ next_tag l.fn.tag l.step l.exclude.0
