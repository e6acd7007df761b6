use Rattle.std.proofs.Common.{◌≡◌, ℕ, ◌%◌, ◌<◌, ◌+◌, false}
use Rattle.mt_base.specs.Tags.{is_allowed}
use Rattle.mt_base.proofs.tag.first_allowed.Given as goal

abbrev pub invariant-loop-step : goal.invariant-loop-step
invariant-loop-step l = (k : ℕ) → k < l.step → is_allowed l.exclude.0 ((l.from + k) % 16) ≡ false
