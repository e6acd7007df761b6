use Rattle.std.proofs.Common.{◌∙◌, sym, arith, rules}
use Rattle.mt_base.specs.Laws.TagChoice.{first_is, first_none}
use Rattle.mt_base.proofs.tag.first_allowed.Goals as goal

-- the tags before this one are excluded, and it is not
pub returns-then-allows : goal.returns-then-allows
returns-then-allows c =
    sym (first_is c.args.exclude.0 c.args.from c.loop-step.step (omega arith) c.loop-step.invariant (search rules))

-- all sixteen are excluded
pub returns : goal.returns
returns c = c.zero.ensures ∙ sym (first_none c.args.exclude.0 c.args.from (λ k below. c.loop-step.invariant k (omega (arith, below))))
