-- What is answered to words that ask for nothing (this project's own).
use Rattle.std.specs.Prelude.{◌≡◌, ◌⊎◌}
use Rattle.mt_answers.specs.Seen.{Seen}
use Rattle.mt_answers.specs.Status.{ends}
use Rattle.mt_answers.specs.declared.ended.Ended.{Ended}
use Rattle.mt_answers.specs.declared.ended.Why.TheVariants.{NoMemory, Usage}

-- usage, or memory was wanting for the words
pub record UsageAnswers {S K : Type 0} (before after : Seen S K) (ended : Ended) : Type 0 where
  pub usage : (ended ≡ ends Usage) ⊎ (ended ≡ ends NoMemory)
  -- nothing outside was touched
  pub untouched : after ≡ before
