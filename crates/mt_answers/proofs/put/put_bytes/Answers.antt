use Rattle.std.proofs.Common.{refl}
use Rattle.mt_answers.specs.Put.{all, part}
use Rattle.mt_answers.proofs.put.put_bytes.Goals as goal

pub returns-in-Done : goal.returns-in-Done
returns-in-Done g c = all (record { content = c.in-Done.ensures.content; uncounted = c.in-Done.ensures.uncounted (λ e. cc) })

pub returns-in-Failed : goal.returns-in-Failed
returns-in-Failed g c = part (record { content = c.in-Failed.ensures.content; failed = c.in-Failed.ensures.failed refl })
