use Rattle.std.proofs.Common.{arith}
use Rattle.tag_pages.proofs.Mapped.{none_holds}
use Rattle.tag_pages.proofs.part.find_part.Goals as goal

pub returns-clause-none : goal.returns-clause-none
returns-clause-none c = none_holds c.args.regions.now c.args.at (λ k d below. c.loop-place.invariant k d (omega (arith, below)))
