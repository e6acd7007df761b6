use Rattle.std.proofs.Common.{rules, sym}
use Rattle.mean_memory.proofs.lookup.stands_at.Goals as goal

pub returns-in-Some : goal.returns-in-Some
returns-in-Some c = λ t. record { slot = c.in-Some.slot.now; is = sym c.in-Some.ensures; named = search rules }
