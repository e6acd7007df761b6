-- The blocks of those behind have ended.
use Rattle.std.proofs.Common.{ℕ, ◌≤◌, List, ◌++◌, drop, length}
use Rattle.block_meaning.specs.Statements.{declared}
use Rattle.mean_run.specs.Entering.{Origin, Closed}
use Rattle.mean_run.proofs.locals.close_items.Given as goal

abbrev pub invariant-loop-index : goal.invariant-loop-index
invariant-loop-index l = (l.index ≤ length l.items) × ((o : Origin) (ks : List ℕ) → Closed l.h o ks l.initial.n l.initial.locals →
    Closed l.h o (declared (drop l.index l.items) ++ ks) l.n l.locals)

abbrev pub decreases-loop-index : goal.decreases-loop-index
decreases-loop-index l = l.index
