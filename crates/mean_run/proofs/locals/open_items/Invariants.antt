-- Those before have their blocks.
use Rattle.std.proofs.Common.{ℕ, List, ◌++◌, take}
use Rattle.block_meaning.specs.Statements.{declared}
use Rattle.mean_run.specs.Entering.{Origin, Made}
use Rattle.mean_run.proofs.locals.open_items.Given as goal

abbrev pub invariant-loop-item : goal.invariant-loop-item
invariant-loop-item l = (o : Origin) (ks : List ℕ) → Made l.h o ks l.initial.n l.initial.locals →
    Made l.h o (ks ++ declared (take l.item-index l.items)) l.n l.locals
