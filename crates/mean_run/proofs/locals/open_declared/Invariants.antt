-- Those before have their blocks.
use Rattle.std.proofs.Common.{ℕ, List, ◌++◌, map, take}
use Rattle.block_meaning.specs.Statements.{local_of}
use Rattle.mean_run.specs.Entering.{Origin, Made}
use Rattle.mean_run.proofs.locals.open_declared.Given as goal

abbrev pub invariant-loop-d : goal.invariant-loop-d
invariant-loop-d l = (o : Origin) (ks : List ℕ) → Made l.h o ks l.initial.n l.initial.locals →
    Made l.h o (ks ++ map local_of (take l.d-index l.ds)) l.n l.locals
