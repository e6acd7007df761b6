-- The parameters before have their arguments.
use Rattle.std.proofs.Common.{take}
use Rattle.block_meaning.specs.Meaning.{with_arguments}
use Rattle.block_meaning.specs.Running.{gives}
use Rattle.mean_run.specs.Entering.{Origin, Passed}
use Rattle.mean_run.proofs.arguments.pass.Given as goal

abbrev pub invariant-loop-k : goal.invariant-loop-k
invariant-loop-k l = (o : Origin) → Passed l.h o (gives o.here o.start) l.initial.n l.initial.locals.items →
    Passed l.h o (with_arguments o.here 0 (take l.k l.parameters) (take l.k l.values) o.start) l.n l.locals.items
