-- None before declares a local.
use Rattle.std.proofs.Common.{◌≡◌, drop}
use Rattle.block_meaning.specs.Statements.{declared}
use Rattle.mean_run.specs.Entering.{has_any}
use Rattle.mean_run.proofs.scopes.items_declare.Given as goal

abbrev pub invariant-loop-item : goal.invariant-loop-item
invariant-loop-item l = has_any (declared (drop l.item-index l.items)) ≡ has_any (declared l.items)
