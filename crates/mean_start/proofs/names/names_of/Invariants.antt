-- The files passed are there.
use Rattle.std.proofs.Common.{take}
use Rattle.block_meaning.specs.Linkage.{defined_from}
use Rattle.mean_start.specs.Known.{Knows}
use Rattle.mean_start.proofs.names.names_of.Given as goal

abbrev pub invariant-loop-unit : goal.invariant-loop-unit
invariant-loop-unit l = Knows l.names l.units (λ name. defined_from name 0 (take l.unit l.units))
