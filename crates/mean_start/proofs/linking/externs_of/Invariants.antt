-- The names passed are there.
use Rattle.std.proofs.Common.{◌≡◌, ℕ, map, take}
use Rattle.block_meaning.specs.Linkage.{structs_of}
use Rattle.mean_start.specs.Files.{extern_as}
use Rattle.mean_start.proofs.linking.externs_of.Given as goal

abbrev pub invariant-loop-e : goal.invariant-loop-e
invariant-loop-e l = (unit : ℕ) → l.typed.structs ≡ structs_of l.units unit →
    l.made.items ≡ map (extern_as l.units unit) (take l.e-index l.e-items)
