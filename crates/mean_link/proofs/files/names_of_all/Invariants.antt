use Rattle.std.proofs.Common.{◌≡◌, take}
use Rattle.mean_link.specs.Names.{names_in}
use Rattle.mean_link.proofs.files.names_of_all.Given as goal

-- those passed are there
abbrev pub invariant-loop-number : goal.invariant-loop-number
invariant-loop-number l = l.files ≡ names_in (take l.number l.programs) (take l.number l.units)
