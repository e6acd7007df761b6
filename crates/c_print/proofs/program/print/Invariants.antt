use Rattle.std.proofs.Common.{◌≡◌, flat_map, take}
use Rattle.c_print.specs.Program.{external_of}
use Rattle.c_print.proofs.program.print.Given as goal

-- the items passed are printed
abbrev pub invariant-loop-external : goal.invariant-loop-external
invariant-loop-external l = l.out.items ≡ flat_map external_of (take l.external-index l.program.items)
