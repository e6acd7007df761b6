use Rattle.std.proofs.Common.{◌≡◌, ◌++◌, map, take}
use Rattle.c_print.specs.Words.{with_commas}
use Rattle.c_print.specs.Declarations.{init_of}
use Rattle.c_print.proofs.declaration.+init.Given as goal

-- the initialisers passed are printed
abbrev pub invariant-print_inits-loop-index : goal.invariant-print_inits-loop-index
invariant-print_inits-loop-index l = l.out.items ≡ l.initial.out.items ++ with_commas (map init_of (take l.index l.inits))
