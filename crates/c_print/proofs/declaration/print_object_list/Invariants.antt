use Rattle.std.proofs.Common.{◌≡◌, ◌++◌, map, take}
use Rattle.c_print.specs.Words.{with_commas}
use Rattle.c_print.specs.Declarations.{object_of}
use Rattle.c_print.proofs.declaration.print_object_list.Given as goal

-- the objects passed are printed
abbrev pub invariant-loop-index : goal.invariant-loop-index
invariant-loop-index l = l.out.items ≡ l.initial.out.items ++ with_commas (map object_of (take l.index l.decls))
