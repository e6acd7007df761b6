use Rattle.std.proofs.Common.{◌≡◌}
use Rattle.c_type_expr.specs.Sorted.{listed_items}
use Rattle.c_type_stmt.proofs.FitLaws.{Stands}
use Rattle.c_type_stmt.proofs.initial.+fitted.Given as goal

-- what comes of the initialisers that are left comes of all; the structs are those of the beginning
abbrev pub invariant-fit_all-loop-k : goal.invariant-fit_all-loop-k
invariant-fit_all-loop-k l = record {
  structs : l.walk.structs ≡ l.initial.walk.structs;
  stands : Stands l.from_start l.t l.inits l.k l.initial.walk l.walk (listed_items l.so_far);
}
