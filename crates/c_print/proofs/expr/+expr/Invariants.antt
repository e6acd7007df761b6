use Rattle.std.proofs.Common.{◌≡◌, ◌++◌, map, take}
use Rattle.c_print.specs.Words.{with_commas}
use Rattle.c_print.specs.Expressions.{lexemes_of}
use Rattle.c_print.proofs.expr.+expr.Given as goal

-- the expressions passed are printed
abbrev pub invariant-print_exprs-loop-index : goal.invariant-print_exprs-loop-index
invariant-print_exprs-loop-index l = l.out.items ≡ l.initial.out.items ++ with_commas (map lexemes_of (take l.index l.exprs))
