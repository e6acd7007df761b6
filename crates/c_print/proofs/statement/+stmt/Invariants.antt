use Rattle.std.proofs.Common.{◌≡◌, ◌++◌, map, take}
use Rattle.c_print.specs.Statements.{joined, item_of}
use Rattle.c_print.proofs.statement.+stmt.Given as goal

-- the parts passed are printed
abbrev pub invariant-print_items-loop-item : goal.invariant-print_items-loop-item
invariant-print_items-loop-item l = l.out.items ≡ l.initial.out.items ++ joined (map item_of (take l.item-index l.items))
