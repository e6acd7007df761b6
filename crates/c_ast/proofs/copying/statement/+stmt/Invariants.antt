use Rattle.std.proofs.Common.{◌≡◌, take}
use Rattle.c_ast.proofs.copying.statement.+stmt.Given as goal

-- the parts passed are copied
abbrev pub invariant-copy_items-loop-item : goal.invariant-copy_items-loop-item
invariant-copy_items-loop-item l = l.copied ≡ take l.item-index l.items
