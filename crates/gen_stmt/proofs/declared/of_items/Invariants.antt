use Rattle.std.proofs.Common.{◌≡◌, ◌++◌, drop}
use Rattle.block_meaning.specs.Statements.{declared}
use Rattle.gen_stmt.proofs.declared.of_items.Given as goal

-- with those of the parts that are left these are all
abbrev pub invariant-loop-item : goal.invariant-loop-item
invariant-loop-item l = l.locals.items ++ declared (drop l.item-index l.items) ≡ declared l.items
