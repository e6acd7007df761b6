use Rattle.std.proofs.Common.{◌≡◌, take}
use Rattle.c_ast.proofs.copying.copy.Given as goal

-- the items passed are copied
abbrev pub invariant-loop-external : goal.invariant-loop-external
invariant-loop-external l = l.items ≡ take l.external-index l.program.items
