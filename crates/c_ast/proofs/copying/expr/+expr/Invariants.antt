use Rattle.std.proofs.Common.{◌≡◌, take}
use Rattle.c_ast.proofs.copying.expr.+expr.Given as goal

-- the expressions passed are copied
abbrev pub invariant-copy_exprs-loop-expr : goal.invariant-copy_exprs-loop-expr
invariant-copy_exprs-loop-expr l = l.copied ≡ take l.expr-index l.exprs
