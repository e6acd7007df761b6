-- How many words expressions need, one equation a construct.
use Rattle.std.proofs.Common.{◌≡◌, ℕ, List, map}
use Rattle.c_ast.specs.declared.int_type.IntType.{IntType}
use Rattle.c_ast.specs.declared.operator.BinaryOperator.{BinaryOperator}
use Rattle.c_type_base.specs.Laws.Opened.{given_typed}
use Rattle.c_type_base.specs.declared.expr.Callee.{Callee}
use Rattle.c_type_base.specs.declared.expr.TExpr.{TExpr}
use Rattle.c_type_base.specs.declared.expr.TNode.TheVariants as node
use Rattle.c_type_base.specs.declared.expr.TNode.TheOpen.{TNode-F}
use Rattle.c_type_base.specs.declared.expr.TNode.TheFolds.{fold-roll-TNode, fold_out-TExpr}
use Rattle.frame_layout.specs.Needs.{need, node_need, need_step, expr_step, both, arguments}

pub need-expression : (e : TExpr) → need e ≡ node_need e.node
unfolding given_typed
need-expression e = fold_out-TExpr ℕ ℕ need_step expr_step e

pub need-constant : (n : ℕ) (t : IntType) → node_need (node.Constant n t) ≡ 0
unfolding given_typed
need-constant n t = fold-roll-TNode ℕ ℕ need_step expr_step (TNode-F.Constant n t)

pub need-binary : (o : BinaryOperator) (a b : TExpr) → node_need (node.Binary o a b) ≡ both o (need a) (need b)
unfolding given_typed
need-binary o a b = fold-roll-TNode ℕ ℕ need_step expr_step (TNode-F.Binary o a b)

pub need-call : (callee : Callee) (es : List TExpr) → node_need (node.Call callee es) ≡ arguments (map need es)
unfolding given_typed
need-call callee es = fold-roll-TNode ℕ ℕ need_step expr_step (TNode-F.Call callee es)
