-- How much there is of an expression: the measure of the functions that walk over it.
use Rattle.std.proofs.Common.{ℕ, ◌+◌, sum}
use Rattle.c_type_base.specs.declared.expr.TExpr.{TExpr}
use Rattle.c_type_base.specs.declared.expr.TNode.{TNode}
use Rattle.c_type_base.specs.declared.expr.TNode.TheOpen.{TNode-F, TExpr-F}
use Rattle.c_type_base.specs.declared.expr.TNode.TheFolds.{fold-TNode, fold-TExpr}

abbrev pub layer : TNode-F ℕ ℕ → ℕ
layer (TNode-F.Constant n t) = 0
layer (TNode-F.Text n) = 0
layer (TNode-F.Local k) = 0
layer (TNode-F.Global n) = 0
layer (TNode-F.Extern n) = 0
layer (TNode-F.Paren e) = e
layer (TNode-F.Unary o e) = e
layer (TNode-F.Binary o a b) = a + b
layer (TNode-F.Assign o a b) = a + b
layer (TNode-F.Cond c a b) = c + (a + b)
layer (TNode-F.Cast t e) = e
layer (TNode-F.SizeofExpr e) = e
layer (TNode-F.SizeofName t) = 0
layer (TNode-F.Call callee es) = sum es
layer (TNode-F.Index a i) = a + i
layer (TNode-F.Member e n) = e
layer (TNode-F.Arrow e n) = e
layer (TNode-F.Step s e) = e
layer (TNode-F.Read e) = e
layer (TNode-F.Decay e) = e
layer (TNode-F.Convert e) = e

abbrev pub more : TExpr-F ℕ ℕ → ℕ
more e = e.node + 1

abbrev pub weight : TExpr → ℕ
weight = fold-TExpr ℕ ℕ layer more

abbrev pub node_weight : TNode → ℕ
node_weight = fold-TNode ℕ ℕ layer more
