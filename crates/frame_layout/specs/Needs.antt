-- How many words for values in between an expression needs (this project's own): a value that waits for a second part has one.
-- A number that would pass the greatest of 64 bits is that number.
use Rattle.std.specs.Prelude.{ℕ, ◌+◌, max, min, List, [], ◌∷◌, length}
use Rattle.c_ast.specs.declared.operator.BinaryOperator.{BinaryOperator}
use Rattle.c_ast.specs.declared.operator.BinaryOperator.TheVariants as binary
use Rattle.c_type_base.specs.declared.expr.TExpr.{TExpr}
use Rattle.c_type_base.specs.declared.expr.TNode.{TNode}
use Rattle.c_type_base.specs.declared.expr.TNode.TheOpen.{TNode-F, TExpr-F}
use Rattle.c_type_base.specs.declared.expr.TNode.TheFolds.{fold-TNode, fold-TExpr}

-- the greatest number of 64 bits
abbrev pub greatest : ℕ
greatest = 18446744073709551615

-- the sum, as far as 64 bits hold it
abbrev pub capped_sum : ℕ → ℕ → ℕ
capped_sum a b = min (a + b) greatest

-- the first value waits while the second part is evaluated
abbrev pub waiting : ℕ → ℕ → ℕ
waiting a b = max a (capped_sum b 1)

-- `&&` and `||` keep no value
abbrev pub both : BinaryOperator → ℕ → ℕ → ℕ
both binary.And a b = max a b
both binary.Or a b = max a b
both o a b = waiting a b

-- arguments, of which so many wait already
abbrev pub arguments_from : ℕ → List ℕ → ℕ
arguments_from waits [] = 0
arguments_from waits (a ∷ more) = max (capped_sum a waits) (arguments_from (capped_sum waits 1) more)

-- all arguments of a call: at the end all of them wait for it
abbrev pub arguments : List ℕ → ℕ
arguments needs = max (length needs) (arguments_from 0 needs)

-- the words that a node needs, by those that its parts need
abbrev pub need_step : TNode-F ℕ ℕ → ℕ
need_step (TNode-F.Constant n t) = 0
need_step (TNode-F.Text number) = 0
need_step (TNode-F.Local k) = 0
need_step (TNode-F.Global number) = 0
need_step (TNode-F.Extern number) = 0
need_step (TNode-F.Paren e) = e
need_step (TNode-F.Unary o e) = e
need_step (TNode-F.Binary o a b) = both o a b
need_step (TNode-F.Assign o a b) = waiting a b
need_step (TNode-F.Cond c a b) = max c (max a b)
need_step (TNode-F.Cast t e) = e
need_step (TNode-F.SizeofExpr e) = 0
need_step (TNode-F.SizeofName t) = 0
need_step (TNode-F.Call callee needs) = arguments needs
need_step (TNode-F.Index a i) = waiting a i
need_step (TNode-F.Member e number) = e
need_step (TNode-F.Arrow e number) = e
need_step (TNode-F.Step s e) = e
need_step (TNode-F.Read e) = e
need_step (TNode-F.Decay e) = e
need_step (TNode-F.Convert e) = e

abbrev pub expr_step : TExpr-F ℕ ℕ → ℕ
expr_step e = e.node

-- the words that an expression needs
abbrev pub need : TExpr → ℕ
need = fold-TExpr ℕ ℕ need_step expr_step

abbrev pub node_need : TNode → ℕ
node_need = fold-TNode ℕ ℕ need_step expr_step
