-- Which externs given trees refer to, one equation a construct.
use Rattle.std.proofs.Common.{◌≡◌, ℕ, List, [], ◌∷◌, ◌++◌, map, Option, Some, None, ap, ◌∙◌}
use Rattle.c_ast.specs.declared.operator.AssignOperator.{AssignOperator}
use Rattle.c_ast.specs.declared.operator.BinaryOperator.{BinaryOperator}
use Rattle.c_type_base.specs.Laws.Opened.{given_typed}
use Rattle.c_type_base.specs.declared.expr.Callee.{Callee}
use Rattle.c_type_base.specs.declared.expr.TExpr.{TExpr}
use Rattle.c_type_base.specs.declared.expr.TNode.TheVariants as node
use Rattle.c_type_base.specs.declared.expr.TNode.TheOpen.{TNode-F}
use Rattle.c_type_base.specs.declared.expr.TNode.TheFolds.{fold-roll-TNode, fold_out-TExpr}
use Rattle.c_type_base.specs.declared.statement.TDecl.{TDecl}
use Rattle.c_type_base.specs.declared.statement.TItem.TheFolds.{fold-roll-TStmt}
use Rattle.c_type_base.specs.declared.statement.TItem.TheOpen.{TStmt-F}
use Rattle.c_type_base.specs.declared.statement.TStmt.{TStmt}
use Rattle.c_type_base.specs.declared.statement.TStmt.TheVariants as stmt
use Rattle.mean_link.specs.Uses.{expr_step, node_step, expr_uses, node_uses, callee_uses, joined}
use Rattle.mean_link.specs.Uses.{decl_uses, maybe_uses, item_step, stmt_step, stmt_uses}

pub said-uses : (e : TExpr) → expr_uses e ≡ node_uses e.node
unfolding given_typed
said-uses e = fold_out-TExpr (List ℕ) (List ℕ) node_step expr_step e

pub extern-uses : (k : ℕ) → node_uses (node.Extern k) ≡ k ∷ []
unfolding given_typed
extern-uses k = fold-roll-TNode (List ℕ) (List ℕ) node_step expr_step (TNode-F.Extern k)

pub sizeof-uses : (e : TExpr) → node_uses (node.SizeofExpr e) ≡ []
unfolding given_typed
sizeof-uses e = fold-roll-TNode (List ℕ) (List ℕ) node_step expr_step (TNode-F.SizeofExpr e)

pub call-uses : (f : Callee) (es : List TExpr) → node_uses (node.Call f es) ≡ callee_uses f ++ joined (map expr_uses es)
unfolding given_typed
call-uses f es = fold-roll-TNode (List ℕ) (List ℕ) node_step expr_step (TNode-F.Call f es)

pub binary-uses : (o : BinaryOperator) (a b : TExpr) → node_uses (node.Binary o a b) ≡ expr_uses a ++ expr_uses b
unfolding given_typed
binary-uses o a b = fold-roll-TNode (List ℕ) (List ℕ) node_step expr_step (TNode-F.Binary o a b)

pub assign-uses : (o : Option AssignOperator) (a b : TExpr) → node_uses (node.Assign o a b) ≡ expr_uses a ++ expr_uses b
unfolding given_typed
assign-uses o a b = fold-roll-TNode (List ℕ) (List ℕ) node_step expr_step (TNode-F.Assign o a b)

pub index-uses : (a i : TExpr) → node_uses (node.Index a i) ≡ expr_uses a ++ expr_uses i
unfolding given_typed
index-uses a i = fold-roll-TNode (List ℕ) (List ℕ) node_step expr_step (TNode-F.Index a i)

pub cond-uses : (c a b : TExpr) → node_uses (node.Cond c a b) ≡ expr_uses c ++ (expr_uses a ++ expr_uses b)
unfolding given_typed
cond-uses c a b = fold-roll-TNode (List ℕ) (List ℕ) node_step expr_step (TNode-F.Cond c a b)

pub alone-uses : (e : TExpr) (s : TStmt) (o : Option TStmt) → o ≡ None → stmt_uses (stmt.If e s o) ≡ expr_uses e ++ stmt_uses s
unfolding given_typed
alone-uses e s o is =
    ap (λ o. stmt_uses (stmt.If e s o)) is ∙ fold-roll-TStmt (List ℕ) (List ℕ) item_step stmt_step (TStmt-F.If e s None)

pub either-uses : (e : TExpr) (s other : TStmt) (o : Option TStmt) → o ≡ Some other →
    stmt_uses (stmt.If e s o) ≡ expr_uses e ++ (stmt_uses s ++ stmt_uses other)
unfolding given_typed
either-uses e s other o is =
    ap (λ o. stmt_uses (stmt.If e s o)) is ∙ fold-roll-TStmt (List ℕ) (List ℕ) item_step stmt_step (TStmt-F.If e s (Some other))

pub while-uses : (e : TExpr) (s : TStmt) → stmt_uses (stmt.While e s) ≡ expr_uses e ++ stmt_uses s
unfolding given_typed
while-uses e s = fold-roll-TStmt (List ℕ) (List ℕ) item_step stmt_step (TStmt-F.While e s)

pub do-uses : (s : TStmt) (e : TExpr) → stmt_uses (stmt.DoWhile s e) ≡ stmt_uses s ++ expr_uses e
unfolding given_typed
do-uses s e = fold-roll-TStmt (List ℕ) (List ℕ) item_step stmt_step (TStmt-F.DoWhile s e)

pub for-uses : (ds : List TDecl) (a : Option TExpr) (c : Option TExpr) (n : Option TExpr) (s : TStmt) →
    stmt_uses (stmt.For ds a c n s)
    ≡ joined (map decl_uses ds) ++ (maybe_uses a ++ (maybe_uses c ++ (maybe_uses n ++ stmt_uses s)))
unfolding given_typed
for-uses ds a c n s = fold-roll-TStmt (List ℕ) (List ℕ) item_step stmt_step (TStmt-F.For ds a c n s)
