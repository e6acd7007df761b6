-- Declarations whose locals are new: what a scope declares is not in scope round it, and each only once (this project's own). So it is in
-- the functions of a well-typed program (law `program-fresh` of well_typed_code).
use Rattle.std.specs.Prelude.{◌≢◌, ℕ, List, [], ◌∷◌, ◌++◌, map, Option, Some, None}
use Rattle.std.specs.List.{AllPairs, Contains}
use Rattle.c_ast.specs.declared.token.Span.{Span}
use Rattle.c_type_base.specs.declared.expr.TExpr.{TExpr}
use Rattle.c_type_base.specs.declared.statement.TDecl.{TDecl}
use Rattle.c_type_base.specs.declared.statement.TItem.{TItem, out-TItem}
use Rattle.c_type_base.specs.declared.statement.TItem.TheOpen.{TItem-F, TStmt-F}
use Rattle.c_type_base.specs.declared.statement.TStmt.{TStmt, out-TStmt}
use Rattle.block_meaning.specs.Statements.{StmtLayer, ItemLayer, local_of, declared}

-- some locals are all different, and none of them is in scope
pub record AreNew (scope new : List ℕ) : Type 0 where
  pub different : AllPairs (λ j k. j ≢ k) new
  pub not_there : (k : ℕ) → Contains new k → Contains scope k → ⊥

mutual
  -- in each scope inside a statement, by the locals that are in scope round it
  pub data Fresh : List ℕ → StmtLayer → Type 0 where
    block : {ks : List ℕ} {is : List TItem} → AreNew ks (declared is) → FreshItems (declared is ++ ks) is → Fresh ks (TStmt-F.Block is)
    expression : {ks : List ℕ} {e : TExpr} → Fresh ks (TStmt-F.Expr e)
    empty : {ks : List ℕ} → Fresh ks TStmt-F.Empty
    if_alone : {ks : List ℕ} {e : TExpr} {st : TStmt} → Fresh ks (out-TStmt st) → Fresh ks (TStmt-F.If e st None)
    if_else : {ks : List ℕ} {e : TExpr} {st other : TStmt} → Fresh ks (out-TStmt st) → Fresh ks (out-TStmt other) →
        Fresh ks (TStmt-F.If e st (Some other))
    while : {ks : List ℕ} {e : TExpr} {st : TStmt} → Fresh ks (out-TStmt st) → Fresh ks (TStmt-F.While e st)
    do_while : {ks : List ℕ} {e : TExpr} {st : TStmt} → Fresh ks (out-TStmt st) → Fresh ks (TStmt-F.DoWhile st e)
    for : {ks : List ℕ} {ds : List TDecl} {first condition next : Option TExpr} {st : TStmt} → AreNew ks (map local_of ds) →
        Fresh (map local_of ds ++ ks) (out-TStmt st) → Fresh ks (TStmt-F.For ds first condition next st)
    return : {ks : List ℕ} {e : Option TExpr} {span : Span} → Fresh ks (TStmt-F.Return e span)
    break : {ks : List ℕ} {span : Span} → Fresh ks (TStmt-F.Break span)
    continue : {ks : List ℕ} {span : Span} → Fresh ks (TStmt-F.Continue span)

  pub data FreshItem : List ℕ → ItemLayer → Type 0 where
    declarations : {ks : List ℕ} {ds : List TDecl} → FreshItem ks (TItem-F.Local ds)
    statement : {ks : List ℕ} {st : TStmt} → Fresh ks (out-TStmt st) → FreshItem ks (TItem-F.Stmt st)

  -- of the parts of a block, whose own locals are in scope
  pub data FreshItems : List ℕ → List TItem → Type 0 where
    no_item : {ks : List ℕ} → FreshItems ks []
    item : {ks : List ℕ} {i : TItem} {is : List TItem} → FreshItem ks (out-TItem i) → FreshItems ks is → FreshItems ks (i ∷ is)
