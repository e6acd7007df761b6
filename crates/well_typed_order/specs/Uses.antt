-- Which externs a typed tree uses, by their numbers: those that it names or calls where it runs. What stands below `sizeof` does not run.
use Rattle.std.specs.Prelude.{ℕ, List, ◌∷◌, Option, Some, None}
use Rattle.c_ast.specs.declared.token.Span.{Span}
use Rattle.c_ast.specs.declared.operator.UnaryOperator.{UnaryOperator}
use Rattle.c_ast.specs.declared.operator.BinaryOperator.{BinaryOperator}
use Rattle.c_ast.specs.declared.operator.AssignOperator.{AssignOperator}
use Rattle.c_ast.specs.declared.operator.Step.{Step}
use Rattle.c_type_base.specs.declared.ty.Ty.{Ty}
use Rattle.c_type_base.specs.declared.expr.Callee.{Callee}
use Rattle.c_type_base.specs.declared.expr.Callee.TheVariants as callee
use Rattle.c_type_base.specs.declared.expr.TExpr.{TExpr}
use Rattle.c_type_base.specs.declared.expr.TNode.{out-TNode}
use Rattle.c_type_base.specs.declared.expr.TNode.TheOpen.{TNode-F}
use Rattle.c_type_base.specs.declared.statement.TDecl.{TDecl}
use Rattle.c_type_base.specs.declared.statement.TInit.{TInit, out-TInit}
use Rattle.c_type_base.specs.declared.statement.TInit.TheOpen.{TInit-F}
use Rattle.c_type_base.specs.declared.statement.TItem.{TItem, out-TItem}
use Rattle.c_type_base.specs.declared.statement.TItem.TheOpen.{TItem-F, TStmt-F}
use Rattle.c_type_base.specs.declared.statement.TStmt.{TStmt, out-TStmt}
use Rattle.block_meaning.specs.Expressions.{NodeLayer}
use Rattle.block_meaning.specs.Statements.{StmtLayer, ItemLayer}

mutual
  pub data Uses : NodeLayer → ℕ → Type 0 where
    named : {k : ℕ} → Uses (TNode-F.Extern k) k
    called : {k : ℕ} {es : List TExpr} → Uses (TNode-F.Call (callee.Extern k) es) k
    argument : {f : Callee} {es : List TExpr} {k : ℕ} → AnyUses es k → Uses (TNode-F.Call f es) k
    paren : {e : TExpr} {k : ℕ} → Uses (out-TNode e.node) k → Uses (TNode-F.Paren e) k
    unary : {o : UnaryOperator} {e : TExpr} {k : ℕ} → Uses (out-TNode e.node) k → Uses (TNode-F.Unary o e) k
    first : {o : BinaryOperator} {a b : TExpr} {k : ℕ} → Uses (out-TNode a.node) k → Uses (TNode-F.Binary o a b) k
    second : {o : BinaryOperator} {a b : TExpr} {k : ℕ} → Uses (out-TNode b.node) k → Uses (TNode-F.Binary o a b) k
    target : {o : Option AssignOperator} {a b : TExpr} {k : ℕ} → Uses (out-TNode a.node) k → Uses (TNode-F.Assign o a b) k
    source : {o : Option AssignOperator} {a b : TExpr} {k : ℕ} → Uses (out-TNode b.node) k → Uses (TNode-F.Assign o a b) k
    condition : {c a b : TExpr} {k : ℕ} → Uses (out-TNode c.node) k → Uses (TNode-F.Cond c a b) k
    first_arm : {c a b : TExpr} {k : ℕ} → Uses (out-TNode a.node) k → Uses (TNode-F.Cond c a b) k
    second_arm : {c a b : TExpr} {k : ℕ} → Uses (out-TNode b.node) k → Uses (TNode-F.Cond c a b) k
    cast : {t : Ty} {e : TExpr} {k : ℕ} → Uses (out-TNode e.node) k → Uses (TNode-F.Cast t e) k
    array : {a i : TExpr} {k : ℕ} → Uses (out-TNode a.node) k → Uses (TNode-F.Index a i) k
    index : {a i : TExpr} {k : ℕ} → Uses (out-TNode i.node) k → Uses (TNode-F.Index a i) k
    member : {e : TExpr} {m k : ℕ} → Uses (out-TNode e.node) k → Uses (TNode-F.Member e m) k
    arrow : {e : TExpr} {m k : ℕ} → Uses (out-TNode e.node) k → Uses (TNode-F.Arrow e m) k
    step : {o : Step} {e : TExpr} {k : ℕ} → Uses (out-TNode e.node) k → Uses (TNode-F.Step o e) k
    read : {e : TExpr} {k : ℕ} → Uses (out-TNode e.node) k → Uses (TNode-F.Read e) k
    decay : {e : TExpr} {k : ℕ} → Uses (out-TNode e.node) k → Uses (TNode-F.Decay e) k
    convert : {e : TExpr} {k : ℕ} → Uses (out-TNode e.node) k → Uses (TNode-F.Convert e) k

  -- one of some expressions does
  pub data AnyUses : List TExpr → ℕ → Type 0 where
    here : {e : TExpr} {es : List TExpr} {k : ℕ} → Uses (out-TNode e.node) k → AnyUses (e ∷ es) k
    there : {e : TExpr} {es : List TExpr} {k : ℕ} → AnyUses es k → AnyUses (e ∷ es) k

abbrev pub ExprUses : TExpr → ℕ → Type 0
ExprUses e k = Uses (out-TNode e.node) k

mutual
  pub data InitUses : TInit-F TInit → ℕ → Type 0 where
    one : {e : TExpr} {k : ℕ} → ExprUses e k → InitUses (TInit-F.One e) k
    list : {is : List TInit} {span : Span} {k : ℕ} → AnyInitUses is k → InitUses (TInit-F.List is span) k

  pub data AnyInitUses : List TInit → ℕ → Type 0 where
    here : {i : TInit} {is : List TInit} {k : ℕ} → InitUses (out-TInit i) k → AnyInitUses (i ∷ is) k
    there : {i : TInit} {is : List TInit} {k : ℕ} → AnyInitUses is k → AnyInitUses (i ∷ is) k

-- what may be left out, where it is there
abbrev pub MayUse : {A : Type 0} → (A → ℕ → Type 0) → Option A → ℕ → Type 0
MayUse P None k = ⊥
MayUse P (Some a) k = P a k

abbrev pub DeclUses : TDecl → ℕ → Type 0
DeclUses d k = MayUse (λ i k. InitUses (out-TInit i) k) d.init k

pub data AnyDeclUses : List TDecl → ℕ → Type 0 where
  here : {d : TDecl} {ds : List TDecl} {k : ℕ} → DeclUses d k → AnyDeclUses (d ∷ ds) k
  there : {d : TDecl} {ds : List TDecl} {k : ℕ} → AnyDeclUses ds k → AnyDeclUses (d ∷ ds) k

mutual
  pub data StmtUses : StmtLayer → ℕ → Type 0 where
    block : {is : List TItem} {k : ℕ} → AnyItemUses is k → StmtUses (TStmt-F.Block is) k
    expression : {e : TExpr} {k : ℕ} → ExprUses e k → StmtUses (TStmt-F.Expr e) k
    if_condition : {e : TExpr} {t : TStmt} {o : Option TStmt} {k : ℕ} → ExprUses e k → StmtUses (TStmt-F.If e t o) k
    if_first : {e : TExpr} {t : TStmt} {o : Option TStmt} {k : ℕ} → StmtUses (out-TStmt t) k → StmtUses (TStmt-F.If e t o) k
    if_second : {e : TExpr} {t o : TStmt} {k : ℕ} → StmtUses (out-TStmt o) k → StmtUses (TStmt-F.If e t (Some o)) k
    while_condition : {e : TExpr} {t : TStmt} {k : ℕ} → ExprUses e k → StmtUses (TStmt-F.While e t) k
    while_body : {e : TExpr} {t : TStmt} {k : ℕ} → StmtUses (out-TStmt t) k → StmtUses (TStmt-F.While e t) k
    do_condition : {e : TExpr} {t : TStmt} {k : ℕ} → ExprUses e k → StmtUses (TStmt-F.DoWhile t e) k
    do_body : {e : TExpr} {t : TStmt} {k : ℕ} → StmtUses (out-TStmt t) k → StmtUses (TStmt-F.DoWhile t e) k
    for_declared : {ds : List TDecl} {a c n : Option TExpr} {t : TStmt} {k : ℕ} → AnyDeclUses ds k → StmtUses (TStmt-F.For ds a c n t) k
    for_first : {ds : List TDecl} {a c n : Option TExpr} {t : TStmt} {k : ℕ} → MayUse ExprUses a k → StmtUses (TStmt-F.For ds a c n t) k
    for_condition : {ds : List TDecl} {a c n : Option TExpr} {t : TStmt} {k : ℕ} → MayUse ExprUses c k →
        StmtUses (TStmt-F.For ds a c n t) k
    for_next : {ds : List TDecl} {a c n : Option TExpr} {t : TStmt} {k : ℕ} → MayUse ExprUses n k → StmtUses (TStmt-F.For ds a c n t) k
    for_body : {ds : List TDecl} {a c n : Option TExpr} {t : TStmt} {k : ℕ} → StmtUses (out-TStmt t) k →
        StmtUses (TStmt-F.For ds a c n t) k
    return : {e : TExpr} {span : Span} {k : ℕ} → ExprUses e k → StmtUses (TStmt-F.Return (Some e) span) k

  pub data ItemUses : ItemLayer → ℕ → Type 0 where
    declarations : {ds : List TDecl} {k : ℕ} → AnyDeclUses ds k → ItemUses (TItem-F.Local ds) k
    statement : {t : TStmt} {k : ℕ} → StmtUses (out-TStmt t) k → ItemUses (TItem-F.Stmt t) k

  pub data AnyItemUses : List TItem → ℕ → Type 0 where
    here : {i : TItem} {is : List TItem} {k : ℕ} → ItemUses (out-TItem i) k → AnyItemUses (i ∷ is) k
    there : {i : TItem} {is : List TItem} {k : ℕ} → AnyItemUses is k → AnyItemUses (i ∷ is) k
