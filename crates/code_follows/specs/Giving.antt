-- What runs give (this project's own).
use Rattle.std.specs.Prelude.{◌≡◌, true, List, [], ◌∷◌, Option, Some, None}
use Rattle.c_ast.specs.declared.token.Span.{Span}
use Rattle.c_type_base.specs.declared.expr.TExpr.{TExpr}
use Rattle.c_type_base.specs.declared.statement.TDecl.{TDecl}
use Rattle.c_type_base.specs.declared.statement.TItem.{TItem, out-TItem}
use Rattle.c_type_base.specs.declared.statement.TItem.TheOpen.{TItem-F, TStmt-F}
use Rattle.c_type_base.specs.declared.statement.TStmt.{TStmt, out-TStmt}
use Rattle.c_type_base.specs.declared.typed.StructInfo.{StructInfo}
use Rattle.c_type_base.specs.declared.typed.TFunction.{TFunction}
use Rattle.block_meaning.specs.Linkage.{structs_of, function_named}
use Rattle.block_meaning.specs.Running.{Function, Program, Run, State as MeaningState}
use Rattle.block_meaning.specs.Statements.{StmtLayer, ItemLayer}
use Rattle.code_follows.specs.Covered.{covered}
use Rattle.code_follows.specs.Later.{AreBytes, Ran}

-- where the input are bytes, a run that completes gives a value of which something holds, and leaves bytes
pub record Gives {A : Type 0} (m : Run A) (P : A → Type 0) : Type 0 where
  pub gives : (now later : MeaningState) (a : A) → AreBytes now.input → Ran m now a later → P a × AreBytes later.input

-- ---- what a function returns

mutual
  -- the expressions that a statement returns are covered
  pub data Returns : StmtLayer → Type 0 where
    block : {is : List TItem} → ItemsReturn is → Returns (TStmt-F.Block is)
    expression : {e : TExpr} → Returns (TStmt-F.Expr e)
    empty : Returns TStmt-F.Empty
    if_alone : {e : TExpr} {st : TStmt} → Returns (out-TStmt st) → Returns (TStmt-F.If e st None)
    if_else : {e : TExpr} {st other : TStmt} → Returns (out-TStmt st) → Returns (out-TStmt other) →
        Returns (TStmt-F.If e st (Some other))
    while : {e : TExpr} {st : TStmt} → Returns (out-TStmt st) → Returns (TStmt-F.While e st)
    do_while : {e : TExpr} {st : TStmt} → Returns (out-TStmt st) → Returns (TStmt-F.DoWhile st e)
    for : {ds : List TDecl} {first condition next : Option TExpr} {st : TStmt} → Returns (out-TStmt st) →
        Returns (TStmt-F.For ds first condition next st)
    return : {span : Span} → Returns (TStmt-F.Return None span)
    return_value : {e : TExpr} {span : Span} → covered e ≡ true → Returns (TStmt-F.Return (Some e) span)
    break : {span : Span} → Returns (TStmt-F.Break span)
    continue : {span : Span} → Returns (TStmt-F.Continue span)

  pub data ItemReturns : ItemLayer → Type 0 where
    declarations : {ds : List TDecl} → ItemReturns (TItem-F.Local ds)
    statement : {st : TStmt} → Returns (out-TStmt st) → ItemReturns (TItem-F.Stmt st)

  pub data ItemsReturn : List TItem → Type 0 where
    no_item : ItemsReturn []
    item : {i : TItem} {is : List TItem} → ItemReturns (out-TItem i) → ItemsReturn is → ItemsReturn (i ∷ is)

-- so it is in each function of a program
pub record ReturnsCovered (p : Program) : Type 0 where
  pub returns : (f : Function) (g : TFunction) → function_named p.units f ≡ Some g → Returns (out-TStmt g.body)
