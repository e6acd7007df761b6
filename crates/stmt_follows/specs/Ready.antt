-- Statements whose expressions are ready, and whose initialisers are those of scalars (this project's own).
use Rattle.std.specs.Prelude.{◌≡◌, ℕ, true, List, [], ◌∷◌, slice_get, Option, Some, None}
use Rattle.block_meaning.specs.ExpressionsInOrder.{Scope}
use Rattle.block_meaning.specs.Running.{Context}
use Rattle.block_meaning.specs.Expressions.{parts_at}
use Rattle.block_meaning.specs.Locals.{declarations}
use Rattle.block_meaning.specs.Statements.{StmtLayer, ItemLayer}
use Rattle.block_meaning.specs.StatementsInOrder.{DeclarationInOrder}
use Rattle.c_ast.specs.declared.token.Span.{Span}
use Rattle.c_type_base.specs.Types.{is_scalar}
use Rattle.c_type_base.specs.declared.expr.TExpr.{TExpr}
use Rattle.c_type_base.specs.declared.statement.TDecl.{TDecl}
use Rattle.c_type_base.specs.declared.statement.TInit.{TInit, out-TInit}
use Rattle.c_type_base.specs.declared.statement.TInit.TheOpen.{TInit-F}
use Rattle.c_type_base.specs.declared.statement.TItem.{TItem, out-TItem}
use Rattle.c_type_base.specs.declared.statement.TItem.TheOpen.{TItem-F, TStmt-F}
use Rattle.c_type_base.specs.declared.statement.TStmt.{TStmt, out-TStmt}
use Rattle.c_type_base.specs.declared.typed.LocalInfo.{LocalInfo}
use Rattle.c_type_base.specs.declared.typed.TFunction.{TFunction}
use Rattle.code_follows.specs.Scene.{Scene, calls_in, structs_in, frame_in}
use Rattle.frame_layout.specs.declared.frame.Frame.{Frame}
use Rattle.gen_stmt.specs.Statements.{declarations as declarations_code}
use Rattle.std.specs.List.{All}
use Rattle.stmt_follows.specs.Expressions.{IsReady, moved, IsPlace}
use Rattle.stmt_follows.specs.Parts.{DeclsPart}

abbrev pub MaybeReady : Frame → Option TExpr → Type 0
MaybeReady f None = Unit {0}
MaybeReady f (Some e) = IsReady f e

-- ---- declarations, in a function

abbrev pub ReadyInit : Frame → TInit-F TInit → Type 0
ReadyInit f (TInit-F.One e) = IsReady f e
ReadyInit f (TInit-F.List is span) = ⊥

abbrev pub MaybeReadyInit : Frame → TFunction → ℕ → Option TInit → Type 0
MaybeReadyInit f function k None = Unit {0}
MaybeReadyInit f function k (Some i) =
    ((info : LocalInfo) → slice_get function.locals k ≡ Some info → is_scalar info.ty ≡ true) × ReadyInit f (out-TInit i)

abbrev pub ReadyDecls : Frame → TFunction → List TDecl → Type 0
ReadyDecls f function [] = Unit {0}
ReadyDecls f function (d ∷ ds) = MaybeReadyInit f function d.local d.init × ReadyDecls f function ds

-- the code of declarations that are ready does what they mean, wherever they stand in the function
pub record DeclarationsFollow (k : Scene) : Type 0 where
  pub follows : (scope : Scope) (here : Context) (depth : ℕ) (ds : List TDecl) → IsPlace (moved k scope here) →
      All (DeclarationInOrder scope) ds → ReadyDecls (frame_in k) scope.function ds →
      DeclsPart (moved k scope here) (declarations_code (structs_in k) (frame_in k) ds)
      (declarations here (parts_at (calls_in k) here depth) depth ds)

-- ---- statements

mutual
  pub data Ready (f : Frame) (function : TFunction) : StmtLayer → Type 0 where
    block : {is : List TItem} → ReadyItems f function is → Ready f function (TStmt-F.Block is)
    expression : {e : TExpr} → IsReady f e → Ready f function (TStmt-F.Expr e)
    empty : Ready f function TStmt-F.Empty
    if_alone : {e : TExpr} {st : TStmt} → IsReady f e → Ready f function (out-TStmt st) → Ready f function (TStmt-F.If e st None)
    if_else : {e : TExpr} {st other : TStmt} → IsReady f e → Ready f function (out-TStmt st) → Ready f function (out-TStmt other) →
        Ready f function (TStmt-F.If e st (Some other))
    while : {e : TExpr} {st : TStmt} → IsReady f e → Ready f function (out-TStmt st) → Ready f function (TStmt-F.While e st)
    do_while : {e : TExpr} {st : TStmt} → Ready f function (out-TStmt st) → IsReady f e → Ready f function (TStmt-F.DoWhile st e)
    for : {ds : List TDecl} {first condition next : Option TExpr} {st : TStmt} → ReadyDecls f function ds → MaybeReady f first →
        MaybeReady f condition → MaybeReady f next → Ready f function (out-TStmt st) →
        Ready f function (TStmt-F.For ds first condition next st)
    return : {e : Option TExpr} {span : Span} → MaybeReady f e → Ready f function (TStmt-F.Return e span)
    break : {span : Span} → Ready f function (TStmt-F.Break span)
    continue : {span : Span} → Ready f function (TStmt-F.Continue span)

  pub data ReadyItem (f : Frame) (function : TFunction) : ItemLayer → Type 0 where
    declared : {ds : List TDecl} → ReadyDecls f function ds → ReadyItem f function (TItem-F.Local ds)
    statement : {st : TStmt} → Ready f function (out-TStmt st) → ReadyItem f function (TItem-F.Stmt st)

  pub data ReadyItems (f : Frame) (function : TFunction) : List TItem → Type 0 where
    no_item : ReadyItems f function []
    item : {i : TItem} {is : List TItem} → ReadyItem f function (out-TItem i) → ReadyItems f function is → ReadyItems f function (i ∷ is)
