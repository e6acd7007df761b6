-- The code of each statement that is ready does what it means, where that of its expressions and declarations does, in a function without
-- tagged slots (this project's own). By the number of levels, and the derivation that the statement is in order.
use Rattle.std.specs.Prelude.{◌≡◌, ℕ, zero, suc, ◌++◌, List, [], ◌∷◌, map, Option, Some, None, IfSome, refl}
use Rattle.std.specs.List.{All}
use Rattle.std.proofs.Common.{sym, subst}
use Rattle.block_meaning.specs.Expressions.{ExprParts, parts_at}
use Rattle.block_meaning.specs.ExpressionsInOrder.{Scope, within, ValueInOrder, ConditionInOrder}
use Rattle.block_meaning.specs.Locals.{declarations}
use Rattle.block_meaning.specs.Running.{Context, Run, and_then}
use Rattle.block_meaning.specs.Statements.{StmtLayer, ItemLayer, StmtParts, Flow, local_of, item_node, stmt_node, statements_at}
use Rattle.block_meaning.specs.Statements.{effect, loop, for_turn}
use Rattle.block_meaning.specs.Statements.{declared as declared_in, items as items_run}
use Rattle.block_meaning.specs.StatementsInOrder as order
use Rattle.block_meaning.specs.StatementsInOrder.{DeclarationInOrder, StatementInOrder, ItemInOrder, Items}
use Rattle.c_type_base.specs.declared.expr.TExpr.{TExpr}
use Rattle.c_type_base.specs.declared.statement.TDecl.{TDecl}
use Rattle.c_type_base.specs.declared.statement.TItem.{TItem, out-TItem}
use Rattle.c_type_base.specs.declared.statement.TItem.TheOpen.{TItem-F, TStmt-F}
use Rattle.c_type_base.specs.declared.statement.TStmt.{TStmt, out-TStmt}
use Rattle.code_follows.specs.Nodes.{Nodes}
use Rattle.code_follows.specs.Scene.{Scene, IsScene, calls_in, structs_in, frame_in}
use Rattle.code_follows.specs.Laws.Whole.{all_below as expressions_below}
use Rattle.code_relation.specs.Fresh as fresh
use Rattle.code_relation.specs.Fresh.{Fresh, FreshItem, FreshItems}
use Rattle.gen_base.specs.Code.{in_turn}
use Rattle.gen_stmt.specs.Loops.{Emits, for_code}
use Rattle.gen_stmt.specs.Statements.{scope, items, statement_code, coded_item, maybe_value}
use Rattle.gen_stmt.specs.Statements.{condition as condition_code}
use Rattle.gen_stmt.specs.Statements.{declarations as declarations_code}
use Rattle.stmt_follows.specs.Expressions.{ValueRuns, MaybeRuns, MaybeTells, IsReady, moved, ExpressionsFollow, IsPlace}
use Rattle.stmt_follows.specs.Parts.{DeclsPart, StmtPart}
use Rattle.stmt_follows.specs.Ready as ready
use Rattle.stmt_follows.specs.Ready.{MaybeReady, ReadyDecls, DeclarationsFollow, Ready, ReadyItem, ReadyItems}
use Rattle.stmt_follows.specs.Laws.Conditions.{ValueRuns-follows}
use Rattle.stmt_follows.specs.Laws.Flowing.{StmtPart-stuck}
use Rattle.stmt_follows.specs.Laws.Layers.{layer_code, layer_item, statement-is, item-is, declared-is}
use Rattle.stmt_follows.specs.Laws.Statements.Declared.{declarations_part, heading_follows}
use Rattle.stmt_follows.specs.Laws.Statements.DoWhile.{do_follows}
use Rattle.stmt_follows.specs.Laws.Statements.For.{for_loop_follows}
use Rattle.stmt_follows.specs.Laws.Statements.If.{if_follows}
use Rattle.stmt_follows.specs.Laws.Statements.IfElse.{if_else_follows}
use Rattle.stmt_follows.specs.Laws.Statements.Items.{AllFlow, no_part, part, items_follow}
use Rattle.stmt_follows.specs.Laws.Statements.Jumps.{break_follows, continue_follows}
use Rattle.stmt_follows.specs.Laws.Statements.Return.{return_follows, return_value_follows}
use Rattle.stmt_follows.specs.Laws.Statements.Scope.{scoped_follows}
use Rattle.stmt_follows.specs.Laws.Statements.Simple.{expression_follows, empty_follows}
use Rattle.stmt_follows.specs.Laws.Statements.While.{while_follows}

-- what is shown with so many levels below, in each scope and context of a function
pub record Below (k : Scene) (depth : ℕ) : Type 1 where
  pub statement : (s : Scope) (here : Context) → s.function ≡ k.scope.function → IsPlace (moved k s here) → (st : TStmt) →
      StatementInOrder s (out-TStmt st) → Fresh s.locals (out-TStmt st) → Ready (frame_in k) k.scope.function (out-TStmt st) →
      StmtPart (moved k s here) (statement_code (structs_in k) (frame_in k) st) ((statements_at (calls_in k) depth).run here st)

-- ---- expressions of statements

expr_is : (k : Scene) (depth : ℕ) (here : Context) → (statements_at (calls_in k) depth).expr here ≡ parts_at (calls_in k) here depth
expr_is k zero here = refl
expr_is k (suc depth) here = refl

bound_is : (k : Scene) (depth : ℕ) → (statements_at (calls_in k) depth).bound ≡ depth
bound_is k zero = refl
bound_is k (suc depth) = refl

module _ {k : Scene} {depth : ℕ} (expressions : ExpressionsFollow k) (declaring : DeclarationsFollow k) (below : Below k depth) where
  abbrev parts : StmtParts
  parts = statements_at (calls_in k) depth

  module _ (s : Scope) (here : Context) (place : IsPlace (moved k s here)) where
    runs : (e : TExpr) → ValueInOrder s e → IsReady (frame_in k) e → ValueRuns (moved k s here) (parts.expr here) e
    runs e ordered is =
        subst (λ (p : ExprParts). ValueRuns (moved k s here) p e) (sym (expr_is k depth here))
        (ValueRuns-follows is (expressions.follows s here depth e place.scene ordered is.covered_is))

    maybe_runs : (e : Option TExpr) → IfSome e (ValueInOrder s) → MaybeReady (frame_in k) e →
        MaybeRuns (moved k s here) (parts.expr here) e
    maybe_runs None ordered is = tt
    maybe_runs (Some e) ordered is = runs e ordered is

    maybe_tells : (e : Option TExpr) → IfSome e (ConditionInOrder s) → MaybeReady (frame_in k) e →
        MaybeTells (moved k s here) (parts.expr here) e
    maybe_tells None ordered is = tt
    maybe_tells (Some e) ordered is = (runs e ordered.value is, ordered.scalar)

    declares : (ds : List TDecl) → s.function ≡ k.scope.function → All (DeclarationInOrder s) ds →
        ReadyDecls (frame_in k) k.scope.function ds → DeclsPart (moved k s here) (declarations_code (structs_in k) (frame_in k) ds)
        (declarations here (parts.expr here) parts.bound ds)
    declares ds function_is ordered is =
        subst (λ (p : ExprParts). DeclsPart (moved k s here) (declarations_code (structs_in k) (frame_in k) ds)
        (declarations here p parts.bound ds)) (sym (expr_is k depth here))
        (subst (λ (n : ℕ). DeclsPart (moved k s here) (declarations_code (structs_in k) (frame_in k) ds)
        (declarations here (parts_at (calls_in k) here depth) n ds)) (sym (bound_is k depth))
        (declaring.follows s here depth ds place ordered
        (subst (λ f. ReadyDecls (frame_in k) f ds) (sym function_is) is)))

    -- ---- parts of a block

    item_follows : s.function ≡ k.scope.function → (l : ItemLayer) → ItemInOrder s l → FreshItem s.locals l →
        ReadyItem (frame_in k) k.scope.function l →
        StmtPart (moved k s here) (layer_item (structs_in k) (frame_in k) l).code (item_node parts here l)
    item_follows function_is (TItem-F.Local ds) (order.declarations ordered) new (ready.declared is) =
        declarations_part place.scene (declares ds function_is ordered is)
    item_follows function_is (TItem-F.Stmt st) (order.statement ordered) (fresh.statement new) (ready.statement is) =
        below.statement s here function_is place st ordered new is

    all_follow : s.function ≡ k.scope.function → (is : List TItem) → Items s is → FreshItems s.locals is →
        ReadyItems (frame_in k) k.scope.function is →
        AllFlow (moved k s here) (map (coded_item (structs_in k) (frame_in k)) is) (map (λ i. item_node parts here (out-TItem i)) is)
    all_follow function_is [] ordered new is = no_part
    all_follow function_is (i ∷ more) (order.item first rest) (fresh.item new others) (ready.item is all) =
        part
        (subst (λ c. StmtPart (moved k s here) c.code (item_node parts here (out-TItem i))) (sym (item-is (structs_in k) (frame_in k) i))
        (item_follows function_is (out-TItem i) first new is))
        (all_follow function_is more rest others all)

    pub parts_follow : s.function ≡ k.scope.function → (is : List TItem) → Items s is → FreshItems s.locals is →
        ReadyItems (frame_in k) k.scope.function is →
        StmtPart (moved k s here) (items (map (coded_item (structs_in k) (frame_in k)) is)) (items_run parts here is)
    parts_follow function_is is ordered new all = items_follow place.scene (all_follow function_is is ordered new all)

  -- ---- statements

  block_follows : (s : Scope) (here : Context) → IsPlace (moved k s here) → s.function ≡ k.scope.function → (is : List TItem) →
      Items (within s (declared_in is)) is → fresh.AreNew s.locals (declared_in is) → FreshItems (declared_in is ++ s.locals) is →
      ReadyItems (frame_in k) k.scope.function is →
      StmtPart (moved k s here) (layer_code (structs_in k) (frame_in k) (TStmt-F.Block is)) (stmt_node parts here (TStmt-F.Block is))
  block_follows s here place function_is is ordered new others all =
      let codes = map (coded_item (structs_in k) (frame_in k)) is in
      subst (λ ks. StmtPart (moved k s here) (scope (frame_in k) ks (items codes)) (stmt_node parts here (TStmt-F.Block is)))
      (sym (declared-is (structs_in k) (frame_in k) is))
      (scoped_follows place (declared_in is) new (items codes) (λ inner. items_run parts inner is)
      (record { part = λ inner inside. parts_follow (within s (declared_in is)) inner inside function_is is ordered others all }))

  -- what stands in the scope of a `for`
  heading_code : List TDecl → Option TExpr → Option TExpr → Option TExpr → TStmt → Emits
  heading_code ds first c next st = λ around. in_turn (declarations_code (structs_in k) (frame_in k) ds ∷
      maybe_value (structs_in k) (frame_in k) first ∷ for_code (condition_code (structs_in k) (frame_in k) c)
      (maybe_value (structs_in k) (frame_in k) next) (statement_code (structs_in k) (frame_in k) st) ∷ [])

  heading_run : List TDecl → Option TExpr → Option TExpr → Option TExpr → TStmt → Context → Run Flow
  heading_run ds first c next st inner = and_then (declarations inner (parts.expr inner) parts.bound ds) (λ x.
      and_then (effect parts inner first) (λ y.
      loop parts.bound (for_turn parts inner (record { declared = ds; first = first; condition = c; next = next }) st)))

  for_body : (ds : List TDecl) (first c next : Option TExpr) (st : TStmt) (scope : Scope) (inner : Context) →
      IsPlace (moved k scope inner) → scope.function ≡ k.scope.function → Fresh scope.locals (out-TStmt st) →
      IfSome first (ValueInOrder scope) → IfSome c (ConditionInOrder scope) → IfSome next (ValueInOrder scope) →
      All (DeclarationInOrder scope) ds → StatementInOrder scope (out-TStmt st) → ReadyDecls (frame_in k) k.scope.function ds →
      MaybeReady (frame_in k) first → MaybeReady (frame_in k) c → MaybeReady (frame_in k) next →
      Ready (frame_in k) k.scope.function (out-TStmt st) →
      StmtPart (moved k scope inner) (heading_code ds first c next st) (heading_run ds first c next st inner)
  unfolding heading_code heading_run
  for_body ds first c next st scope inner inside function_is others begins condition steps declares_all body decls one two three is =
      heading_follows inside.scene parts (declares scope inner inside ds function_is declares_all decls) first
      (maybe_runs scope inner inside first begins one)
      (for_loop_follows inside.scene parts (record { declared = ds; first = first; condition = c; next = next }) st
      (statement_code (structs_in k) (frame_in k) st)
      (maybe_tells scope inner inside c condition two) (maybe_runs scope inner inside next steps three)
      (below.statement scope inner function_is inside st body others is))

  for_follows : (s : Scope) (here : Context) → IsPlace (moved k s here) → s.function ≡ k.scope.function → (ds : List TDecl)
      (first c next : Option TExpr) (st : TStmt) → fresh.AreNew s.locals (map local_of ds) →
      Fresh (map local_of ds ++ s.locals) (out-TStmt st) → IfSome first (ValueInOrder (within s (map local_of ds))) →
      IfSome c (ConditionInOrder (within s (map local_of ds))) → IfSome next (ValueInOrder (within s (map local_of ds))) →
      All (DeclarationInOrder (within s (map local_of ds))) ds → StatementInOrder (within s (map local_of ds)) (out-TStmt st) →
      ReadyDecls (frame_in k) k.scope.function ds → MaybeReady (frame_in k) first → MaybeReady (frame_in k) c →
      MaybeReady (frame_in k) next → Ready (frame_in k) k.scope.function (out-TStmt st) →
      StmtPart (moved k s here) (layer_code (structs_in k) (frame_in k) (TStmt-F.For ds first c next st))
      (stmt_node parts here (TStmt-F.For ds first c next st))
  unfolding heading_code heading_run
  for_follows s here place function_is ds first c next st new others begins condition steps declares_all body decls one two three is =
      scoped_follows place (map local_of ds) new (heading_code ds first c next st) (heading_run ds first c next st) (record {
        part = λ inner inside. for_body ds first c next st (within s (map local_of ds)) inner inside function_is others begins condition
            steps declares_all body decls one two three is;
      })

  statement_by : (s : Scope) (here : Context) → IsPlace (moved k s here) → s.function ≡ k.scope.function → (l : StmtLayer) →
      StatementInOrder s l → Fresh s.locals l → Ready (frame_in k) k.scope.function l →
      StmtPart (moved k s here) (layer_code (structs_in k) (frame_in k) l) (stmt_node parts here l)
  statement_by s here place function_is (TStmt-F.Block is) (order.block ordered) (fresh.block new others) (ready.block all) =
      block_follows s here place function_is is ordered new others all
  statement_by s here place function_is (TStmt-F.Expr e) (order.expression ordered) new (ready.expression is) =
      expression_follows place.scene parts e (runs s here place e ordered is)
  statement_by s here place function_is TStmt-F.Empty ordered new is = empty_follows parts
  statement_by s here place function_is (TStmt-F.If e st None) (order.if_alone condition first) (fresh.if_alone new)
      (ready.if_alone is one) =
      if_follows place.scene parts e st (statement_code (structs_in k) (frame_in k) st)
      (runs s here place e condition.value is) condition.scalar
      (below.statement s here function_is place st first new one)
  statement_by s here place function_is (TStmt-F.If e st (Some other)) (order.if_else condition first second) (fresh.if_else new others)
      (ready.if_else is one two) =
      if_else_follows place.scene parts e st other (statement_code (structs_in k) (frame_in k) st)
      (statement_code (structs_in k) (frame_in k) other) (runs s here place e condition.value is) condition.scalar
      (below.statement s here function_is place st first new one) (below.statement s here function_is place other second others two)
  statement_by s here place function_is (TStmt-F.While e st) (order.while condition body) (fresh.while new) (ready.while is one) =
      while_follows place.scene parts e st (statement_code (structs_in k) (frame_in k) st)
      (runs s here place e condition.value is) condition.scalar
      (below.statement s here function_is place st body new one)
  statement_by s here place function_is (TStmt-F.DoWhile st e) (order.do_while body condition) (fresh.do_while new)
      (ready.do_while one is) =
      do_follows place.scene parts e st (statement_code (structs_in k) (frame_in k) st)
      (runs s here place e condition.value is) condition.scalar
      (below.statement s here function_is place st body new one)
  statement_by s here place function_is (TStmt-F.For ds first c next st) (order.for declares_all begins condition steps body)
      (fresh.for new others) (ready.for decls one two three is) =
      for_follows s here place function_is ds first c next st new others begins condition steps declares_all body decls one two three is
  statement_by s here place function_is (TStmt-F.Return None span) ordered new is = return_follows place.scene parts span
  statement_by s here place function_is (TStmt-F.Return (Some e) span) (order.return_value ordered type_is) new (ready.return is) =
      return_value_follows place.scene parts e span (runs s here place e ordered is)
  statement_by s here place function_is (TStmt-F.Break span) ordered new is = break_follows place.safe parts span
  statement_by s here place function_is (TStmt-F.Continue span) ordered new is = continue_follows place.safe parts span

  one_more : Below k (suc depth)
  unfolding out-TStmt
  one_more = record {
    statement = λ s here function_is place st ordered new is.
        subst (λ code. StmtPart (moved k s here) code ((statements_at (calls_in k) (suc depth)).run here st))
        (sym (statement-is (structs_in k) (frame_in k) st)) (statement_by s here place function_is (out-TStmt st) ordered new is);
  }

-- ---- all levels

pub all_below : {k : Scene} → ExpressionsFollow k → DeclarationsFollow k → (depth : ℕ) → Below k depth
all_below expressions declaring zero = record { statement = λ s here function_is place st ordered new is. StmtPart-stuck }
all_below expressions declaring (suc depth) = one_more expressions declaring (all_below expressions declaring depth)

-- and the parts of a block, whose locals are in scope
pub items_below : {k : Scene} (expressions : ExpressionsFollow k) (declaring : DeclarationsFollow k) (depth : ℕ) (s : Scope)
    (here : Context) → s.function ≡ k.scope.function → IsPlace (moved k s here) → (is : List TItem) → Items s is →
    FreshItems s.locals is → ReadyItems (frame_in k) k.scope.function is →
    StmtPart (moved k s here) (items (map (coded_item (structs_in k) (frame_in k)) is))
    (items_run (statements_at (calls_in k) depth) here is)
items_below expressions declaring depth s here function_is place is ordered new all =
    parts_follow expressions declaring (all_below expressions declaring depth) s here place function_is is ordered new all

-- Where the nodes of expressions follow in each scope and context, so do expressions.
pub expressions_follow : {k : Scene} → ((s : Scope) (here : Context) → IsScene (moved k s here) → Nodes (moved k s here)) →
    ExpressionsFollow k
expressions_follow nodes = record {
  follows = λ s here depth e scene ordered is. (expressions_below (nodes s here scene) depth).value e ordered is;
}
