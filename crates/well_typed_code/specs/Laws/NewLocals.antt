-- The checker numbers the locals of a function one after another, as they are declared. So those of each scope are new in it.
use Rattle.std.specs.Prelude.{◌≡◌, ℕ, ◌≤◌, ◌<◌, List, [], ◌∷◌, ◌++◌, map, Some, None}
use Rattle.std.specs.List.{Contains}
use Rattle.std.proofs.Common.{◌⊎◌, inl, inr, arith, sym, subst}
use Rattle.std.proofs.lemmas.List.Elements.{Contains-append_cases}
use Rattle.c_ast.specs.Tree.{StmtLayer, ItemLayer}
use Rattle.c_ast.specs.declared.token.Span.{Span}
use Rattle.c_ast.specs.declared.declaration.Decl.{Decl}
use Rattle.c_ast.specs.declared.statement.Stmt.{Stmt, roll-Stmt, map-Stmt}
use Rattle.c_ast.specs.declared.statement.Stmt.TheVariants as stmt
use Rattle.c_ast.specs.declared.statement.Item.{Item, roll-Item, map-Item}
use Rattle.c_ast.specs.declared.statement.Item.TheOpen.{Item-F, Stmt-F}
use Rattle.c_ast.specs.declared.statement.Item.TheFolds.{ind-Item, fold-roll-Item, fold-roll-Stmt}
use Rattle.c_type_base.specs.Laws.Opened.{given_typed}
use Rattle.c_type_base.specs.declared.statement.TItem.{TItem, out-TItem, roll-TItem, out-roll-TItem}
use Rattle.c_type_base.specs.declared.statement.TItem.TheVariants as titem
use Rattle.c_type_base.specs.declared.statement.TItem.TheOpen.{TItem-F, TStmt-F}
use Rattle.c_type_base.specs.declared.statement.TStmt.{TStmt, out-TStmt, out-roll-TStmt}
use Rattle.c_type_base.specs.declared.statement.TStmt.TheVariants as tstmt
use Rattle.c_type_expr.specs.Outcomes.{Judged, sure, each, perhaps}
use Rattle.c_type_stmt.specs.Declarations.{local}
use Rattle.c_type_stmt.specs.Statements.{StmtSaid, block}
use Rattle.c_type_stmt.specs.Statements.{stmt_step, item_step, statement}
use Rattle.c_type_stmt.specs.Laws.SaidLaws.{item_judged, said-block}
use Rattle.block_meaning.specs.Statements as meaning
use Rattle.block_meaning.specs.Statements.{local_of, declared_by, declared}
use Rattle.code_relation.specs.Fresh.{AreNew, Fresh, FreshItem, FreshItems}
use Rattle.code_relation.specs.Fresh as fresh
use Rattle.well_typed_code.specs.Laws.Rising.{Rising, Rising-ordered, Rising-wider, Rising-append, Rising-within}
use Rattle.well_typed_code.specs.Laws.Counted.{Counted, Rows, AllCounted}
use Rattle.well_typed_code.specs.Laws.Counted.{none, some, Counted-each, Counted-made, Counted-none, Counted-some}
use Rattle.well_typed_code.specs.Laws.NewScopes.{Only, NewStmt, NewItem, NewItems, StmtIn, ItemIn, avoids-wider, locals-counted}
use Rattle.well_typed_code.specs.Laws.NewStatements.{made, expression_counted, if_counted, while_counted, do_counted, return_counted}
use Rattle.well_typed_code.specs.Laws.NewStatements.{sure_counted, scoped-counted, block_new, for_counted}

-- ---- items

rolled_item : {from to : ℕ} (l : meaning.ItemLayer) → NewItem from to l → ItemIn from to (roll-TItem l)
rolled_item {from} {to} l is = subst (NewItem from to) (sym (out-roll-TItem l)) is

local_item : (ds : List Decl) → Counted ItemIn (item_step (Item-F.Local ds))
unfolding given_typed
local_item ds = Counted-made (each (map local ds)) (λ ts. titem.Local ts) (locals-counted ds)
    (λ ts from middle to less rising. rolled_item (TItem-F.Local ts) (record {
      declares = Rising-wider from middle to (map local_of ts) less rising;
      fresh = λ scope only. fresh.declarations;
    }))

statement_new : (from middle to : ℕ) (t : TStmt) → middle ≤ to → StmtIn from middle t → NewItem from to (TItem-F.Stmt t)
statement_new from middle to t less s = record {
  declares = omega (arith, s.ordered, less);
  fresh = λ scope only. fresh.statement (s.fresh scope (record {
    none = λ k has least below. in_none k (only.is_own k has least (omega (arith, below, less)));
  }));
}
  where
    in_none : (k : ℕ) → Contains [] k → ⊥
    in_none k (i, below, is) = omega (arith, below)

statement_item : (x : StmtSaid) → Counted StmtIn x.judged → Counted ItemIn (item_step (Item-F.Stmt x))
unfolding given_typed
statement_item x body = Counted-made x.judged (λ t. titem.Stmt t) body
    (λ t from middle to less s. rolled_item (TItem-F.Stmt t) (statement_new from middle to t less s))

-- of the items behind an item, and of an item before others, no other numbers are in scope
item_rows : Rows ItemIn NewItems
item_rows = record {
  none = λ from. record { declares = omega arith; fresh = λ scope only. fresh.no_item };
  more = more;
}
  where
    only_first : (from middle to : ℕ) (first rest scope : List ℕ) → Rising middle to rest → Only from to (first ++ rest) scope →
        Only from middle first scope
    only_first from middle to first rest scope rising only = record {
      is_own = λ k has least below.
          by_part k below (Contains-append_cases first rest k (only.is_own k has least
          (omega (arith, below, Rising-ordered middle to rest rising))));
    }
      where
        by_part : (k : ℕ) → k < middle → Contains first k ⊎ Contains rest k → Contains first k
        by_part k below (inl has) = has
        by_part k below (inr has) =
            let within = Rising-within middle to rest k rising has in absurd (omega (arith, within.least, below))

    only_rest : (from middle to : ℕ) (first rest scope : List ℕ) → Rising from middle first → Only from to (first ++ rest) scope →
        Only middle to rest scope
    only_rest from middle to first rest scope rising only = record {
      is_own = λ k has least below.
          by_part k least (Contains-append_cases first rest k (only.is_own k has
          (omega (arith, least, Rising-ordered from middle first rising)) below));
    }
      where
        by_part : (k : ℕ) → middle ≤ k → Contains first k ⊎ Contains rest k → Contains rest k
        by_part k least (inr has) = has
        by_part k least (inl has) =
            let within = Rising-within from middle first k rising has in absurd (omega (arith, within.below, least))

    more : (from middle to : ℕ) (i : TItem) (is : List TItem) → ItemIn from middle i → NewItems middle to is → NewItems from to (i ∷ is)
    more from middle to i is one all = record {
      declares = Rising-append from middle to (declared_by (out-TItem i)) (declared is) one.declares all.declares;
      fresh = λ scope only. fresh.item
          (one.fresh scope (only_first from middle to (declared_by (out-TItem i)) (declared is) scope all.declares only))
          (all.fresh scope (only_rest from middle to (declared_by (out-TItem i)) (declared is) scope one.declares only));
    }

-- ---- all of them

abbrev ItemWith : Type 0
ItemWith = (i : Item) × Counted ItemIn (item_judged i)

abbrev StmtWith : Type 0
StmtWith = (s : Stmt) × Counted StmtIn (statement s).judged

items_with : Item-F ItemWith StmtWith → ItemLayer
items_with = map-Item ItemWith StmtWith Item Stmt (λ e. e.0) (λ e. e.0)

stmts_with : Stmt-F ItemWith StmtWith → StmtLayer
stmts_with = map-Stmt ItemWith StmtWith Item Stmt (λ e. e.0) (λ e. e.0)

item_is : (d : ItemLayer) → Counted ItemIn (item_step (map-Item Item Stmt (Judged TItem) StmtSaid item_judged statement d)) →
    Counted ItemIn (item_judged (roll-Item d))
item_is d counted = subst (Counted ItemIn) (sym (fold-roll-Item (Judged TItem) StmtSaid item_step stmt_step d)) counted

stmt_is : (d : StmtLayer) → Counted StmtIn (stmt_step (map-Stmt Item Stmt (Judged TItem) StmtSaid item_judged statement d)).judged →
    Counted StmtIn (statement (roll-Stmt d)).judged
stmt_is d counted =
    subst (λ (x : StmtSaid). Counted StmtIn x.judged) (sym (fold-roll-Stmt (Judged TItem) StmtSaid item_step stmt_step d)) counted

item_counted : (y : Item-F ItemWith StmtWith) → Counted ItemIn (item_judged (roll-Item (items_with y)))
unfolding items_with
item_counted (Item-F.Local ds) = item_is (Item-F.Local ds) (local_item ds)
item_counted (Item-F.Stmt s) = item_is (Item-F.Stmt s.0) (statement_item (statement s.0) s.1)

with_items : (is : List ItemWith) → AllCounted ItemIn (map item_judged (map (λ i. i.0) is))
with_items [] = none
with_items (i ∷ is) = some i.1 (with_items is)

block_counted : (ps : List (Judged TItem)) → AllCounted ItemIn ps → Counted StmtIn (block ps)
unfolding given_typed
block_counted ps all = Counted-made (each ps) (λ ts. tstmt.Block ts) (Counted-each item_rows ps all)
    (λ ts from middle to less items. wider from middle to ts less (block_new from middle ts items))
  where
    wider : (from middle to : ℕ) (ts : List TItem) → middle ≤ to → NewStmt from middle (TStmt-F.Block ts) →
        StmtIn from to (tstmt.Block ts)
    wider from middle to ts less s = made (TStmt-F.Block ts) (record {
      ordered = omega (arith, s.ordered, less);
      fresh = λ scope avoids. s.fresh scope (avoids-wider (omega arith) less avoids);
    })

empty_counted : Counted StmtIn (sure tstmt.Empty)
unfolding given_typed
empty_counted = sure_counted TStmt-F.Empty (λ scope. fresh.empty)

break_counted : (span : Span) → Counted StmtIn (sure (tstmt.Break span))
unfolding given_typed
break_counted span = sure_counted (TStmt-F.Break span) (λ scope. fresh.break)

continue_counted : (span : Span) → Counted StmtIn (sure (tstmt.Continue span))
unfolding given_typed
continue_counted span = sure_counted (TStmt-F.Continue span) (λ scope. fresh.continue)

stmt_counted : (y : Stmt-F ItemWith StmtWith) → Counted StmtIn (statement (roll-Stmt (stmts_with y))).judged
unfolding stmts_with
stmt_counted (Stmt-F.Block is) = stmt_is (Stmt-F.Block (map (λ i. i.0) is))
    (scoped-counted (block (map item_judged (map (λ i. i.0) is)))
    (block_counted (map item_judged (map (λ i. i.0) is)) (with_items is)))
stmt_counted (Stmt-F.Expr e) = stmt_is (Stmt-F.Expr e) (expression_counted e)
stmt_counted Stmt-F.Empty = stmt_is Stmt-F.Empty empty_counted
stmt_counted (Stmt-F.If e s None) = stmt_is (Stmt-F.If e s.0 None)
    (if_counted e (statement s.0).judged (perhaps None) s.1 Counted-none)
stmt_counted (Stmt-F.If e s (Some o)) = stmt_is (Stmt-F.If e s.0 (Some o.0))
    (if_counted e (statement s.0).judged (perhaps (Some (statement o.0).judged)) s.1 (Counted-some (statement o.0).judged o.1))
stmt_counted (Stmt-F.While e s) = stmt_is (Stmt-F.While e s.0) (while_counted e (statement s.0).judged s.1)
stmt_counted (Stmt-F.DoWhile s e) = stmt_is (Stmt-F.DoWhile s.0 e) (do_counted (statement s.0).judged e s.1)
stmt_counted (Stmt-F.For ds first c next s) = stmt_is (Stmt-F.For ds first c next s.0)
    (for_counted ds first c next (statement s.0).judged s.1)
stmt_counted (Stmt-F.Return e span) = stmt_is (Stmt-F.Return e span) (return_counted e span)
stmt_counted (Stmt-F.Break span) = stmt_is (Stmt-F.Break span) (break_counted span)
stmt_counted (Stmt-F.Continue span) = stmt_is (Stmt-F.Continue span) (continue_counted span)

items_counted : (x : ItemLayer) (y : Item-F ItemWith StmtWith) → items_with y ≡ x → Counted ItemIn (item_judged (roll-Item x))
items_counted x y is = subst (λ x. Counted ItemIn (item_judged (roll-Item x))) is (item_counted y)

stmts_counted : (x : StmtLayer) (y : Stmt-F ItemWith StmtWith) → stmts_with y ≡ x → Counted StmtIn (statement (roll-Stmt x)).judged
stmts_counted x y is = subst (λ x. Counted StmtIn (statement (roll-Stmt x)).judged) is (stmt_counted y)

item-counted : (i : Item) → Counted ItemIn (item_judged i)
unfolding items_with stmts_with
item-counted = ind-Item (λ i. Counted ItemIn (item_judged i)) (λ s. Counted StmtIn (statement s).judged) items_counted stmts_counted

all_items : (is : List Item) → AllCounted ItemIn (map item_judged is)
all_items [] = none
all_items (i ∷ is) = some (item-counted i) (all_items is)

-- a body, which is a block
pub record BodyIn (from to : ℕ) (s : TStmt) : Type 0 where
  pub items : List TItem
  pub is : out-TStmt s ≡ TStmt-F.Block items
  pub new : NewItems from to items

body_counted : (ps : List (Judged TItem)) → AllCounted ItemIn ps → Counted BodyIn (block ps)
unfolding given_typed
body_counted ps all = Counted-made (each ps) (λ ts. tstmt.Block ts) (Counted-each item_rows ps all)
    (λ ts from middle to less items. record {
      items = ts;
      is = out-roll-TStmt (TStmt-F.Block ts);
      new = record {
        declares = Rising-wider from middle to (declared ts) less items.declares;
        fresh = λ scope only. items.fresh scope
            (record { is_own = λ k has least below. only.is_own k has least (omega (arith, below, less)) });
      };
    })

-- The locals of a body have the numbers behind those of the parameters, and are new in each scope.
pub body-counted : (is : List Item) → Counted BodyIn (statement (stmt.Block is)).body
body-counted is =
    subst (λ (x : StmtSaid). Counted BodyIn x.body) (sym (said-block is)) (body_counted (map item_judged is) (all_items is))
