-- Where each expression of a statement passes two tests, it passes a third that follows from them (this project's own).
use Rattle.std.specs.Prelude.{◌≡◌, Bool, true, ◌&&◌, List, [], ◌∷◌, map, Option, Some, None, refl}
use Rattle.std.proofs.Common.{sym, subst, ◌∙◌}
use Rattle.c_type_base.specs.declared.expr.TExpr.{TExpr}
use Rattle.c_type_base.specs.declared.statement.TDecl.{TDecl}
use Rattle.c_type_base.specs.declared.statement.TInit.{TInit, roll-TInit, map-TInit}
use Rattle.c_type_base.specs.declared.statement.TInit.TheFolds.{fold-roll-TInit, ind-TInit}
use Rattle.c_type_base.specs.declared.statement.TInit.TheOpen.{TInit-F}
use Rattle.c_type_base.specs.declared.statement.TItem.{TItem, roll-TItem, map-TItem}
use Rattle.c_type_base.specs.declared.statement.TItem.TheFolds.{fold-roll-TItem, fold-roll-TStmt, ind-TStmt}
use Rattle.c_type_base.specs.declared.statement.TItem.TheOpen.{TItem-F, TStmt-F}
use Rattle.c_type_base.specs.declared.statement.TStmt.{TStmt, roll-TStmt, map-TStmt}
use Rattle.block_meaning.specs.Statements.{StmtLayer, ItemLayer}
use Rattle.well_typed_covered.specs.Everywhere.{all_pass, passes_if, init_passes, each_in_init, each_in_decl, each_in_decls, stmt_passes}
use Rattle.well_typed_covered.specs.Everywhere.{item_passes, each_in, each_in_item, each_in_layer, each_in_item_layer}
use Rattle.well_typed_covered.specs.Laws.Trees.{and-true, first-of, second-of}

-- the third follows from the two
abbrev Follows : Bool → Bool → Bool → Type 0
Follows a b c = a ≡ true → b ≡ true → c ≡ true

both_follow : (a b c x y z : Bool) → Follows a b c → Follows x y z → Follows (a && x) (b && y) (c && z)
both_follow a b c x y z first second is its =
    and-true c z (first (first-of a x is) (first-of b y its)) (second (second-of a x is) (second-of b y its))

-- by equal ones
follows_by : {a b c x y z : Bool} → x ≡ a → y ≡ b → z ≡ c → Follows a b c → Follows x y z
follows_by first second third follows is its = third ∙ follows (sym first ∙ is) (sym second ∙ its)

module _ (p q r : TExpr → Bool) (follows : (e : TExpr) → Follows (p e) (q e) (r e)) where
  if_follows : (o : Option TExpr) → Follows (passes_if p o) (passes_if q o) (passes_if r o)
  if_follows None = λ one other. refl
  if_follows (Some e) = follows e

  -- ---- initialisers

  abbrev InitFollows : TInit → Type 0
  InitFollows i = Follows (each_in_init p i) (each_in_init q i) (each_in_init r i)

  abbrev WithInit : Type 0
  WithInit = (i : TInit) × InitFollows i

  inits_with : TInit-F WithInit → TInit-F TInit
  inits_with = map-TInit WithInit TInit (λ i. i.0)

  abbrev layer_init : (TExpr → Bool) → TInit-F TInit → Bool
  layer_init test d = init_passes test (map-TInit TInit Bool (each_in_init test) d)

  init_is : (d : TInit-F TInit) → Follows (layer_init p d) (layer_init q d) (layer_init r d) → InitFollows (roll-TInit d)
  init_is d = follows_by (fold-roll-TInit Bool (init_passes p) d) (fold-roll-TInit Bool (init_passes q) d)
      (fold-roll-TInit Bool (init_passes r) d)

  abbrev inits_of : List WithInit → List TInit
  inits_of is = map (λ i. i.0) is

  inits_follow : (is : List WithInit) → Follows (all_pass (map (each_in_init p) (inits_of is)))
      (all_pass (map (each_in_init q) (inits_of is))) (all_pass (map (each_in_init r) (inits_of is)))
  inits_follow [] = λ one other. refl
  inits_follow (i ∷ is) = both_follow (each_in_init p i.0) (each_in_init q i.0) (each_in_init r i.0)
      (all_pass (map (each_in_init p) (inits_of is))) (all_pass (map (each_in_init q) (inits_of is)))
      (all_pass (map (each_in_init r) (inits_of is))) i.1 (inits_follow is)

  init_follows : (y : TInit-F WithInit) → InitFollows (roll-TInit (inits_with y))
  unfolding inits_with
  init_follows (TInit-F.One e) = init_is (TInit-F.One e) (follows e)
  init_follows (TInit-F.List is span) = init_is (TInit-F.List (inits_of is) span) (inits_follow is)

  inits_by : (x : TInit-F TInit) (y : TInit-F WithInit) → inits_with y ≡ x → InitFollows (roll-TInit x)
  inits_by x y is = subst (λ x. InitFollows (roll-TInit x)) is (init_follows y)

  each_init_follows : (i : TInit) → InitFollows i
  unfolding inits_with
  each_init_follows = ind-TInit InitFollows inits_by

  decl_follows : (d : TDecl) → Follows (each_in_decl p d) (each_in_decl q d) (each_in_decl r d)
  decl_follows d = by_init d.init
    where
      by_init : (o : Option TInit) → Follows (passes_if (each_in_init p) o) (passes_if (each_in_init q) o) (passes_if (each_in_init r) o)
      by_init None = λ one other. refl
      by_init (Some i) = each_init_follows i

  decls_follow : (ds : List TDecl) → Follows (each_in_decls p ds) (each_in_decls q ds) (each_in_decls r ds)
  decls_follow [] = λ one other. refl
  decls_follow (d ∷ ds) = both_follow (each_in_decl p d) (each_in_decl q d) (each_in_decl r d) (each_in_decls p ds) (each_in_decls q ds)
      (each_in_decls r ds) (decl_follows d) (decls_follow ds)

  -- ---- statements

  abbrev StmtFollows : TStmt → Type 0
  StmtFollows s = Follows (each_in p s) (each_in q s) (each_in r s)

  abbrev ItemFollows : TItem → Type 0
  ItemFollows i = Follows (each_in_item p i) (each_in_item q i) (each_in_item r i)

  abbrev WithItem : Type 0
  WithItem = (i : TItem) × ItemFollows i

  abbrev WithStmt : Type 0
  WithStmt = (s : TStmt) × StmtFollows s

  items_with : TItem-F WithItem WithStmt → ItemLayer
  items_with = map-TItem WithItem WithStmt TItem TStmt (λ e. e.0) (λ e. e.0)

  stmts_with : TStmt-F WithItem WithStmt → StmtLayer
  stmts_with = map-TStmt WithItem WithStmt TItem TStmt (λ e. e.0) (λ e. e.0)

  item_is : (d : ItemLayer) → Follows (each_in_item_layer p d) (each_in_item_layer q d) (each_in_item_layer r d) →
      ItemFollows (roll-TItem d)
  item_is d = follows_by (fold-roll-TItem Bool Bool (item_passes p) (stmt_passes p) d)
      (fold-roll-TItem Bool Bool (item_passes q) (stmt_passes q) d) (fold-roll-TItem Bool Bool (item_passes r) (stmt_passes r) d)

  stmt_is : (d : StmtLayer) → Follows (each_in_layer p d) (each_in_layer q d) (each_in_layer r d) → StmtFollows (roll-TStmt d)
  stmt_is d = follows_by (fold-roll-TStmt Bool Bool (item_passes p) (stmt_passes p) d)
      (fold-roll-TStmt Bool Bool (item_passes q) (stmt_passes q) d) (fold-roll-TStmt Bool Bool (item_passes r) (stmt_passes r) d)

  item_follows : (y : TItem-F WithItem WithStmt) → ItemFollows (roll-TItem (items_with y))
  unfolding items_with
  item_follows (TItem-F.Local ds) = item_is (TItem-F.Local ds) (decls_follow ds)
  item_follows (TItem-F.Stmt s) = item_is (TItem-F.Stmt s.0) s.1

  abbrev items_of : List WithItem → List TItem
  items_of is = map (λ i. i.0) is

  items_follow : (is : List WithItem) → Follows (all_pass (map (each_in_item p) (items_of is)))
      (all_pass (map (each_in_item q) (items_of is))) (all_pass (map (each_in_item r) (items_of is)))
  items_follow [] = λ one other. refl
  items_follow (i ∷ is) = both_follow (each_in_item p i.0) (each_in_item q i.0) (each_in_item r i.0)
      (all_pass (map (each_in_item p) (items_of is))) (all_pass (map (each_in_item q) (items_of is)))
      (all_pass (map (each_in_item r) (items_of is))) i.1 (items_follow is)

  stmt_follows : (y : TStmt-F WithItem WithStmt) → StmtFollows (roll-TStmt (stmts_with y))
  unfolding stmts_with
  stmt_follows (TStmt-F.Block is) = stmt_is (TStmt-F.Block (items_of is)) (items_follow is)
  stmt_follows (TStmt-F.Expr e) = stmt_is (TStmt-F.Expr e) (follows e)
  stmt_follows TStmt-F.Empty = stmt_is TStmt-F.Empty (λ is its. refl)
  stmt_follows (TStmt-F.If c s None) = stmt_is (TStmt-F.If c s.0 None)
      (both_follow (p c) (q c) (r c) (each_in p s.0 && true) (each_in q s.0 && true) (each_in r s.0 && true) (follows c)
      (both_follow (each_in p s.0) (each_in q s.0) (each_in r s.0) true true true s.1 (λ is its. refl)))
  stmt_follows (TStmt-F.If c s (Some o)) = stmt_is (TStmt-F.If c s.0 (Some o.0))
      (both_follow (p c) (q c) (r c) (each_in p s.0 && each_in p o.0) (each_in q s.0 && each_in q o.0) (each_in r s.0 && each_in r o.0)
      (follows c) (both_follow (each_in p s.0) (each_in q s.0) (each_in r s.0) (each_in p o.0) (each_in q o.0) (each_in r o.0) s.1 o.1))
  stmt_follows (TStmt-F.While c s) = stmt_is (TStmt-F.While c s.0)
      (both_follow (p c) (q c) (r c) (each_in p s.0) (each_in q s.0) (each_in r s.0) (follows c) s.1)
  stmt_follows (TStmt-F.DoWhile s c) = stmt_is (TStmt-F.DoWhile s.0 c)
      (both_follow (each_in p s.0) (each_in q s.0) (each_in r s.0) (p c) (q c) (r c) s.1 (follows c))
  stmt_follows (TStmt-F.For ds first c next s) = stmt_is (TStmt-F.For ds first c next s.0)
      (both_follow _ _ _ _ _ _ (decls_follow ds)
      (both_follow (passes_if p first) (passes_if q first) (passes_if r first) _ _ _ (if_follows first)
      (both_follow (passes_if p c) (passes_if q c) (passes_if r c) _ _ _ (if_follows c)
      (both_follow (passes_if p next) (passes_if q next) (passes_if r next) _ _ _ (if_follows next) s.1))))
  stmt_follows (TStmt-F.Return e span) = stmt_is (TStmt-F.Return e span) (if_follows e)
  stmt_follows (TStmt-F.Break span) = stmt_is (TStmt-F.Break span) (λ is its. refl)
  stmt_follows (TStmt-F.Continue span) = stmt_is (TStmt-F.Continue span) (λ is its. refl)

  items_by : (x : ItemLayer) (y : TItem-F WithItem WithStmt) → items_with y ≡ x → ItemFollows (roll-TItem x)
  items_by x y is = subst (λ x. ItemFollows (roll-TItem x)) is (item_follows y)

  stmts_by : (x : StmtLayer) (y : TStmt-F WithItem WithStmt) → stmts_with y ≡ x → StmtFollows (roll-TStmt x)
  stmts_by x y is = subst (λ x. StmtFollows (roll-TStmt x)) is (stmt_follows y)

  pub each-follows : (s : TStmt) → each_in p s ≡ true → each_in q s ≡ true → each_in r s ≡ true
  unfolding items_with stmts_with
  each-follows = ind-TStmt ItemFollows StmtFollows items_by stmts_by
