-- An extern that a statement uses, by the derivations that order asks for, is among those to which it refers, as the link sees them.
use Rattle.std.proofs.Common.{◌≡◌, refl, ap, ◌∙◌, ℕ, Bool, true, false, ◌||◌, List, [], ◌∷◌, ◌++◌, map}
use Rattle.std.proofs.Common.{nat_eq, arith, Option, Some, None}
use Rattle.std.proofs.lemmas.Bool.Decides.{nat_tests}
use Rattle.c_type_base.specs.declared.expr.TExpr.{TExpr}
use Rattle.c_type_base.specs.declared.expr.TNode.{TNode, out-TNode, map-TNode}
use Rattle.c_type_base.specs.declared.expr.TNode.TheFolds.{fold_out-TNode, fold_out-TExpr}
use Rattle.c_type_base.specs.declared.statement.TDecl.{TDecl}
use Rattle.c_type_base.specs.declared.statement.TInit.{TInit, out-TInit, map-TInit}
use Rattle.c_type_base.specs.declared.statement.TInit.TheFolds.{fold_out-TInit}
use Rattle.c_type_base.specs.declared.statement.TInit.TheOpen.{TInit-F}
use Rattle.c_type_base.specs.declared.statement.TItem.{TItem, out-TItem, map-TItem}
use Rattle.c_type_base.specs.declared.statement.TItem.TheFolds.{fold_out-TItem, fold_out-TStmt}
use Rattle.c_type_base.specs.declared.statement.TStmt.{TStmt, out-TStmt, map-TStmt}
use Rattle.slot_safety.specs.Kinds.{among}
use Rattle.block_meaning.specs.Expressions.{NodeLayer}
use Rattle.block_meaning.specs.Statements.{StmtLayer, ItemLayer}
use Rattle.mean_link.specs.Uses.{joined, callee_uses, node_step, expr_step, expr_uses, node_uses, maybe_uses, init_step, init_uses}
use Rattle.mean_link.specs.Uses.{maybe_init_uses, decl_uses, item_step, stmt_step, stmt_uses, item_uses}
use Rattle.well_typed_order.specs.Uses as uses
use Rattle.well_typed_order.specs.Uses.{Uses, AnyUses, ExprUses, InitUses, AnyInitUses, MayUse, DeclUses, AnyDeclUses, StmtUses, ItemUses}
use Rattle.well_typed_order.specs.Uses.{AnyItemUses}

abbrev Among : ℕ → List ℕ → Type 0
Among k ks = among k ks ≡ true

-- ---- numbers in lists

first_one : (k : ℕ) (xs ys : List ℕ) → Among k xs → Among k (xs ++ ys)
first_one k [] ys is = absurd cc
first_one k (x ∷ xs) ys is = by_test (nat_eq k x) (among k xs) (among k (xs ++ ys)) is (first_one k xs ys)
  where
    by_test : (a b c : Bool) → (a || b) ≡ true → (b ≡ true → c ≡ true) → (a || c) ≡ true
    by_test true b c is next = refl
    by_test false b c is next = next is

second_one : (k : ℕ) (xs ys : List ℕ) → Among k ys → Among k (xs ++ ys)
second_one k [] ys is = is
second_one k (x ∷ xs) ys is = or_true (nat_eq k x) (among k (xs ++ ys)) (second_one k xs ys is)
  where
    or_true : (a b : Bool) → b ≡ true → (a || b) ≡ true
    or_true true b is = refl
    or_true false b is = is

itself : (k : ℕ) → Among k (k ∷ [])
itself k = ap (λ b. b || among k []) (same k)
  where
    same : (k : ℕ) → nat_eq k k ≡ true
    same k = grind (arith, nat_tests)

-- ---- what a level refers to

abbrev node_refers : NodeLayer → List ℕ
node_refers l = node_step (map-TNode TNode TExpr (List ℕ) (List ℕ) node_uses expr_uses l)

abbrev init_refers : TInit-F TInit → List ℕ
init_refers l = init_step (map-TInit TInit (List ℕ) init_uses l)

abbrev stmt_refers : StmtLayer → List ℕ
stmt_refers l = stmt_step (map-TStmt TItem TStmt (List ℕ) (List ℕ) item_uses stmt_uses l)

abbrev item_refers : ItemLayer → List ℕ
item_refers l = item_step (map-TItem TItem TStmt (List ℕ) (List ℕ) item_uses stmt_uses l)

of_node : (k : ℕ) (e : TExpr) → Among k (node_refers (out-TNode e.node)) → Among k (expr_uses e)
of_node k e is =
    ap (among k) (fold_out-TExpr (List ℕ) (List ℕ) node_step expr_step e
    ∙ fold_out-TNode (List ℕ) (List ℕ) node_step expr_step e.node) ∙ is

of_init : (k : ℕ) (i : TInit) → Among k (init_refers (out-TInit i)) → Among k (init_uses i)
of_init k i is = ap (among k) (fold_out-TInit (List ℕ) init_step i) ∙ is

of_stmt : (k : ℕ) (s : TStmt) → Among k (stmt_refers (out-TStmt s)) → Among k (stmt_uses s)
of_stmt k s is = ap (among k) (fold_out-TStmt (List ℕ) (List ℕ) item_step stmt_step s) ∙ is

of_item : (k : ℕ) (i : TItem) → Among k (item_refers (out-TItem i)) → Among k (item_uses i)
of_item k i is = ap (among k) (fold_out-TItem (List ℕ) (List ℕ) item_step stmt_step i) ∙ is

-- ---- expressions

mutual
  node_among : {l : NodeLayer} {k : ℕ} → Uses l k → Among k (node_refers l)
  node_among {k = k} uses.named = itself k
  node_among {k = k} (uses.called {es = es}) = first_one k (k ∷ []) (joined (map expr_uses es)) (itself k)
  node_among {k = k} (uses.argument {f = f} {es = es} used) = second_one k (callee_uses f) (joined (map expr_uses es)) (any_among used)
  node_among {k = k} (uses.paren {e = e} used) = of_node k e (node_among used)
  node_among {k = k} (uses.unary {e = e} used) = of_node k e (node_among used)
  node_among {k = k} (uses.first {a = a} {b = b} used) = first_one k (expr_uses a) (expr_uses b) (of_node k a (node_among used))
  node_among {k = k} (uses.second {a = a} {b = b} used) = second_one k (expr_uses a) (expr_uses b) (of_node k b (node_among used))
  node_among {k = k} (uses.target {a = a} {b = b} used) = first_one k (expr_uses a) (expr_uses b) (of_node k a (node_among used))
  node_among {k = k} (uses.source {a = a} {b = b} used) = second_one k (expr_uses a) (expr_uses b) (of_node k b (node_among used))
  node_among {k = k} (uses.condition {c = c} {a = a} {b = b} used) =
      first_one k (expr_uses c) (expr_uses a ++ expr_uses b) (of_node k c (node_among used))
  node_among {k = k} (uses.first_arm {c = c} {a = a} {b = b} used) =
      second_one k (expr_uses c) (expr_uses a ++ expr_uses b) (first_one k (expr_uses a) (expr_uses b) (of_node k a (node_among used)))
  node_among {k = k} (uses.second_arm {c = c} {a = a} {b = b} used) =
      second_one k (expr_uses c) (expr_uses a ++ expr_uses b) (second_one k (expr_uses a) (expr_uses b) (of_node k b (node_among used)))
  node_among {k = k} (uses.cast {e = e} used) = of_node k e (node_among used)
  node_among {k = k} (uses.array {a = a} {i = i} used) = first_one k (expr_uses a) (expr_uses i) (of_node k a (node_among used))
  node_among {k = k} (uses.index {a = a} {i = i} used) = second_one k (expr_uses a) (expr_uses i) (of_node k i (node_among used))
  node_among {k = k} (uses.member {e = e} used) = of_node k e (node_among used)
  node_among {k = k} (uses.arrow {e = e} used) = of_node k e (node_among used)
  node_among {k = k} (uses.step {e = e} used) = of_node k e (node_among used)
  node_among {k = k} (uses.read {e = e} used) = of_node k e (node_among used)
  node_among {k = k} (uses.decay {e = e} used) = of_node k e (node_among used)
  node_among {k = k} (uses.convert {e = e} used) = of_node k e (node_among used)

  any_among : {es : List TExpr} {k : ℕ} → AnyUses es k → Among k (joined (map expr_uses es))
  any_among {k = k} (uses.here {e = e} {es = es} used) =
      first_one k (expr_uses e) (joined (map expr_uses es)) (of_node k e (node_among used))
  any_among {k = k} (uses.there {e = e} {es = es} used) = second_one k (expr_uses e) (joined (map expr_uses es)) (any_among used)

expr_among : (e : TExpr) (k : ℕ) → ExprUses e k → Among k (expr_uses e)
expr_among e k used = of_node k e (node_among used)

maybe_among : (o : Option TExpr) (k : ℕ) → MayUse ExprUses o k → Among k (maybe_uses o)
maybe_among None k used = absurd used
maybe_among (Some e) k used = expr_among e k used

-- ---- initialisers and declarations

mutual
  init_among : {l : TInit-F TInit} {k : ℕ} → InitUses l k → Among k (init_refers l)
  init_among {k = k} (uses.one {e = e} used) = expr_among e k used
  init_among (uses.list used) = any_init_among used

  any_init_among : {is : List TInit} {k : ℕ} → AnyInitUses is k → Among k (joined (map init_uses is))
  any_init_among {k = k} (uses.here {i = i} {is = is} used) =
      first_one k (init_uses i) (joined (map init_uses is)) (of_init k i (init_among used))
  any_init_among {k = k} (uses.there {i = i} {is = is} used) =
      second_one k (init_uses i) (joined (map init_uses is)) (any_init_among used)

may_init_among : (o : Option TInit) (k : ℕ) → MayUse (λ i k. InitUses (out-TInit i) k) o k → Among k (maybe_init_uses o)
may_init_among None k used = absurd used
may_init_among (Some i) k used = of_init k i (init_among used)

decls_among : {ds : List TDecl} {k : ℕ} → AnyDeclUses ds k → Among k (joined (map decl_uses ds))
decls_among {k = k} (uses.here {d = d} {ds = ds} used) =
    first_one k (decl_uses d) (joined (map decl_uses ds)) (may_init_among d.init k used)
decls_among {k = k} (uses.there {d = d} {ds = ds} used) = second_one k (decl_uses d) (joined (map decl_uses ds)) (decls_among used)

-- ---- statements

mutual
  stmt_among : {l : StmtLayer} {k : ℕ} → StmtUses l k → Among k (stmt_refers l)
  stmt_among (uses.block used) = items_among used
  stmt_among {k = k} (uses.expression {e = e} used) = expr_among e k used
  stmt_among {k = k} (uses.if_condition {e = e} {t = t} {o = None} used) =
      first_one k (expr_uses e) (stmt_uses t) (expr_among e k used)
  stmt_among {k = k} (uses.if_condition {e = e} {t = t} {o = Some o} used) =
      first_one k (expr_uses e) (stmt_uses t ++ stmt_uses o) (expr_among e k used)
  stmt_among {k = k} (uses.if_first {e = e} {t = t} {o = None} used) =
      second_one k (expr_uses e) (stmt_uses t) (of_stmt k t (stmt_among used))
  stmt_among {k = k} (uses.if_first {e = e} {t = t} {o = Some o} used) =
      second_one k (expr_uses e) (stmt_uses t ++ stmt_uses o) (first_one k (stmt_uses t) (stmt_uses o) (of_stmt k t (stmt_among used)))
  stmt_among {k = k} (uses.if_second {e = e} {t = t} {o = o} used) =
      second_one k (expr_uses e) (stmt_uses t ++ stmt_uses o) (second_one k (stmt_uses t) (stmt_uses o) (of_stmt k o (stmt_among used)))
  stmt_among {k = k} (uses.while_condition {e = e} {t = t} used) = first_one k (expr_uses e) (stmt_uses t) (expr_among e k used)
  stmt_among {k = k} (uses.while_body {e = e} {t = t} used) = second_one k (expr_uses e) (stmt_uses t) (of_stmt k t (stmt_among used))
  stmt_among {k = k} (uses.do_condition {e = e} {t = t} used) = second_one k (stmt_uses t) (expr_uses e) (expr_among e k used)
  stmt_among {k = k} (uses.do_body {e = e} {t = t} used) = first_one k (stmt_uses t) (expr_uses e) (of_stmt k t (stmt_among used))
  stmt_among {k = k} (uses.for_declared {ds = ds} used) = first_one k (joined (map decl_uses ds)) _ (decls_among used)
  stmt_among {k = k} (uses.for_first {ds = ds} {a = a} used) =
      second_one k (joined (map decl_uses ds)) _ (first_one k (maybe_uses a) _ (maybe_among a k used))
  stmt_among {k = k} (uses.for_condition {ds = ds} {a = a} {c = c} used) =
      second_one k (joined (map decl_uses ds)) _ (second_one k (maybe_uses a) _ (first_one k (maybe_uses c) _ (maybe_among c k used)))
  stmt_among {k = k} (uses.for_next {ds = ds} {a = a} {c = c} {n = n} used) =
      second_one k (joined (map decl_uses ds)) _ (second_one k (maybe_uses a) _ (second_one k (maybe_uses c) _
      (first_one k (maybe_uses n) _ (maybe_among n k used))))
  stmt_among {k = k} (uses.for_body {ds = ds} {a = a} {c = c} {n = n} {t = t} used) =
      second_one k (joined (map decl_uses ds)) _ (second_one k (maybe_uses a) _ (second_one k (maybe_uses c) _
      (second_one k (maybe_uses n) (stmt_uses t) (of_stmt k t (stmt_among used)))))
  stmt_among {k = k} (uses.return {e = e} used) = expr_among e k used

  item_among : {l : ItemLayer} {k : ℕ} → ItemUses l k → Among k (item_refers l)
  item_among (uses.declarations used) = decls_among used
  item_among {k = k} (uses.statement {t = t} used) = of_stmt k t (stmt_among used)

  items_among : {is : List TItem} {k : ℕ} → AnyItemUses is k → Among k (joined (map item_uses is))
  items_among {k = k} (uses.here {i = i} {is = is} used) =
      first_one k (item_uses i) (joined (map item_uses is)) (of_item k i (item_among used))
  items_among {k = k} (uses.there {i = i} {is = is} used) =
      second_one k (item_uses i) (joined (map item_uses is)) (items_among used)

pub used-among : (s : TStmt) (k : ℕ) → StmtUses (out-TStmt s) k → among k (stmt_uses s) ≡ true
used-among s k used = of_stmt k s (stmt_among used)
