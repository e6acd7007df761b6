-- One level and one turn more leave each statement that is not stuck as it is.
use Rattle.std.proofs.Common.{◌≡◌, refl, sym, subst, ℕ, zero, suc, List, [], ◌∷◌}
use Rattle.std.proofs.Common.{map, Option, Some, None}
use Rattle.c_type_base.specs.declared.expr.TExpr.{TExpr}
use Rattle.block_meaning.specs.Expressions.{Calls}
use Rattle.c_type_base.specs.declared.statement.TDecl.{TDecl}
use Rattle.block_meaning.specs.Locals.{declarations}
use Rattle.block_meaning.specs.Locals.{scoped, new_locals}
use Rattle.block_meaning.specs.Laws.Settled.{Settles, settles-itself, settles-stuck, settles-then, settles-unit, settles-choice}
use Rattle.block_meaning.specs.Statements.{StmtLayer, ItemLayer, Flow, Next, StmtParts, on_next, in_order, local_of, declared, item_node}
use Rattle.block_meaning.specs.Statements.{items, condition, condition_or_true, effect, Turn, Again, Leaves, after_body, around, loop}
use Rattle.block_meaning.specs.Statements.{if_again, while_turn, do_turn, Heading, for_turn, for_node, if_node, returned, stmt_node}
use Rattle.block_meaning.specs.Statements.{statements_at}
use Rattle.c_type_base.specs.declared.statement.TItem.{TItem, out-TItem}
use Rattle.c_type_base.specs.declared.statement.TItem.TheOpen.{TItem-F, TStmt-F}
use Rattle.c_type_base.specs.declared.statement.TStmt.{TStmt, out-TStmt}
use Rattle.block_meaning.specs.Running.{Run, Context}
use Rattle.block_meaning.specs.Laws.Bound.Expressions.{PartsSettle, CallsSettle, parts_settle}
use Rattle.block_meaning.specs.Laws.Bound.Initialisers.{run_settles, declarations_settle}

pub record StmtsSettle (s t : StmtParts) : Type 0 where
  pub expr : (here : Context) → PartsSettle (s.expr here) (t.expr here)
  pub run : (here : Context) (st : TStmt) → Settles (s.run here st) (t.run here st)
  pub one_more : t.bound ≡ suc s.bound

next_settles : (flow : Flow) {m n : Run Flow} → Settles m n → Settles (on_next flow m) (on_next flow n)
next_settles Next settles = settles
next_settles _ settles = settles-itself _

order_settles : {A : Type 0} {f g : A → Run Flow} → ((a : A) → Settles (f a) (g a)) → (as' : List A) →
    Settles (in_order (map f as')) (in_order (map g as'))
order_settles each [] = settles-itself _
order_settles each (a ∷ as') = settles-then (each a) (λ flow. next_settles flow (order_settles each as'))

reached : {s t : StmtParts} → StmtsSettle s t → (here : Context) (ds : List TDecl) →
    Settles (declarations here (s.expr here) s.bound ds) (declarations here (t.expr here) t.bound ds)
reached {s = s} {t = t} of here ds = subst
    (λ n. Settles (declarations here (s.expr here) s.bound ds) (declarations here (t.expr here) n ds)) (sym of.one_more)
    (declarations_settle here (of.expr here) s.bound ds)

item_settles : {s t : StmtParts} → StmtsSettle s t → (here : Context) (i : ItemLayer) →
    Settles (item_node s here i) (item_node t here i)
item_settles of here (TItem-F.Local ds) = settles-then (reached of here ds) (λ _. settles-itself _)
item_settles of here (TItem-F.Stmt st) = of.run here st

pub items_settle : {s t : StmtParts} → StmtsSettle s t → (here : Context) (is : List TItem) → Settles (items s here is) (items t here is)
items_settle of here is = order_settles (λ i. item_settles of here (out-TItem i)) is

condition_settles : {s t : StmtParts} → StmtsSettle s t → (here : Context) (e : TExpr) → Settles (condition s here e) (condition t here e)
condition_settles of here e = settles-then ((of.expr here).value e.span e) (λ v. settles-itself _)

or_true_settles : {s t : StmtParts} → StmtsSettle s t → (here : Context) (e : Option TExpr) →
    Settles (condition_or_true s here e) (condition_or_true t here e)
or_true_settles of here None = settles-itself _
or_true_settles of here (Some e) = condition_settles of here e

effect_of_settles : {s t : StmtParts} → StmtsSettle s t → (here : Context) (e : Option TExpr) → Settles (effect s here e) (effect t here e)
effect_of_settles of here None = settles-itself _
effect_of_settles of here (Some e) = run_settles (of.expr here) e

around_settles : (turn : Turn) {m n : Run Flow} → Settles m n → Settles (around turn m) (around turn n)
around_settles Again settles = settles
around_settles (Leaves flow) settles = settles-itself _

again_settles : (turn : Turn) {m n : Run Turn} → Settles m n → Settles (if_again turn m) (if_again turn n)
again_settles Again settles = settles
again_settles (Leaves flow) settles = settles-itself _

loop_settles : {m n : Run Turn} → Settles m n → (turns : ℕ) → Settles (loop turns m) (loop (suc turns) n)
loop_settles settles zero = settles-stuck _
loop_settles settles (suc turns) = settles-then settles (λ turn. around_settles turn (loop_settles settles turns))

loops : {s t : StmtParts} → StmtsSettle s t → {m n : Run Turn} → Settles m n → Settles (loop s.bound m) (loop t.bound n)
loops {s = s} {t = t} of {m = m} {n = n} settles =
    subst (λ k. Settles (loop s.bound m) (loop k n)) (sym of.one_more) (loop_settles settles s.bound)

while_settles : {s t : StmtParts} → StmtsSettle s t → (here : Context) (e : TExpr) (st : TStmt) →
    Settles (while_turn s here e st) (while_turn t here e st)
while_settles of here e st = settles-unit (settles-then (condition_settles of here e) (λ holds.
    settles-choice holds (settles-then (of.run here st) (λ flow. settles-itself _)) (settles-itself _)))

do_settles : {s t : StmtParts} → StmtsSettle s t → (here : Context) (st : TStmt) (e : TExpr) →
    Settles (do_turn s here st e) (do_turn t here st e)
do_settles of here st e = settles-unit (settles-then (of.run here st) (λ flow. again_settles (after_body flow)
    (settles-then (condition_settles of here e) (λ holds. settles-itself _))))

for_turn_settles : {s t : StmtParts} → StmtsSettle s t → (here : Context) (h : Heading) (st : TStmt) →
    Settles (for_turn s here h st) (for_turn t here h st)
for_turn_settles of here h st = settles-unit (settles-then (or_true_settles of here h.condition) (λ holds. settles-choice holds
    (settles-then (of.run here st) (λ flow. again_settles (after_body flow)
    (settles-then (effect_of_settles of here h.next) (λ _. settles-itself _)))) (settles-itself _)))

scope_settles : {A : Type 0} (here : Context) (ks : List ℕ) {f g : Context → Run A} → ((inner : Context) → Settles (f inner) (g inner)) →
    Settles (scoped here ks f) (scoped here ks g)
scope_settles here [] each = each here
scope_settles here (k ∷ ks) each = settles-unit (settles-then (settles-itself (new_locals here (k ∷ ks))) (λ inner.
    settles-then (each inner) (λ a. settles-itself _)))

for_settles : {s t : StmtParts} → StmtsSettle s t → (here : Context) (h : Heading) (st : TStmt) →
    Settles (for_node s here h st) (for_node t here h st)
for_settles of here h st = scope_settles here (map local_of h.declared) (λ inner. settles-then (reached of inner h.declared) (λ _.
    settles-then (effect_of_settles of inner h.first) (λ _. loops of (for_turn_settles of inner h st))))

if_settles : {s t : StmtParts} → StmtsSettle s t → (here : Context) (e : TExpr) (st : TStmt) (other : Option TStmt) →
    Settles (if_node s here e st other) (if_node t here e st other)
if_settles of here e st None =
    settles-then (condition_settles of here e) (λ holds. settles-choice holds (of.run here st) (settles-itself _))
if_settles of here e st (Some other) =
    settles-then (condition_settles of here e) (λ holds. settles-choice holds (of.run here st) (of.run here other))

returned_settles : {s t : StmtParts} → StmtsSettle s t → (here : Context) (e : Option TExpr) →
    Settles (returned s here e) (returned t here e)
returned_settles of here None = settles-itself _
returned_settles of here (Some e) = settles-then ((of.expr here).value e.span e) (λ v. settles-itself _)

stmt_settles : {s t : StmtParts} → StmtsSettle s t → (here : Context) (st : StmtLayer) → Settles (stmt_node s here st) (stmt_node t here st)
stmt_settles of here (TStmt-F.Block is) = scope_settles here (declared is) (λ inner. items_settle of inner is)
stmt_settles of here (TStmt-F.Expr e) = settles-then (run_settles (of.expr here) e) (λ _. settles-itself _)
stmt_settles of here TStmt-F.Empty = settles-itself _
stmt_settles of here (TStmt-F.If e st other) = if_settles of here e st other
stmt_settles of here (TStmt-F.While e st) = loops of (while_settles of here e st)
stmt_settles of here (TStmt-F.DoWhile st e) = loops of (do_settles of here st e)
stmt_settles of here (TStmt-F.For ds first e next st) = for_settles of here _ st
stmt_settles of here (TStmt-F.Return e span) = returned_settles of here e
stmt_settles of here (TStmt-F.Break span) = settles-itself _
stmt_settles of here (TStmt-F.Continue span) = settles-itself _

-- one level and one turn more
pub statements_settle : {c d : Calls} → CallsSettle c d → (depth : ℕ) → StmtsSettle (statements_at c depth) (statements_at d (suc depth))
unfolding out-TStmt
statements_settle of_calls zero =
    record { expr = λ here. parts_settle of_calls here 0; run = λ here st. settles-stuck _; one_more = refl }
statements_settle of_calls (suc depth) =
    let below = statements_settle of_calls depth in record {
      expr = λ here. parts_settle of_calls here (suc depth);
      run = λ here st. stmt_settles below here (out-TStmt st);
      one_more = refl;
    }
