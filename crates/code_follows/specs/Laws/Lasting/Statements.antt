-- Runs lead to later states: statements (this project's own).
use Rattle.std.proofs.Common.{ℕ, zero, suc, true, List, []}
use Rattle.std.proofs.Common.{◌∷◌, map, Option, Some, None}
use Rattle.c_type_base.specs.declared.expr.TExpr.{TExpr}
use Rattle.c_type_base.specs.declared.statement.TItem.{TItem, out-TItem}
use Rattle.c_type_base.specs.declared.statement.TItem.TheOpen.{TItem-F, TStmt-F}
use Rattle.c_type_base.specs.declared.statement.TStmt.{TStmt, out-TStmt}
use Rattle.block_meaning.specs.Expressions.{Calls}
use Rattle.code_follows.specs.Laws.Lasting.Words.{lasts-gives}
use Rattle.code_follows.specs.Laws.Lasting.Words.{lasts-stuck, lasts-then, lasts-unit}
use Rattle.code_follows.specs.Laws.Lasting.Words.{lasts-choice}
use Rattle.code_follows.specs.Later.{Lasts}
use Rattle.block_meaning.specs.Running.{Run, Context}
use Rattle.block_meaning.specs.Statements.{StmtLayer, ItemLayer, Flow, Next, StmtParts, on_next, in_order, local_of, declared, item_node}
use Rattle.block_meaning.specs.Statements.{items, condition, condition_or_true, effect, Turn, Again, Leaves, after_body, around, loop}
use Rattle.block_meaning.specs.Statements.{if_again, while_turn, do_turn, Heading, for_turn, for_node, if_node, returned, stmt_node}
use Rattle.block_meaning.specs.Statements.{statements_at}
use Rattle.code_follows.specs.Laws.Lasting.Values.{truth_lasts}
use Rattle.code_follows.specs.Laws.Lasting.Expressions.{LastingParts, LastingCalls, parts_lasts}
use Rattle.code_follows.specs.Laws.Lasting.Locals.{scope_lasts, run_lasts, declarations_lasts}

pub record LastingStmts (s : StmtParts) : Type 0 where
  pub expr : (here : Context) → LastingParts (s.expr here)
  pub run : (here : Context) (st : TStmt) → Lasts (s.run here st)

next_lasts : (flow : Flow) {m : Run Flow} → Lasts m → Lasts (on_next flow m)
next_lasts Next lasts = lasts
next_lasts _ lasts = lasts-gives _

order_lasts : {A : Type 0} {f : A → Run Flow} → ((a : A) → Lasts (f a)) → (as' : List A) → Lasts (in_order (map f as'))
order_lasts each [] = lasts-gives Next
order_lasts each (a ∷ as') = lasts-then (each a) (λ flow. next_lasts flow (order_lasts each as'))

item_lasts : {s : StmtParts} → LastingStmts s → (here : Context) (i : ItemLayer) → Lasts (item_node s here i)
item_lasts {s = s} of here (TItem-F.Local ds) = lasts-then (declarations_lasts here (of.expr here) s.bound ds) (λ _. lasts-gives Next)
item_lasts of here (TItem-F.Stmt st) = of.run here st

pub items_lasts : {s : StmtParts} → LastingStmts s → (here : Context) (is : List TItem) → Lasts (items s here is)
items_lasts of here is = order_lasts (λ i. item_lasts of here (out-TItem i)) is

pub condition_lasts : {s : StmtParts} → LastingStmts s → (here : Context) (e : TExpr) → Lasts (condition s here e)
condition_lasts of here e = lasts-then ((of.expr here).value e.span e) (λ v. truth_lasts here e.span v)

pub or_true_lasts : {s : StmtParts} → LastingStmts s → (here : Context) (e : Option TExpr) → Lasts (condition_or_true s here e)
or_true_lasts of here None = lasts-gives true
or_true_lasts of here (Some e) = condition_lasts of here e

pub effect_of_lasts : {s : StmtParts} → LastingStmts s → (here : Context) (e : Option TExpr) → Lasts (effect s here e)
effect_of_lasts of here None = lasts-gives tt
effect_of_lasts of here (Some e) = run_lasts (of.expr here) e

around_lasts : (turn : Turn) {m : Run Flow} → Lasts m → Lasts (around turn m)
around_lasts Again lasts = lasts
around_lasts (Leaves flow) lasts = lasts-gives flow

again_lasts : (turn : Turn) {m : Run Turn} → Lasts m → Lasts (if_again turn m)
again_lasts Again lasts = lasts
again_lasts (Leaves flow) lasts = lasts-gives _

loop_lasts : {m : Run Turn} → Lasts m → (turns : ℕ) → Lasts (loop turns m)
loop_lasts lasts zero = lasts-stuck
loop_lasts lasts (suc turns) = lasts-then lasts (λ turn. around_lasts turn (loop_lasts lasts turns))

while_lasts : {s : StmtParts} → LastingStmts s → (here : Context) (e : TExpr) (st : TStmt) → Lasts (while_turn s here e st)
while_lasts of here e st = lasts-unit (lasts-then (condition_lasts of here e) (λ holds.
    lasts-choice holds (lasts-then (of.run here st) (λ flow. lasts-gives _)) (lasts-gives _)))

do_lasts : {s : StmtParts} → LastingStmts s → (here : Context) (st : TStmt) (e : TExpr) → Lasts (do_turn s here st e)
do_lasts of here st e = lasts-unit (lasts-then (of.run here st) (λ flow. again_lasts (after_body flow)
    (lasts-then (condition_lasts of here e) (λ holds. lasts-choice holds (lasts-gives Again) (lasts-gives _)))))

for_turn_lasts : {s : StmtParts} → LastingStmts s → (here : Context) (h : Heading) (st : TStmt) → Lasts (for_turn s here h st)
for_turn_lasts of here h st = lasts-unit (lasts-then (or_true_lasts of here h.condition) (λ holds. lasts-choice holds
    (lasts-then (of.run here st) (λ flow. again_lasts (after_body flow)
    (lasts-then (effect_of_lasts of here h.next) (λ _. lasts-gives Again)))) (lasts-gives _)))

for_lasts : {s : StmtParts} → LastingStmts s → (here : Context) (h : Heading) (st : TStmt) → Lasts (for_node s here h st)
for_lasts {s = s} of here h st = scope_lasts here (map local_of h.declared) (λ inner.
    lasts-then (declarations_lasts inner (of.expr inner) s.bound h.declared) (λ _.
    lasts-then (effect_of_lasts of inner h.first) (λ _. loop_lasts (for_turn_lasts of inner h st) s.bound)))

if_lasts : {s : StmtParts} → LastingStmts s → (here : Context) (e : TExpr) (st : TStmt) (other : Option TStmt) →
    Lasts (if_node s here e st other)
if_lasts of here e st None =
    lasts-then (condition_lasts of here e) (λ holds. lasts-choice holds (of.run here st) (lasts-gives Next))
if_lasts of here e st (Some other) =
    lasts-then (condition_lasts of here e) (λ holds. lasts-choice holds (of.run here st) (of.run here other))

returned_lasts : {s : StmtParts} → LastingStmts s → (here : Context) (e : Option TExpr) → Lasts (returned s here e)
returned_lasts of here None = lasts-gives _
returned_lasts of here (Some e) = lasts-then ((of.expr here).value e.span e) (λ v. lasts-gives _)

stmt_lasts : {s : StmtParts} → LastingStmts s → (here : Context) (st : StmtLayer) → Lasts (stmt_node s here st)
stmt_lasts of here (TStmt-F.Block is) = scope_lasts here (declared is) (λ inner. items_lasts of inner is)
stmt_lasts of here (TStmt-F.Expr e) = lasts-then (run_lasts (of.expr here) e) (λ _. lasts-gives Next)
stmt_lasts of here TStmt-F.Empty = lasts-gives Next
stmt_lasts of here (TStmt-F.If e st other) = if_lasts of here e st other
stmt_lasts {s = s} of here (TStmt-F.While e st) = loop_lasts (while_lasts of here e st) s.bound
stmt_lasts {s = s} of here (TStmt-F.DoWhile st e) = loop_lasts (do_lasts of here st e) s.bound
stmt_lasts of here (TStmt-F.For ds first e next st) = for_lasts of here _ st
stmt_lasts of here (TStmt-F.Return e span) = returned_lasts of here e
stmt_lasts of here (TStmt-F.Break span) = lasts-gives _
stmt_lasts of here (TStmt-F.Continue span) = lasts-gives _

pub statements_lasts : {c : Calls} → LastingCalls c → (depth : ℕ) → LastingStmts (statements_at c depth)
unfolding out-TStmt
statements_lasts of_calls zero = record { expr = λ here. parts_lasts of_calls here 0; run = λ here st. lasts-stuck }
statements_lasts of_calls (suc depth) =
    let below = statements_lasts of_calls depth in record {
      expr = λ here. parts_lasts of_calls here (suc depth);
      run = λ here st. stmt_lasts below here (out-TStmt st);
    }
