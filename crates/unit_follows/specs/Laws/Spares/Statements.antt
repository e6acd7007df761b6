-- Statements keep the blocks that were there, in contexts whose locals came later (this project's own).
use Rattle.std.proofs.Common.{ℕ, zero, suc, true, List, []}
use Rattle.std.proofs.Common.{◌∷◌, map, Option, Some, None}
use Rattle.c_type_base.specs.declared.expr.TExpr.{TExpr}
use Rattle.c_type_base.specs.declared.statement.TItem.{TItem, out-TItem}
use Rattle.c_type_base.specs.declared.statement.TItem.TheOpen.{TItem-F, TStmt-F}
use Rattle.c_type_base.specs.declared.statement.TStmt.{TStmt, out-TStmt}
use Rattle.block_meaning.specs.Expressions.{Calls}
use Rattle.unit_follows.specs.Laws.Spares.Runs.{Moment, Spares, spares-gives}
use Rattle.unit_follows.specs.Laws.Spares.Runs.{spares-stuck, spares-then, spares-unit}
use Rattle.unit_follows.specs.Laws.Spares.Runs.{spares-choice}
use Rattle.block_meaning.specs.Running.{Run, Context}
use Rattle.block_meaning.specs.Statements.{StmtLayer, ItemLayer, Flow, Next, StmtParts, on_next, in_order, local_of, declared, item_node}
use Rattle.block_meaning.specs.Statements.{items, condition, condition_or_true, effect, Turn, Again, Leaves, after_body, around, loop}
use Rattle.block_meaning.specs.Statements.{if_again, while_turn, do_turn, Heading, for_turn, for_node, if_node, returned, stmt_node}
use Rattle.block_meaning.specs.Statements.{statements_at}
use Rattle.unit_follows.specs.Laws.Spares.Values.{truth_spares}
use Rattle.unit_follows.specs.Laws.Spares.Expressions.{SparesParts, SparesCalls, parts_spares}
use Rattle.unit_follows.specs.Laws.Spares.Locals.{IsAbove, scope_spares, run_spares, declarations_spares}

pub record SparesStmts (mark : Moment) (s : StmtParts) : Type 0 where
  pub expr : (here : Context) → SparesParts mark (s.expr here)
  pub run : (here : Context) → IsAbove mark here → (st : TStmt) → Spares mark (s.run here st)

next_spares : {mark : Moment} (flow : Flow) {m : Run Flow} → Spares mark m → Spares mark (on_next flow m)
next_spares Next spares = spares
next_spares _ spares = spares-gives _

order_spares : {mark : Moment} {A : Type 0} {f : A → Run Flow} → ((a : A) → Spares mark (f a)) → (as' : List A) →
    Spares mark (in_order (map f as'))
order_spares each [] = spares-gives Next
order_spares each (a ∷ as') = spares-then (each a) (λ flow. next_spares flow (order_spares each as'))

item_spares : {mark : Moment} {s : StmtParts} → SparesStmts mark s → (here : Context) (above : IsAbove mark here) (i : ItemLayer) →
    Spares mark (item_node s here i)
item_spares {s =
    s} of here above (TItem-F.Local ds) = spares-then (declarations_spares here (of.expr here) s.bound ds) (λ _. spares-gives Next)
item_spares of here above (TItem-F.Stmt st) = of.run here above st

pub items_spares : {mark : Moment} {s : StmtParts} → SparesStmts mark s →
    (here : Context) (above : IsAbove mark here) (is : List TItem) → Spares mark (items s here is)
items_spares of here above is = order_spares (λ i. item_spares of here above (out-TItem i)) is

condition_spares : {mark : Moment} {s : StmtParts} → SparesStmts mark s → (here : Context) (above : IsAbove mark here) (e : TExpr) →
    Spares mark (condition s here e)
condition_spares of here above e = spares-then ((of.expr here).value e.span e) (λ v. truth_spares here e.span v)

or_true_spares : {mark : Moment} {s : StmtParts} → SparesStmts mark s → (here : Context) (above : IsAbove mark here) (e : Option TExpr) →
    Spares mark (condition_or_true s here e)
or_true_spares of here above None = spares-gives true
or_true_spares of here above (Some e) = condition_spares of here above e

effect_of_spares : {mark : Moment} {s : StmtParts} → SparesStmts mark s →
    (here : Context) (above : IsAbove mark here) (e : Option TExpr) → Spares mark (effect s here e)
effect_of_spares of here above None = spares-gives tt
effect_of_spares of here above (Some e) = run_spares (of.expr here) e

around_spares : {mark : Moment} (turn : Turn) {m : Run Flow} → Spares mark m → Spares mark (around turn m)
around_spares Again spares = spares
around_spares (Leaves flow) spares = spares-gives flow

again_spares : {mark : Moment} (turn : Turn) {m : Run Turn} → Spares mark m → Spares mark (if_again turn m)
again_spares Again spares = spares
again_spares (Leaves flow) spares = spares-gives _

loop_spares : {mark : Moment} {m : Run Turn} → Spares mark m → (turns : ℕ) → Spares mark (loop turns m)
loop_spares spares zero = spares-stuck
loop_spares spares (suc turns) = spares-then spares (λ turn. around_spares turn (loop_spares spares turns))

while_spares : {mark : Moment} {s : StmtParts} → SparesStmts mark s →
    (here : Context) (above : IsAbove mark here) (e : TExpr) (st : TStmt) → Spares mark (while_turn s here e st)
while_spares of here above e st = spares-unit (spares-then (condition_spares of here above e) (λ holds.
    spares-choice holds (spares-then (of.run here above st) (λ flow. spares-gives _)) (spares-gives _)))

do_spares : {mark : Moment} {s : StmtParts} → SparesStmts mark s →
    (here : Context) (above : IsAbove mark here) (st : TStmt) (e : TExpr) → Spares mark (do_turn s here st e)
do_spares of here above st e = spares-unit (spares-then (of.run here above st) (λ flow. again_spares (after_body flow)
    (spares-then (condition_spares of here above e) (λ holds. spares-choice holds (spares-gives Again) (spares-gives _)))))

for_turn_spares : {mark : Moment} {s : StmtParts} → SparesStmts mark s →
    (here : Context) (above : IsAbove mark here) (h : Heading) (st : TStmt) → Spares mark (for_turn s here h st)
for_turn_spares of here above h st = spares-unit (spares-then (or_true_spares of here above h.condition) (λ holds. spares-choice holds
    (spares-then (of.run here above st) (λ flow. again_spares (after_body flow)
    (spares-then (effect_of_spares of here above h.next) (λ _. spares-gives Again)))) (spares-gives _)))

for_spares : {mark : Moment} {s : StmtParts} → SparesStmts mark s →
    (here : Context) (above : IsAbove mark here) (h : Heading) (st : TStmt) → Spares mark (for_node s here h st)
for_spares {s = s} of here above h st = scope_spares here (map local_of h.declared) above (λ inner over.
    spares-then (declarations_spares inner (of.expr inner) s.bound h.declared) (λ _.
    spares-then (effect_of_spares of inner over h.first) (λ _. loop_spares (for_turn_spares of inner over h st) s.bound)))

if_spares : {mark : Moment} {s : StmtParts} → SparesStmts mark s →
    (here : Context) (above : IsAbove mark here) (e : TExpr) (st : TStmt) (other : Option TStmt) →
    Spares mark (if_node s here e st other)
if_spares of here above e st None =
    spares-then (condition_spares of here above e) (λ holds. spares-choice holds (of.run here above st) (spares-gives Next))
if_spares of here above e st (Some other) =
    spares-then (condition_spares of here above e) (λ holds. spares-choice holds (of.run here above st) (of.run here above other))

returned_spares : {mark : Moment} {s : StmtParts} → SparesStmts mark s →
    (here : Context) (above : IsAbove mark here) (e : Option TExpr) → Spares mark (returned s here e)
returned_spares of here above None = spares-gives _
returned_spares of here above (Some e) = spares-then ((of.expr here).value e.span e) (λ v. spares-gives _)

stmt_spares : {mark : Moment} {s : StmtParts} → SparesStmts mark s → (here : Context) (above : IsAbove mark here) (st : StmtLayer) →
    Spares mark (stmt_node s here st)
stmt_spares of here above (TStmt-F.Block is) = scope_spares here (declared is) above (λ inner over. items_spares of inner over is)
stmt_spares of here above (TStmt-F.Expr e) = spares-then (run_spares (of.expr here) e) (λ _. spares-gives Next)
stmt_spares of here above TStmt-F.Empty = spares-gives Next
stmt_spares of here above (TStmt-F.If e st other) = if_spares of here above e st other
stmt_spares {s = s} of here above (TStmt-F.While e st) = loop_spares (while_spares of here above e st) s.bound
stmt_spares {s = s} of here above (TStmt-F.DoWhile st e) = loop_spares (do_spares of here above st e) s.bound
stmt_spares of here above (TStmt-F.For ds first e next st) = for_spares of here above _ st
stmt_spares of here above (TStmt-F.Return e span) = returned_spares of here above e
stmt_spares of here above (TStmt-F.Break span) = spares-gives _
stmt_spares of here above (TStmt-F.Continue span) = spares-gives _

pub statements_spares : {mark : Moment} {c : Calls} → SparesCalls mark c → (depth : ℕ) → SparesStmts mark (statements_at c depth)
unfolding out-TStmt
statements_spares of_calls zero = record { expr = λ here. parts_spares of_calls here 0; run = λ here above st. spares-stuck }
statements_spares of_calls (suc depth) =
    let below = statements_spares of_calls depth in record {
      expr = λ here. parts_spares of_calls here (suc depth);
      run = λ here above st. stmt_spares below here above (out-TStmt st);
    }
