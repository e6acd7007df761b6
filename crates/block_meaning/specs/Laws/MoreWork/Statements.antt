-- Statements do the same with more work, or have put a part of it.
use Rattle.std.proofs.Common.{ℕ, zero, suc, true, List, []}
use Rattle.std.proofs.Common.{◌∷◌, map, Option, Some, None}
use Rattle.c_type_base.specs.declared.expr.TExpr.{TExpr}
use Rattle.c_type_base.specs.declared.statement.TItem.{TItem, out-TItem}
use Rattle.c_type_base.specs.declared.statement.TItem.TheOpen.{TItem-F, TStmt-F}
use Rattle.c_type_base.specs.declared.statement.TStmt.{TStmt, out-TStmt}
use Rattle.block_meaning.specs.Expressions.{Calls}
use Rattle.block_meaning.specs.Laws.Steady.{Steady, steady-gives}
use Rattle.block_meaning.specs.Laws.Steady.{steady-stuck, steady-then, steady-unit}
use Rattle.block_meaning.specs.Laws.Steady.{steady-choice}
use Rattle.block_meaning.specs.Running.{Run, Context}
use Rattle.block_meaning.specs.Statements.{StmtLayer, ItemLayer, Flow, Next, StmtParts, on_next, in_order, local_of, declared, item_node}
use Rattle.block_meaning.specs.Statements.{items, condition, condition_or_true, effect, Turn, Again, Leaves, after_body, around, loop}
use Rattle.block_meaning.specs.Statements.{if_again, while_turn, do_turn, Heading, for_turn, for_node, if_node, returned, stmt_node}
use Rattle.block_meaning.specs.Statements.{statements_at}
use Rattle.block_meaning.specs.Laws.MoreWork.Values.{truth_steady}
use Rattle.block_meaning.specs.Laws.MoreWork.Expressions.{SteadyParts, SteadyCalls, parts_steady}
use Rattle.block_meaning.specs.Laws.MoreWork.Locals.{scope_steady, run_steady, declarations_steady}

pub record SteadyStmts (s : StmtParts) : Type 0 where
  pub expr : (here : Context) → SteadyParts (s.expr here)
  pub run : (here : Context) (st : TStmt) → Steady (s.run here st)

next_steady : (flow : Flow) {m : Run Flow} → Steady m → Steady (on_next flow m)
next_steady Next steady = steady
next_steady _ steady = steady-gives _

order_steady : {A : Type 0} {f : A → Run Flow} → ((a : A) → Steady (f a)) → (as' : List A) → Steady (in_order (map f as'))
order_steady each [] = steady-gives Next
order_steady each (a ∷ as') = steady-then (each a) (λ flow. next_steady flow (order_steady each as'))

item_steady : {s : StmtParts} → SteadyStmts s → (here : Context) (i : ItemLayer) → Steady (item_node s here i)
item_steady {s = s} of here (TItem-F.Local ds) = steady-then (declarations_steady here (of.expr here) s.bound ds) (λ _. steady-gives Next)
item_steady of here (TItem-F.Stmt st) = of.run here st

pub items_steady : {s : StmtParts} → SteadyStmts s → (here : Context) (is : List TItem) → Steady (items s here is)
items_steady of here is = order_steady (λ i. item_steady of here (out-TItem i)) is

condition_steady : {s : StmtParts} → SteadyStmts s → (here : Context) (e : TExpr) → Steady (condition s here e)
condition_steady of here e = steady-then ((of.expr here).value e.span e) (λ v. truth_steady here e.span v)

or_true_steady : {s : StmtParts} → SteadyStmts s → (here : Context) (e : Option TExpr) → Steady (condition_or_true s here e)
or_true_steady of here None = steady-gives true
or_true_steady of here (Some e) = condition_steady of here e

effect_of_steady : {s : StmtParts} → SteadyStmts s → (here : Context) (e : Option TExpr) → Steady (effect s here e)
effect_of_steady of here None = steady-gives tt
effect_of_steady of here (Some e) = run_steady (of.expr here) e

around_steady : (turn : Turn) {m : Run Flow} → Steady m → Steady (around turn m)
around_steady Again steady = steady
around_steady (Leaves flow) steady = steady-gives flow

again_steady : (turn : Turn) {m : Run Turn} → Steady m → Steady (if_again turn m)
again_steady Again steady = steady
again_steady (Leaves flow) steady = steady-gives _

loop_steady : {m : Run Turn} → Steady m → (turns : ℕ) → Steady (loop turns m)
loop_steady steady zero = steady-stuck
loop_steady steady (suc turns) = steady-then steady (λ turn. around_steady turn (loop_steady steady turns))

while_steady : {s : StmtParts} → SteadyStmts s → (here : Context) (e : TExpr) (st : TStmt) → Steady (while_turn s here e st)
while_steady of here e st = steady-unit (steady-then (condition_steady of here e) (λ holds.
    steady-choice holds (steady-then (of.run here st) (λ flow. steady-gives _)) (steady-gives _)))

do_steady : {s : StmtParts} → SteadyStmts s → (here : Context) (st : TStmt) (e : TExpr) → Steady (do_turn s here st e)
do_steady of here st e = steady-unit (steady-then (of.run here st) (λ flow. again_steady (after_body flow)
    (steady-then (condition_steady of here e) (λ holds. steady-choice holds (steady-gives Again) (steady-gives _)))))

for_turn_steady : {s : StmtParts} → SteadyStmts s → (here : Context) (h : Heading) (st : TStmt) → Steady (for_turn s here h st)
for_turn_steady of here h st = steady-unit (steady-then (or_true_steady of here h.condition) (λ holds. steady-choice holds
    (steady-then (of.run here st) (λ flow. again_steady (after_body flow)
    (steady-then (effect_of_steady of here h.next) (λ _. steady-gives Again)))) (steady-gives _)))

for_steady : {s : StmtParts} → SteadyStmts s → (here : Context) (h : Heading) (st : TStmt) → Steady (for_node s here h st)
for_steady {s = s} of here h st = scope_steady here (map local_of h.declared) (λ inner.
    steady-then (declarations_steady inner (of.expr inner) s.bound h.declared) (λ _.
    steady-then (effect_of_steady of inner h.first) (λ _. loop_steady (for_turn_steady of inner h st) s.bound)))

if_steady : {s : StmtParts} → SteadyStmts s → (here : Context) (e : TExpr) (st : TStmt) (other : Option TStmt) →
    Steady (if_node s here e st other)
if_steady of here e st None =
    steady-then (condition_steady of here e) (λ holds. steady-choice holds (of.run here st) (steady-gives Next))
if_steady of here e st (Some other) =
    steady-then (condition_steady of here e) (λ holds. steady-choice holds (of.run here st) (of.run here other))

returned_steady : {s : StmtParts} → SteadyStmts s → (here : Context) (e : Option TExpr) → Steady (returned s here e)
returned_steady of here None = steady-gives _
returned_steady of here (Some e) = steady-then ((of.expr here).value e.span e) (λ v. steady-gives _)

stmt_steady : {s : StmtParts} → SteadyStmts s → (here : Context) (st : StmtLayer) → Steady (stmt_node s here st)
stmt_steady of here (TStmt-F.Block is) = scope_steady here (declared is) (λ inner. items_steady of inner is)
stmt_steady of here (TStmt-F.Expr e) = steady-then (run_steady (of.expr here) e) (λ _. steady-gives Next)
stmt_steady of here TStmt-F.Empty = steady-gives Next
stmt_steady of here (TStmt-F.If e st other) = if_steady of here e st other
stmt_steady {s = s} of here (TStmt-F.While e st) = loop_steady (while_steady of here e st) s.bound
stmt_steady {s = s} of here (TStmt-F.DoWhile st e) = loop_steady (do_steady of here st e) s.bound
stmt_steady of here (TStmt-F.For ds first e next st) = for_steady of here _ st
stmt_steady of here (TStmt-F.Return e span) = returned_steady of here e
stmt_steady of here (TStmt-F.Break span) = steady-gives _
stmt_steady of here (TStmt-F.Continue span) = steady-gives _

pub statements_steady : {c : Calls} → SteadyCalls c → (depth : ℕ) → SteadyStmts (statements_at c depth)
unfolding out-TStmt
statements_steady of_calls zero = record { expr = λ here. parts_steady of_calls here 0; run = λ here st. steady-stuck }
statements_steady of_calls (suc depth) =
    let below = statements_steady of_calls depth in record {
      expr = λ here. parts_steady of_calls here (suc depth);
      run = λ here st. stmt_steady below here (out-TStmt st);
    }
