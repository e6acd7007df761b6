-- The machine computes statements, where it computes the calls in them.
use Rattle.std.proofs.Common.{ℕ, zero, suc, Bool, List, [], ◌∷◌, map, Option, Some, None}
use Rattle.c_type_base.specs.declared.expr.TExpr.{TExpr}
use Rattle.c_type_base.specs.declared.statement.TItem.{TItem, out-TItem}
use Rattle.c_type_base.specs.declared.statement.TItem.TheOpen.{TItem-F, TStmt-F}
use Rattle.c_type_base.specs.declared.statement.TStmt.{TStmt, out-TStmt}
use Rattle.block_meaning.specs.Expressions.{Calls}
use Rattle.block_meaning.specs.Locals.{scoped, new_locals, end_locals}
use Rattle.block_meaning.specs.Running.{Run, gives, and_then, choice, Context}
use Rattle.block_meaning.specs.Statements.{StmtLayer, ItemLayer, Flow, Next, StmtParts, on_next, local_of, declared, item_node, items}
use Rattle.block_meaning.specs.Statements.{condition, condition_or_true, effect, Turn, Again, Leaves, after_body, around, loop, if_again}
use Rattle.block_meaning.specs.Statements.{while_turn, do_turn, Heading, for_turn, for_node, if_node, stmt_node}
use Rattle.block_meaning.specs.Statements.{statements_at}
use Rattle.mean_machine.specs.Frames.{Loop, While, DoWhile, For, Execute, Declare, Effect, IfTest, Test, ThenTurn, Return, Items, Scope}
use Rattle.mean_machine.specs.Frames.{Body, AfterDeclarations, ForDeclared, Frame, OnFlow, OnDone, Runs}
use Rattle.mean_machine.specs.Going.{Stand, either, flow}
use Rattle.mean_machine.specs.Execution.{value_first, item, sequence, scope, test, turn, holding, effect_then_turn, by_turn, execute}
use Rattle.mean_machine.specs.Execution.{after_item}
use Rattle.mean_machine.specs.Laws.Computes.{Computes, computes-by, computes-stuck, computes-next, computes-then, computes-unit}
use Rattle.mean_machine.specs.Laws.Computes.{computes-either}
use Rattle.mean_machine.specs.Laws.Evaluation.{CallsCompute, PartsCompute, parts_compute}
use Rattle.mean_machine.specs.Laws.Declarations.{value_computes, declarations_compute}

pub record StmtsCompute (s : StmtParts) : Type 0 where
  pub expr : (here : Context) → PartsCompute here (s.expr here)
  pub run : (here : Context) (st : TStmt) (k : List Frame) → Computes (s.run here st) (Runs (Execute st) here k) (flow here k)

-- ---- one after another

item_computes : {s : StmtParts} → StmtsCompute s → (here : Context) (k : List Frame) (i : ItemLayer) →
    Computes (item_node s here i) (item here k i) (flow here k)
item_computes {s = s} of here k (TItem-F.Local ds) =
    computes-then (declarations_compute (of.expr here) s.bound ds (OnDone AfterDeclarations ∷ k)) (λ u. computes-next (computes-by _ _))
item_computes of here k (TItem-F.Stmt st) = of.run here st k

next_computes : {m : Run Flow} (here : Context) (k : List Frame) (is : List TItem) (f : Flow) →
    Computes m (sequence here k is) (flow here k) → Computes (on_next f m) (after_item here k is f) (flow here k)
next_computes here k is Next each = each
next_computes here k is f each = computes-by (gives f) (flow here k)

pub items_compute : {s : StmtParts} → StmtsCompute s → (here : Context) (k : List Frame) (is : List TItem) →
    Computes (items s here is) (sequence here k is) (flow here k)
items_compute of here k [] = computes-by _ _
items_compute of here k (i ∷ is) = computes-then (item_computes of here (OnFlow (Items is) ∷ k) (out-TItem i))
    (λ f. computes-next (next_computes here k is f (items_compute of here k is)))

scope_computes : {body : Context → Run Flow} (here : Context) (k : List Frame) (ns : List ℕ) (inside : Context → List Frame → Stand) →
    ((inner : Context) (k' : List Frame) → Computes (body inner) (inside inner k') (flow inner k')) →
    Computes (scoped here ns body) (scope here k ns inside) (flow here k)
scope_computes here k [] inside each = each here k
scope_computes here k (n ∷ ns) inside each = computes-unit (computes-then (computes-by (new_locals here (n ∷ ns)) _) (λ inner.
    computes-then (each inner (OnFlow (Scope here (n ∷ ns)) ∷ k)) (λ f.
    computes-next (computes-then (computes-by (end_locals inner (n ∷ ns)) _) (λ u. computes-by (gives f) (flow here k))))))

-- ---- loops

-- how a turn is over
abbrev ends : Context → List Frame → Loop → Turn → Stand
ends here k l Again = turn here k l
ends here k l (Leaves f) = flow here k f

around_computes : {m : Run Flow} (here : Context) (k : List Frame) (l : Loop) (t : Turn) → Computes m (turn here k l) (flow here k) →
    Computes (around t m) (ends here k l t) (flow here k)
around_computes here k l Again each = each
around_computes here k l (Leaves f) each = computes-by _ _

loop_computes : {m : Run Turn} (here : Context) (k : List Frame) (l : Loop) (turns : ℕ) → Computes m (turn here k l) (ends here k l) →
    Computes (loop turns m) (turn here k l) (flow here k)
loop_computes here k l zero each = computes-stuck _ _
loop_computes here k l (suc turns) each = computes-then each (λ t. around_computes here k l t (loop_computes here k l turns each))

-- where the condition leads
abbrev tested : Context → List Frame → Loop → Bool → Stand
tested here k l holds = either holds (holding here k l) (flow here k Next)

condition_computes : {s : StmtParts} → StmtsCompute s → (here : Context) (k : List Frame) (l : Loop) (e : TExpr) →
    Computes (condition s here e) (value_first here k e (Test l e)) (tested here k l)
condition_computes of here k l e = value_computes (of.expr here) k e (Test l e) (λ v. computes-by _ _)

or_true_computes : {s : StmtParts} → StmtsCompute s → (here : Context) (k : List Frame) (l : Loop) (e : Option TExpr) →
    Computes (condition_or_true s here e) (test here k l e (holding here k l)) (tested here k l)
or_true_computes of here k l None = computes-by _ _
or_true_computes of here k l (Some e) = condition_computes of here k l e

while_over : (here : Context) (k : List Frame) (e : TExpr) (st : TStmt) (t : Turn) →
    Computes (gives t) (by_turn here k (While e st) t) (ends here k (While e st))
while_over here k e st Again = computes-by _ _
while_over here k e st (Leaves f) = computes-by _ _

while_computes : {s : StmtParts} → StmtsCompute s → (here : Context) (k : List Frame) (e : TExpr) (st : TStmt) →
    Computes (while_turn s here e st) (turn here k (While e st)) (ends here k (While e st))
while_computes of here k e st =
    let l : Loop = While e st in
    computes-unit (computes-then (condition_computes of here k l e) (λ holds. computes-either holds
    (computes-then (of.run here st (OnFlow (Body l) ∷ k)) (λ f. computes-next (while_over here k e st (after_body f))))
    (computes-by (gives (Leaves Next)) (ends here k l))))

do_over : {s : StmtParts} → StmtsCompute s → (here : Context) (k : List Frame) (st : TStmt) (e : TExpr) (t : Turn) → Computes
    (if_again t (and_then (condition s here e) (λ holds.
    choice holds (gives Again) (gives (Leaves Next)))))
    (by_turn here k (DoWhile st e) t) (ends here k (DoWhile st e))
do_over of here k st e Again =
    let l : Loop = DoWhile st e in
    computes-then (condition_computes of here k l e) (λ holds.
    computes-either holds (computes-by (gives Again) (ends here k l)) (computes-by (gives (Leaves Next)) (ends here k l)))
do_over of here k st e (Leaves f) = computes-by _ _

do_computes : {s : StmtParts} → StmtsCompute s → (here : Context) (k : List Frame) (st : TStmt) (e : TExpr) →
    Computes (do_turn s here st e) (turn here k (DoWhile st e)) (ends here k (DoWhile st e))
do_computes of here k st e = computes-unit (computes-then (of.run here st (OnFlow (Body (DoWhile st e)) ∷ k))
    (λ f. computes-next (do_over of here k st e (after_body f))))

effect_computes : {s : StmtParts} {A : Type 0} {m : Run A} {to : A → Stand} → StmtsCompute s → (here : Context) (k : List Frame) (l : Loop)
    (e : Option TExpr) → Computes m (turn here k l) to → Computes (and_then (effect s here e) (λ u. m)) (effect_then_turn here k l e) to
effect_computes of here k l None each = each
effect_computes of here k l (Some e) each =
    computes-then (value_computes (of.expr here) k e (ThenTurn l) (λ v. computes-by (gives tt) (λ u. turn here k l))) (λ u. each)

for_over : {s : StmtParts} → StmtsCompute s → (here : Context) (k : List Frame) (h : Heading) (st : TStmt) (t : Turn) → Computes
    (if_again t (and_then (effect s here h.next) (λ u. gives Again)))
    (by_turn here k (For h st) t) (ends here k (For h st))
for_over of here k h st Again = effect_computes of here k (For h st) h.next (computes-by (gives Again) (ends here k (For h st)))
for_over of here k h st (Leaves f) = computes-by _ _

for_turn_computes : {s : StmtParts} → StmtsCompute s → (here : Context) (k : List Frame) (h : Heading) (st : TStmt) →
    Computes (for_turn s here h st) (turn here k (For h st)) (ends here k (For h st))
for_turn_computes of here k h st =
    let l : Loop = For h st in
    computes-unit (computes-then (or_true_computes of here k l h.condition) (λ holds. computes-either holds
    (computes-then (of.run here st (OnFlow (Body l) ∷ k)) (λ f. computes-next (for_over of here k h st (after_body f))))
    (computes-by (gives (Leaves Next)) (ends here k l))))

for_computes : {s : StmtParts} → StmtsCompute s → (here : Context) (k : List Frame) (h : Heading) (st : TStmt) → Computes
    (for_node s here h st)
    (scope here k (map local_of h.declared) (λ inner k'. Runs (Declare h.declared) inner (OnDone (ForDeclared h st) ∷ k'))) (flow here k)
for_computes {s = s} of here k h st = scope_computes here k (map local_of h.declared) _ (λ inner k'.
    computes-then (declarations_compute (of.expr inner) s.bound h.declared (OnDone (ForDeclared h st) ∷ k')) (λ u.
    computes-next (effect_computes of inner k' (For h st) h.first
    (loop_computes inner k' (For h st) s.bound (for_turn_computes of inner k' h st)))))

-- ---- all of them

if_computes : {s : StmtParts} → StmtsCompute s → (here : Context) (k : List Frame) (e : TExpr) (st : TStmt) (other : Option TStmt) →
    Computes (if_node s here e st other) (value_first here k e (IfTest e st other)) (flow here k)
if_computes of here k e st None = computes-then (value_computes (of.expr here) k e (IfTest e st None) (λ v. computes-by _ _))
    (λ holds. computes-either holds (of.run here st k) (computes-by _ _))
if_computes of here k e st (Some other) =
    computes-then (value_computes (of.expr here) k e (IfTest e st (Some other)) (λ v. computes-by _ _))
    (λ holds. computes-either holds (of.run here st k) (of.run here other k))

stmt_computes : {s : StmtParts} → StmtsCompute s → (here : Context) (k : List Frame) (st : StmtLayer) →
    Computes (stmt_node s here st) (execute here k st) (flow here k)
stmt_computes of here k (TStmt-F.Block is) = scope_computes here k (declared is) _ (λ inner k'. items_compute of inner k' is)
stmt_computes of here k (TStmt-F.Expr e) =
    computes-then (value_computes (of.expr here) k e Effect (λ v. computes-by (gives tt) (λ u. flow here k Next))) (λ u. computes-by _ _)
stmt_computes of here k TStmt-F.Empty = computes-by _ _
stmt_computes of here k (TStmt-F.If e st other) = if_computes of here k e st other
stmt_computes {s = s} of here k (TStmt-F.While e st) = loop_computes here k (While e st) s.bound (while_computes of here k e st)
stmt_computes {s = s} of here k (TStmt-F.DoWhile st e) = loop_computes here k (DoWhile st e) s.bound (do_computes of here k st e)
stmt_computes of here k (TStmt-F.For ds first e next st) = for_computes of here k _ st
stmt_computes of here k (TStmt-F.Return None span) = computes-by _ _
stmt_computes of here k (TStmt-F.Return (Some e) span) = value_computes (of.expr here) k e Return (λ v. computes-by _ _)
stmt_computes of here k (TStmt-F.Break span) = computes-by _ _
stmt_computes of here k (TStmt-F.Continue span) = computes-by _ _

pub statements_compute : {calls : Calls} → CallsCompute calls → (depth : ℕ) → StmtsCompute (statements_at calls depth)
statements_compute of_calls zero = record { expr = λ here. parts_compute of_calls here 0; run = λ here st k. computes-stuck _ _ }
statements_compute {calls = calls} of_calls (suc depth) =
    let below : StmtsCompute (statements_at calls depth) = statements_compute of_calls depth in record {
      expr = λ here. parts_compute of_calls here (suc depth);
      run = λ here st k. computes-next (stmt_computes below here k (out-TStmt st));
    }
