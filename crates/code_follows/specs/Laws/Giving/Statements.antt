-- What a statement returns is of the type of its function's result (this project's own).
use Rattle.std.specs.Prelude.{ℕ, zero, suc, List, [], ◌∷◌, map}
use Rattle.std.proofs.Common.{subst}
use Rattle.c_type_base.specs.declared.expr.TExpr.{TExpr}
use Rattle.c_type_base.specs.declared.statement.TItem.{TItem, out-TItem}
use Rattle.c_type_base.specs.declared.statement.TItem.TheOpen.{TItem-F}
use Rattle.c_type_base.specs.declared.statement.TStmt.{TStmt, out-TStmt}
use Rattle.c_type_base.specs.declared.ty.Ty.{Ty}
use Rattle.block_meaning.specs.Blocks.{Block}
use Rattle.block_meaning.specs.Expressions.{Calls}
use Rattle.block_meaning.specs.ExpressionsInOrder.{Scope}
use Rattle.block_meaning.specs.Locals.{latest, local_info, new_block, new_locals, scoped}
use Rattle.block_meaning.specs.Running.{Run, Context, State as MeaningState}
use Rattle.block_meaning.specs.Statements.{StmtLayer, ItemLayer, Flow, Next, Broke, Continued, Returned, StmtParts, on_next}
use Rattle.block_meaning.specs.Statements.{local_of, declared, item_node, items, condition, Turn, Again, Leaves, after_body}
use Rattle.block_meaning.specs.Statements.{around, loop, if_again, stmt_node, statements_at}
use Rattle.block_meaning.specs.StatementsInOrder as order
use Rattle.block_meaning.specs.StatementsInOrder.{StatementInOrder, ItemInOrder, Items}
use Rattle.block_meaning.specs.declared.value.Value.TheVariants.{NoValue}
use Rattle.code_follows.specs.Giving as giving
use Rattle.code_follows.specs.Giving.{Gives, Returns, ItemReturns, ItemsReturn}
use Rattle.code_follows.specs.Later.{AreBytes}
use Rattle.code_follows.specs.Values.{IsOfType}
use Rattle.code_follows.specs.Laws.Giving.Calls.{CallsGiving, IsHere}
use Rattle.code_follows.specs.Laws.Giving.Expressions.{PartsGive, parts_give}
use Rattle.code_follows.specs.Laws.Giving.Values.{of_no_value}
use Rattle.code_follows.specs.Laws.Giving.Words.{Any, goes_value, goes_state, gives-gives, gives-stops, gives-any, gives-then, gives-unit}
use Rattle.code_follows.specs.Laws.Giving.Words.{gives-choice, gives-some}
use Rattle.code_follows.specs.Laws.Lasting.Expressions.{LastingCalls}
use Rattle.code_follows.specs.Laws.Lasting.Locals.{end_locals_lasts, run_lasts, declarations_lasts}
use Rattle.code_follows.specs.Laws.Lasting.Statements.{LastingStmts, condition_lasts, or_true_lasts, effect_of_lasts, statements_lasts}

-- by how a statement is left
abbrev pub FlowOf : Ty → Flow → Type 0
FlowOf t (Returned v) = IsOfType t v
FlowOf t _ = Unit {0}

abbrev TurnOf : Ty → Turn → Type 0
TurnOf t Again = Unit {0}
TurnOf t (Leaves flow) = FlowOf t flow

body_turn : (t : Ty) (flow : Flow) → FlowOf t flow → TurnOf t (after_body flow)
body_turn t Next of = tt
body_turn t Continued of = tt
body_turn t Broke of = tt
body_turn t (Returned v) of = of

next_gives : (t : Ty) (flow : Flow) {m : Run Flow} → FlowOf t flow → Gives m (FlowOf t) → Gives (on_next flow m) (FlowOf t)
next_gives t Next of rest = rest
next_gives t Broke of rest = gives-gives Broke tt
next_gives t Continued of rest = gives-gives Continued tt
next_gives t (Returned v) of rest = gives-gives (Returned v) of

around_gives : (t : Ty) (turn : Turn) {m : Run Flow} → TurnOf t turn → Gives m (FlowOf t) → Gives (around turn m) (FlowOf t)
around_gives t Again of rest = rest
around_gives t (Leaves flow) of rest = gives-gives flow of

again_gives : (t : Ty) (turn : Turn) {m : Run Turn} → TurnOf t turn → Gives m (TurnOf t) → Gives (if_again turn m) (TurnOf t)
again_gives t Again of rest = rest
again_gives t (Leaves flow) of rest = gives-gives (Leaves flow) of

loop_gives : (t : Ty) {m : Run Turn} → Gives m (TurnOf t) → (turns : ℕ) → Gives (loop turns m) (FlowOf t)
loop_gives t turn zero = gives-stops _
loop_gives t turn (suc turns) = gives-then turn (λ left of. around_gives t left of (loop_gives t turn turns))

-- ---- scopes

pub block_gives : {s : Scope} (here : Context) → IsHere s here → (k : ℕ) (b : Block) → Gives (new_block here k b) (IsHere s)
block_gives {s} here is_here k b = record {
  gives = λ now later inner bytes ran. (
    subst (IsHere s) (goes_value ran.is) (record { program_is = is_here.program_is; unit_is = is_here.unit_is }),
    subst (λ (state : MeaningState). AreBytes state.input) (goes_state ran.is) bytes,
  );
}

pub locals_give : {s : Scope} (here : Context) → IsHere s here → (ks : List ℕ) → Gives (new_locals here ks) (IsHere s)
locals_give here is_here [] = gives-gives here is_here
locals_give here is_here (k ∷ ks) =
    gives-then (gives-some (latest here.open_calls) (λ c c_is. gives-some (local_info here c k) (λ l l_is. block_gives here is_here k _)))
    (λ inner inner_is. locals_give inner inner_is ks)

scope_gives : {A : Type 0} {P : A → Type 0} {s : Scope} (here : Context) → IsHere s here → (ks : List ℕ) {f : Context → Run A} →
    ((inner : Context) → IsHere s inner → Gives (f inner) P) → Gives (scoped here ks f) P
scope_gives here is_here [] each = each here is_here
scope_gives here is_here (k ∷ ks) each = gives-unit (gives-then (locals_give here is_here (k ∷ ks)) (λ inner inner_is.
    gives-then (each inner inner_is) (λ a of.
    gives-then (gives-any (end_locals_lasts inner (k ∷ ks))) (λ x any. gives-gives a of))))

-- ---- statements

-- what stands in a function of a program whose calls give
pub record StmtsGive (p : StmtParts) (s : Scope) : Type 0 where
  pub run : (ks : List ℕ) (here : Context) → IsHere s here → (st : TStmt) → StatementInOrder (record s { locals = ks }) (out-TStmt st) →
      Returns (out-TStmt st) → Gives (p.run here st) (FlowOf s.function.result)
  pub expr : (ks : List ℕ) (here : Context) → IsHere s here → PartsGive (record s { locals = ks }) (p.expr here)

module _ (p : StmtParts) (s : Scope) (lasting : LastingStmts p) (give : StmtsGive p s) where
  abbrev result : Ty
  result = s.function.result

  item_gives : (ks : List ℕ) (here : Context) → IsHere s here → (i : ItemLayer) → ItemInOrder (record s { locals = ks }) i →
      ItemReturns i → Gives (item_node p here i) (FlowOf result)
  item_gives ks here is_here (TItem-F.Local ds) d covers =
      gives-then (gives-any (declarations_lasts here (lasting.expr here) p.bound ds)) (λ x any. gives-gives Next tt)
  item_gives ks here is_here (TItem-F.Stmt st) (order.statement d) (giving.statement covers) = give.run ks here is_here st d covers

  pub items_give : (ks : List ℕ) (here : Context) → IsHere s here → (is : List TItem) → Items (record s { locals = ks }) is →
      ItemsReturn is → Gives (items p here is) (FlowOf result)
  items_give ks here is_here [] d covers = gives-gives Next tt
  items_give ks here is_here (i ∷ is) (order.item d ds) (giving.item covers more) =
      gives-then (item_gives ks here is_here (out-TItem i) d covers) (λ flow of.
      next_gives result flow of (items_give ks here is_here is ds more))

  tested : (here : Context) (e : TExpr) → Gives (condition p here e) Any
  tested here e = gives-any (condition_lasts lasting here e)

  stmt_gives : (ks : List ℕ) (here : Context) → IsHere s here → (st : StmtLayer) → StatementInOrder (record s { locals = ks }) st →
      Returns st → Gives (stmt_node p here st) (FlowOf result)
  stmt_gives ks here is_here st (order.block {is = parts} d) (giving.block covers) =
      scope_gives here is_here (declared parts) (λ inner inner_is. items_give _ inner inner_is parts d covers)
  stmt_gives ks here is_here st (order.expression {e = e} d) covers =
      gives-then (gives-any (run_lasts (lasting.expr here) e)) (λ x any. gives-gives Next tt)
  stmt_gives ks here is_here st order.empty covers = gives-gives Next tt
  stmt_gives ks here is_here st (order.if_alone {e = e} {st = body} c d) (giving.if_alone covers) =
      gives-then (tested here e) (λ holds any. gives-choice holds (give.run ks here is_here body d covers) (gives-gives Next tt))
  stmt_gives ks here is_here st (order.if_else {e = e} {st = body} {other} c d x) (giving.if_else covers more) =
      gives-then (tested here e) (λ holds any.
      gives-choice holds (give.run ks here is_here body d covers) (give.run ks here is_here other x more))
  stmt_gives ks here is_here st (order.while {e = e} {st = body} c d) (giving.while covers) =
      loop_gives result (gives-unit (gives-then (tested here e) (λ holds any. gives-choice holds
      (gives-then (give.run ks here is_here body d covers) (λ flow of. gives-gives (after_body flow) (body_turn result flow of)))
      (gives-gives (Leaves Next) tt)))) p.bound
  stmt_gives ks here is_here st (order.do_while {e = e} {st = body} d c) (giving.do_while covers) =
      loop_gives result (gives-unit (gives-then (give.run ks here is_here body d covers) (λ flow of.
      again_gives result (after_body flow) (body_turn result flow of)
      (gives-then (tested here e) (λ holds any. gives-choice holds (gives-gives Again tt) (gives-gives (Leaves Next) tt)))))) p.bound
  stmt_gives ks here is_here st (order.for {ds = ds} {first} {condition = c} {next} {st = body} ds_in first_in c_in next_in d)
      (giving.for covers) =
      scope_gives here is_here (map local_of ds) (λ inner inner_is.
      gives-then (gives-any (declarations_lasts inner (lasting.expr inner) p.bound ds)) (λ x any.
      gives-then (gives-any (effect_of_lasts lasting inner first)) (λ y any.
      loop_gives result (gives-unit (gives-then (gives-any (or_true_lasts lasting inner c)) (λ holds any. gives-choice holds
      (gives-then (give.run _ inner inner_is body d covers) (λ flow of. again_gives result (after_body flow) (body_turn result flow of)
      (gives-then (gives-any (effect_of_lasts lasting inner next)) (λ z any. gives-gives Again tt))))
      (gives-gives (Leaves Next) tt)))) p.bound)))
  stmt_gives ks here is_here st (order.return {span = span} void) covers = gives-gives (Returned NoValue) (of_no_value result void)
  stmt_gives ks here is_here st (order.return_value {e = e} {span = span} d same) (giving.return_value covers) =
      gives-then ((give.expr ks here is_here).value e.span e d covers)
      (λ v of. gives-gives (Returned v) (subst (λ t. IsOfType t v) same of))
  stmt_gives ks here is_here st order.break covers = gives-gives Broke tt
  stmt_gives ks here is_here st order.continue covers = gives-gives Continued tt

-- with any number of levels below
pub statements_give : {c : Calls} (s : Scope) → CallsGiving s.program c → LastingCalls c → (depth : ℕ) → StmtsGive (statements_at c depth) s
unfolding out-TStmt
statements_give {c} s calls lasts zero = record {
  run = λ ks here is_here st d covers. gives-stops _;
  expr = λ ks here is_here. parts_give {s = record s { locals = ks }} {c = c} calls lasts here
      (record { program_is = is_here.program_is; unit_is = is_here.unit_is }) zero;
}
statements_give {c} s calls lasts (suc depth) = record {
  run = λ ks here is_here st d covers. stmt_gives (statements_at c depth) s (statements_lasts {c = c} lasts depth)
      (statements_give {c = c} s calls lasts depth) ks here is_here (out-TStmt st) d covers;
  expr = λ ks here is_here. parts_give {s = record s { locals = ks }} {c = c} calls lasts here
      (record { program_is = is_here.program_is; unit_is = is_here.unit_is }) (suc depth);
}
