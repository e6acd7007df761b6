-- A statement in order is safe where the bound is at least the levels that it needs and the work that is left.
use Rattle.std.proofs.Common.{◌≡◌, subst, ℕ, zero, suc, ◌+◌, ◌≤◌, ◌<◌, arith, true, List, [], ◌∷◌}
use Rattle.std.proofs.Common.{◌++◌}
use Rattle.std.proofs.Common.{map, Option, Some, None}
use Rattle.std.specs.Prelude.{IfSome}
use Rattle.std.specs.List.{All}
use Rattle.std.proofs.lemmas.List.Elements.{All-nil, All-cons, All-head, All-tail, All-append}
use Rattle.c_ast.specs.declared.token.Span.{Span}
use Rattle.c_type_base.specs.declared.ty.Ty.{Ty}
use Rattle.c_type_base.specs.declared.expr.TExpr.{TExpr}
use Rattle.c_type_base.specs.declared.statement.TDecl.{TDecl}
use Rattle.c_type_base.specs.declared.statement.TItem.{TItem, out-TItem}
use Rattle.c_type_base.specs.declared.statement.TItem.TheOpen.{TItem-F, TStmt-F}
use Rattle.c_type_base.specs.declared.statement.TStmt.{TStmt, out-TStmt}
use Rattle.c_type_base.specs.Types.{is_void}
use Rattle.block_meaning.specs.Expressions.{value_of}
use Rattle.block_meaning.specs.ExpressionsInOrder.{Scope, within, ConditionInOrder, ValueInOrder}
use Rattle.block_meaning.specs.StatementsInOrder as order
use Rattle.block_meaning.specs.StatementsInOrder.{DeclarationInOrder, StatementInOrder, ItemInOrder, Items}
use Rattle.block_meaning.specs.Laws.Progress.Expressions.{value-safe}
use Rattle.block_meaning.specs.Laws.Progress.Nodes.{ValuePart, part-value}
use Rattle.block_meaning.specs.Laws.Progress.Fits.{Fits, fits-more, void-fits}
use Rattle.block_meaning.specs.Laws.Progress.Initialisers.{DeclarationsSafe, declarations-safe, run-safe}
use Rattle.block_meaning.specs.Laws.Progress.Locals.{HasLocal, scoped-safe}
use Rattle.block_meaning.specs.Laws.Progress.Operators.{truth-safe}
use Rattle.block_meaning.specs.Laws.Progress.Safe.{Safe, Any, safe-gives, safe-then}
use Rattle.block_meaning.specs.Laws.Progress.Scenes.{LocalsWithin, inside_of, calls-less, Scene, here_of, later, lower}
use Rattle.block_meaning.specs.Locals.{declarations, only_run}
use Rattle.block_meaning.specs.Operators.{is_true}
use Rattle.block_meaning.specs.Running.{Run, gives, and_then, Context}
use Rattle.block_meaning.specs.Statements.{StmtLayer, ItemLayer, Flow, Next, Broke, Continued, Returned, on_next, in_order}
use Rattle.block_meaning.specs.Statements.{local_of, declared_by, declared, item_node, items, condition, condition_or_true, effect}
use Rattle.block_meaning.specs.Statements.{Heading}
use Rattle.block_meaning.specs.Statements.{stmt_node, statements_at}
use Rattle.block_meaning.specs.declared.value.Value.{Value}
use Rattle.block_meaning.specs.declared.value.Value.TheVariants.{NoValue}
use Rattle.block_meaning.specs.Laws.Progress.Turns.{FlowFits, flow-more, Always, bound_within, for_inside, while_by, do_by}
use Rattle.block_meaning.specs.Laws.Progress.Turns.{for_inside_by, if_alone_by, if_else_by}

pub record StatementSafe (s : Scope) (st : StmtLayer) : Type 0 where
  pub depth : ℕ
  pub safe : {n w : ℕ} (scene : Scene s n w) (levels : ℕ) → depth + w ≤ levels →
      Safe n w (stmt_node (statements_at scene.calls levels) (here_of scene) st) (FlowFits s.function.result)

pub record ItemSafe (s : Scope) (i : ItemLayer) : Type 0 where
  pub depth : ℕ
  pub safe : {n w : ℕ} (scene : Scene s n w) (levels : ℕ) → depth + w ≤ levels →
      Safe n w (item_node (statements_at scene.calls levels) (here_of scene) i) (FlowFits s.function.result)

pub record ItemsSafe (s : Scope) (is : List TItem) : Type 0 where
  pub depth : ℕ
  pub safe : {n w : ℕ} (scene : Scene s n w) (levels : ℕ) → depth + w ≤ levels →
      Safe n w (items (statements_at scene.calls levels) (here_of scene) is) (FlowFits s.function.result)

-- ---- parts

part_statement : {s : Scope} {n w : ℕ} (st : TStmt) (part : StatementSafe s (out-TStmt st)) (scene : Scene s n w) (levels : ℕ) →
    part.depth + w < levels → Safe n w ((statements_at scene.calls levels).run (here_of scene) st) (FlowFits s.function.result)
unfolding out-TStmt
part_statement st part scene zero deep = absurd (omega (arith, deep))
part_statement st part scene (suc levels) deep = part.safe scene levels (omega (arith, deep))

value_in : {s : Scope} {n w : ℕ} (e : TExpr) (part : ValuePart s e) (scene : Scene s n w) (levels : ℕ) → part.depth < levels →
    Safe n w (value_of ((statements_at scene.calls levels).expr (here_of scene)) e) (Fits e.ty)
value_in e part scene zero deep = absurd (omega (arith, deep))
value_in e part scene (suc levels) deep = part-value e part scene (suc levels) deep e.span

effect_in : {s : Scope} {n w : ℕ} (e : TExpr) (part : ValuePart s e) (scene : Scene s n w) (levels : ℕ) → part.depth < levels →
    Safe n w (only_run ((statements_at scene.calls levels).expr (here_of scene)) e) Any
effect_in e part scene zero deep = absurd (omega (arith, deep))
effect_in e part scene (suc levels) deep = run-safe e part scene (suc levels) deep

declarations_in : {s : Scope} {n w : ℕ} {ds : List TDecl} (part : DeclarationsSafe s ds) (scene : Scene s n w) (levels : ℕ) →
    part.depth ≤ levels →
    let parts = statements_at scene.calls levels in
    Safe n w (declarations (here_of scene) (parts.expr (here_of scene)) parts.bound ds) Any
declarations_in part scene zero deep = part.safe scene zero deep
declarations_in part scene (suc levels) deep = part.safe scene (suc levels) deep

-- a value that is a condition
then_truth : {n w : ℕ} {P : ℕ → Value → Type 0} {m : Run Value} (here : Context) (span : Span) → Safe n w m P →
    Safe n w (and_then m (λ v. is_true here span v)) Any
then_truth here span safe = safe-then safe (λ k more v fits. truth-safe here span v)

condition_in : {s : Scope} {n w : ℕ} (e : TExpr) (part : ValuePart s e) (scene : Scene s n w) (levels : ℕ) → part.depth < levels →
    Safe n w (condition (statements_at scene.calls levels) (here_of scene) e) Any
condition_in e part scene levels deep = then_truth (here_of scene) e.span (value_in e part scene levels deep)

-- a part that may be left out
pub record OptionSafe (s : Scope) (e : Option TExpr) : Type 0 where
  pub depth : ℕ
  pub condition : {n w : ℕ} (scene : Scene s n w) (levels : ℕ) → depth < levels →
      Safe n w (condition_or_true (statements_at scene.calls levels) (here_of scene) e) Any
  pub effect : {n w : ℕ} (scene : Scene s n w) (levels : ℕ) → depth < levels →
      Safe n w (effect (statements_at scene.calls levels) (here_of scene) e) Any

option_none : {s : Scope} → OptionSafe s None
option_none = record {
  depth = 0;
  condition = λ scene levels deep. safe-gives true (λ k more. tt);
  effect = λ scene levels deep. safe-gives tt (λ k more. tt);
}

option_some : {s : Scope} {e : TExpr} → ValuePart s e → OptionSafe s (Some e)
option_some {e = e} part = record {
  depth = part.depth;
  condition = λ scene levels deep. condition_in e part scene levels deep;
  effect = λ scene levels deep. effect_in e part scene levels deep;
}

option_value : {s : Scope} (e : Option TExpr) → IfSome e (ValueInOrder s) → OptionSafe s e
option_value None is = option_none
option_value (Some e) is = option_some (value-safe is)

option_condition : {s : Scope} (e : Option TExpr) → IfSome e (ConditionInOrder s) → OptionSafe s e
option_condition None is = option_none
option_condition (Some e) is = option_some (value-safe is.value)

-- ---- loops and choices, where they stand

while_safe : {s : Scope} {e : TExpr} {st : TStmt} → ValuePart s e → StatementSafe s (out-TStmt st) → StatementSafe s (TStmt-F.While e st)
while_safe {s = s} {e = e} {st = st} of_e of_st = record {
  depth = suc (of_e.depth + of_st.depth);
  safe = λ {w = w} scene levels deep.
      while_by s.function.result (statements_at scene.calls levels) (here_of scene) e st
      (bound_within scene.calls levels w (omega (arith, deep)))
      (λ k v more less. condition_in e of_e (lower v less (later k more scene)) levels (omega (arith, deep)))
      (λ k v more less. part_statement st of_st (lower v less (later k more scene)) levels (omega (arith, deep, less)));
}

do_safe : {s : Scope} {e : TExpr} {st : TStmt} → StatementSafe s (out-TStmt st) → ValuePart s e → StatementSafe s (TStmt-F.DoWhile st e)
do_safe {s = s} {e = e} {st = st} of_st of_e = record {
  depth = suc (of_e.depth + of_st.depth);
  safe = λ {w = w} scene levels deep.
      do_by s.function.result (statements_at scene.calls levels) (here_of scene) st e
      (bound_within scene.calls levels w (omega (arith, deep)))
      (λ k v more less. part_statement st of_st (lower v less (later k more scene)) levels (omega (arith, deep, less)))
      (λ k v more less. condition_in e of_e (lower v less (later k more scene)) levels (omega (arith, deep)));
}

if_alone_safe : {s : Scope} {e : TExpr} {st : TStmt} → ValuePart s e → StatementSafe s (out-TStmt st) →
    StatementSafe s (TStmt-F.If e st None)
if_alone_safe {s = s} {e = e} {st = st} of_e of_st = record {
  depth = suc (of_e.depth + of_st.depth);
  safe = λ scene levels deep. if_alone_by s.function.result (statements_at scene.calls levels) (here_of scene) e st
      (condition_in e of_e scene levels (omega (arith, deep)))
      (λ k v more less. part_statement st of_st (lower v less (later k more scene)) levels (omega (arith, deep, less)));
}

if_else_safe : {s : Scope} {e : TExpr} {st other : TStmt} → ValuePart s e → StatementSafe s (out-TStmt st) →
    StatementSafe s (out-TStmt other) → StatementSafe s (TStmt-F.If e st (Some other))
if_else_safe {s = s} {e = e} {st = st} {other = other} of_e of_st of_other = record {
  depth = suc (of_e.depth + (of_st.depth + of_other.depth));
  safe = λ scene levels deep. if_else_by s.function.result (statements_at scene.calls levels) (here_of scene) e st other
      (condition_in e of_e scene levels (omega (arith, deep)))
      (λ k v more less. part_statement st of_st (lower v less (later k more scene)) levels (omega (arith, deep, less)))
      (λ k v more less. part_statement other of_other (lower v less (later k more scene)) levels (omega (arith, deep, less)));
}

-- ---- scopes

-- a scene with other locals
abbrev scene_in : {s : Scope} {n w : ℕ} (scene : Scene s n w) (ks : List ℕ) (m v : ℕ) → n ≤ m → v ≤ w → (local : ℕ → Option ℕ) →
    LocalsWithin m local (ks ++ s.locals) → Scene (within s ks) m v
scene_in scene ks m v more less local of_locals = record {
  calls = scene.calls;
  opened = scene.opened;
  local = local;
  call = scene.call;
  call_is = scene.call_is;
  function_is = scene.function_is;
  of_locals = of_locals;
  of_calls = calls-less v less scene.of_calls;
  enough = omega (arith, more, scene.enough);
}

declared_there : {s : Scope} (ds : List TDecl) → All (DeclarationInOrder s) ds → All (HasLocal s.function) (map local_of ds)
declared_there {s = s} [] all = All-nil (HasLocal s.function)
declared_there {s = s} (d ∷ ds) all =
    let one = All-head (DeclarationInOrder s) d ds all in
    All-cons (HasLocal s.function) d.local (map local_of ds) (record { info = one.info; is = one.info_is })
    (declared_there ds (All-tail (DeclarationInOrder s) d ds all))

item_there : {s : Scope} {i : ItemLayer} → ItemInOrder s i → All (HasLocal s.function) (declared_by i)
item_there (order.declarations {ds = ds} all) = declared_there ds all
item_there {s = s} (order.statement d) = All-nil (HasLocal s.function)

pub items-there : {s : Scope} {is : List TItem} → Items s is → All (HasLocal s.function) (declared is)
items-there {s = s} order.no_item = All-nil (HasLocal s.function)
items-there {s = s} (order.item {i = i} {is = is} d ds) =
    All-append (HasLocal s.function) (declared_by (out-TItem i)) (declared is) (item_there d) (items-there ds)

block_safe : {s : Scope} {is : List TItem} → All (HasLocal s.function) (declared is) → ItemsSafe (within s (declared is)) is →
    StatementSafe s (TStmt-F.Block is)
block_safe {s = s} {is = is} has part = record {
  depth = part.depth;
  safe = λ scene levels deep. scoped-safe scene (declared is) has (λ m k more flow fits. flow-more s.function.result m k more flow fits)
      (λ inner. items (statements_at scene.calls levels) inner is) (λ m v more less inner of_locals.
      part.safe (scene_in scene (declared is) m v more less inner of_locals) levels (omega (arith, deep, less)));
}

for_safe : {s : Scope} {ds : List TDecl} {first condition next : Option TExpr} {st : TStmt} → All (HasLocal s.function) (map local_of ds) →
    DeclarationsSafe (within s (map local_of ds)) ds → OptionSafe (within s (map local_of ds)) first →
    OptionSafe (within s (map local_of ds)) condition → OptionSafe (within s (map local_of ds)) next →
    StatementSafe (within s (map local_of ds)) (out-TStmt st) → StatementSafe s (TStmt-F.For ds first condition next st)
for_safe {s = s} {ds = ds} {first = first} {condition = condition} {next = next} {st = st} has of_ds of_first of_condition of_next of_st =
    let heading : Heading = record { declared = ds; first = first; condition = condition; next = next } in
    let ks = map local_of ds in record {
      depth = suc (of_ds.depth + of_first.depth + ((of_condition.depth + of_next.depth) + of_st.depth));
      safe = λ scene levels deep. scoped-safe scene ks has
          (λ m k more flow fits. flow-more s.function.result m k more flow fits)
          (for_inside (statements_at scene.calls levels) heading st) (λ m v more less inner of_locals.
          for_inside_by s.function.result (statements_at scene.calls levels) (inside_of s.program s.unit scene.opened inner) heading st
          (bound_within scene.calls levels v (omega (arith, deep, less)))
          (declarations_in of_ds (scene_in scene ks m v more less inner of_locals) levels (omega (arith, deep)))
          (λ k u further fewer. of_first.effect
          (lower u fewer (later k further (scene_in scene ks m v more less inner of_locals))) levels (omega (arith, deep)))
          (λ k u further fewer. of_condition.condition
          (lower u fewer (later k further (scene_in scene ks m v more less inner of_locals))) levels (omega (arith, deep)))
          (λ k u further fewer. part_statement st of_st
          (lower u fewer (later k further (scene_in scene ks m v more less inner of_locals))) levels (omega (arith, deep, less, fewer)))
          (λ k u further fewer. of_next.effect
          (lower u fewer (later k further (scene_in scene ks m v more less inner of_locals))) levels (omega (arith, deep))));
    }

-- ---- one after another

next_safe : {n w : ℕ} (t : Ty) (flow : Flow) {m : Run Flow} → FlowFits t n flow → Safe n w m (FlowFits t) →
    Safe n w (on_next flow m) (FlowFits t)
next_safe t Next fits safe = safe
next_safe {n = n} t Broke fits safe = safe-gives Broke (λ k more. tt)
next_safe {n = n} t Continued fits safe = safe-gives Continued (λ k more. tt)
next_safe {n = n} t (Returned v) fits safe = safe-gives (Returned v) (λ k more. fits-more t n k more v fits)

no_item_safe : {s : Scope} → ItemsSafe s []
no_item_safe = record { depth = 0; safe = λ scene levels deep. safe-gives Next (λ k more. tt) }

in_order_by : {n w : ℕ} (t : Ty) {m : Run Flow} (ms : List (Run Flow)) → Safe n w m (FlowFits t) → Always n w (in_order ms) (FlowFits t) →
    Safe n w (in_order (m ∷ ms)) (FlowFits t)
in_order_by {w = w} t ms of_first of_rest =
    safe-then of_first (λ k more flow fits. next_safe t flow fits (of_rest k w more (omega arith)))

item_safe : {s : Scope} {i : TItem} {is : List TItem} → ItemSafe s (out-TItem i) → ItemsSafe s is → ItemsSafe s (i ∷ is)
item_safe {s = s} {is = is} part rest = record {
  depth = part.depth + rest.depth;
  safe = λ scene levels deep.
      in_order_by s.function.result (map (λ i. item_node (statements_at scene.calls levels) (here_of scene) (out-TItem i)) is)
      (part.safe scene levels (omega (arith, deep)))
      (λ k v more less. rest.safe (lower v less (later k more scene)) levels (omega (arith, deep, less)));
}

then_next : {n w : ℕ} {m : Run (Unit {0})} (t : Ty) → Safe n w m Any → Safe n w (and_then m (λ _. gives Next)) (FlowFits t)
then_next t safe = safe-then safe (λ k more a any. safe-gives Next (λ j further. tt))

declarations_item : {s : Scope} {ds : List TDecl} → DeclarationsSafe s ds → ItemSafe s (TItem-F.Local ds)
declarations_item {s = s} part = record {
  depth = part.depth;
  safe = λ scene levels deep. then_next s.function.result (declarations_in part scene levels (omega (arith, deep)));
}

statement_item : {s : Scope} {st : TStmt} → StatementSafe s (out-TStmt st) → ItemSafe s (TItem-F.Stmt st)
statement_item {st = st} part = record {
  depth = suc part.depth;
  safe = λ scene levels deep. part_statement st part scene levels (omega (arith, deep));
}

-- ---- the other statements

expression_safe : {s : Scope} {e : TExpr} → ValuePart s e → StatementSafe s (TStmt-F.Expr e)
expression_safe {s = s} {e = e} part = record {
  depth = suc part.depth;
  safe = λ scene levels deep. then_next s.function.result (effect_in e part scene levels (omega (arith, deep)));
}

empty_safe : {s : Scope} → StatementSafe s TStmt-F.Empty
empty_safe = record { depth = 0; safe = λ scene levels deep. safe-gives Next (λ k more. tt) }

return_safe : {s : Scope} {span : Span} → is_void s.function.result ≡ true → StatementSafe s (TStmt-F.Return None span)
return_safe {s = s} is = record {
  depth = 0;
  safe = λ scene levels deep. safe-gives (Returned NoValue) (λ k more. void-fits s.function.result k is);
}

then_returned : {n w : ℕ} {m : Run Value} (t u : Ty) → u ≡ t → Safe n w m (Fits u) →
    Safe n w (and_then m (λ v. gives (Returned v))) (FlowFits t)
then_returned t u same safe = safe-then safe (λ k more v fits.
    safe-gives (Returned v) (λ j further. fits-more t k j further v (subst (λ t. Fits t k v) same fits)))

return_value_safe : {s : Scope} {e : TExpr} {span : Span} → ValuePart s e → e.ty ≡ s.function.result →
    StatementSafe s (TStmt-F.Return (Some e) span)
return_value_safe {s = s} {e = e} part same = record {
  depth = suc part.depth;
  safe = λ scene levels deep. then_returned s.function.result e.ty same (value_in e part scene levels (omega (arith, deep)));
}

break_safe : {s : Scope} {span : Span} → StatementSafe s (TStmt-F.Break span)
break_safe = record { depth = 0; safe = λ scene levels deep. safe-gives Broke (λ k more. tt) }

continue_safe : {s : Scope} {span : Span} → StatementSafe s (TStmt-F.Continue span)
continue_safe = record { depth = 0; safe = λ scene levels deep. safe-gives Continued (λ k more. tt) }

-- ---- all of them

mutual
  pub statement-safe : {s : Scope} {st : StmtLayer} → StatementInOrder s st → StatementSafe s st
  statement-safe (order.block d) = block_safe (items-there d) (items-safe d)
  statement-safe (order.expression d) = expression_safe (value-safe d)
  statement-safe order.empty = empty_safe
  statement-safe (order.if_alone c d) = if_alone_safe (value-safe c.value) (statement-safe d)
  statement-safe (order.if_else c d other) = if_else_safe (value-safe c.value) (statement-safe d) (statement-safe other)
  statement-safe (order.while c d) = while_safe (value-safe c.value) (statement-safe d)
  statement-safe (order.do_while d c) = do_safe (statement-safe d) (value-safe c.value)
  statement-safe (order.for {ds = ds} {first = first} {condition = condition} {next = next} all of_first of_condition of_next d) =
      for_safe (declared_there ds all) (declarations-safe ds all) (option_value first of_first)
      (option_condition condition of_condition) (option_value next of_next) (statement-safe d)
  statement-safe (order.return is) = return_safe is
  statement-safe (order.return_value d same) = return_value_safe (value-safe d) same
  statement-safe order.break = break_safe
  statement-safe order.continue = continue_safe

  pub item-safe : {s : Scope} {i : ItemLayer} → ItemInOrder s i → ItemSafe s i
  item-safe (order.declarations {ds = ds} all) = declarations_item (declarations-safe ds all)
  item-safe (order.statement d) = statement_item (statement-safe d)

  pub items-safe : {s : Scope} {is : List TItem} → Items s is → ItemsSafe s is
  items-safe order.no_item = no_item_safe
  items-safe (order.item d ds) = item_safe (item-safe d) (items-safe ds)
