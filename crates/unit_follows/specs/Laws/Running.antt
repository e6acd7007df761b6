-- A function that was entered does what its body means (this project's own).
use Rattle.std.specs.Prelude.{◌≡◌, ℕ, ◌+◌, ◌*◌, ◌≤◌, List, [], ◌∷◌, ◌++◌, length, map, Option, Some, None, refl}
use Rattle.std.specs.List.{Contains}
use Rattle.std.proofs.Common.{arith, ap, sym, subst, ◌∙◌, inl, inr, ◌⊎◌}
use Rattle.a64_code.specs.State.{State}
use Rattle.c_type_base.specs.declared.statement.TItem.TheOpen.{TStmt-F}
use Rattle.c_type_base.specs.declared.statement.TStmt.{out-TStmt}
use Rattle.c_type_base.specs.declared.ty.Ty.{Ty}
use Rattle.c_type_base.specs.declared.typed.TFunction.{TFunction}
use Rattle.block_meaning.specs.declared.value.Value.{Value}
use Rattle.block_meaning.specs.ExpressionsInOrder.{Scope}
use Rattle.block_meaning.specs.Linkage.{type_of_local}
use Rattle.block_meaning.specs.Locals.{latest, new_locals}
use Rattle.block_meaning.specs.Meaning.{calls_at, inside, body_of, body_node, end_call, result_of}
use Rattle.block_meaning.specs.ProgramsInOrder.{numbered, body_scope}
use Rattle.block_meaning.specs.Running.{Function, Call, Context, Run, gives, goes_on, and_then, with_some, with_blocks}
use Rattle.block_meaning.specs.Running.{State as MeaningState}
use Rattle.block_meaning.specs.Statements.{StmtLayer, StmtParts, Flow, Next, Broke, Continued, Returned, statements_at, items, declared}
use Rattle.code_runs.specs.Bounded.{Account, Room, later, Bounded}
use Rattle.code_runs.specs.Laws.Bounded.{after}
use Rattle.code_relation.specs.Follows.{Code, setting, Does, HasArguments, IsIn, call_room}
use Rattle.code_relation.specs.Fresh.{Fresh, FreshItems, AreNew, block}
use Rattle.code_relation.specs.Injects.{Injects}
use Rattle.code_relation.specs.Items.{StandsAt}
use Rattle.code_relation.specs.Outcomes.{outcome_of}
use Rattle.code_relation.specs.Relates.{Relates}
use Rattle.code_relation.specs.Trees.{IsPlaced, Exits, HasOnly, statement_room, statement_tree}
use Rattle.code_relation.specs.Laws.Follows.{does_then}
use Rattle.code_relation.specs.Laws.Placing.{StandsAt-front, StandsAt-back}
use Rattle.stmt_follows.specs.Parts.{Proceeds}
use Rattle.stmt_follows.specs.Laws.Conditions.{and_then-apart}
use Rattle.stmt_follows.specs.Laws.Locals.Entering.{IsInner, IsSafeCall, Proceeds-enter}
use Rattle.stmt_follows.specs.Laws.Locals.Lists.{contains_first, contains_more, contains_cases, contains_none, are_different}
use Rattle.unit_follows.specs.Functions.{IsPlacedFunction, EndsBody, parameters}
use Rattle.unit_follows.specs.Placing.{Placing}
use Rattle.unit_follows.specs.Laws.Arguments.{ArgumentsStored}
use Rattle.unit_follows.specs.Laws.Bodies.{order, args, body, spot, part, body_place, zero_item, parts_are, all_stand, after_body, fr}
use Rattle.unit_follows.specs.Laws.Entering.{IsNewCall}
use Rattle.unit_follows.specs.Laws.Finishing.{InCall, Bounded-told}
use Rattle.unit_follows.specs.Laws.InCalls.{Bounded-joint, InCall-kept, Back}

-- ---- lists

contains_front : (ks more : List ℕ) (j : ℕ) → Contains ks j → Contains (ks ++ more) j
contains_front [] more j has = absurd (contains_none j has)
contains_front (k ∷ ks) more j has = by_place (contains_cases k ks j has) (contains_front ks more j)
  where
    by_place : (j ≡ k) ⊎ Contains ks j → (Contains ks j → Contains (ks ++ more) j) → Contains (k ∷ (ks ++ more)) j
    by_place (inl same) again = subst (λ i. Contains (k ∷ (ks ++ more)) i) (sym same) (contains_first k (ks ++ more))
    by_place (inr there) again = contains_more k (ks ++ more) j (again there)

contains_back : (ks more : List ℕ) (j : ℕ) → Contains more j → Contains (ks ++ more) j
contains_back [] more j has = has
contains_back (k ∷ ks) more j has = contains_more k (ks ++ more) j (contains_back ks more j has)

-- ---- what is left of the bounds behind the body

abbrev body_room : ℕ → Flow → Room
body_room extra flow = record { spare = 60 + (statement_room extra flow).spare; over = (statement_room extra flow).over }

few_over : (t : Ty) (extra : ℕ) (flow : Flow) → EndsBody t flow → (statement_room extra flow).over ≤ 8
few_over t extra Next ends = omega arith
few_over t extra (Returned v) ends = omega arith
few_over t extra Broke ends = absurd ends
few_over t extra Continued ends = absurd ends

-- what follows the body
abbrev behind_body : TFunction → Context → Call → Flow → Run Value
behind_body tf here call flow =
    and_then (with_some (latest (inside here call).open_calls) (λ d. with_blocks (end_call d.number))) (λ _. gives
    (result_of tf.result flow))

module _ {c : Code} {p : Placing} {f : Function} {tf : TFunction} {base : ℕ} (fn : IsPlacedFunction c p f tf base) (bound : ℕ)
    (here : Context) (now : MeaningState) (call : Call) (vs : List Value) (s : State) (injects : Injects c.given here now s)
    (new : IsNewCall c.given here now call) (of : call.function ≡ f) where
  abbrev parts : StmtParts
  parts = statements_at (calls_at bound) bound

  abbrev ks : List ℕ
  ks = declared fn.here.order.items

  abbrev taken : List ℕ
  taken = numbered 0 (parameters tf)

  abbrev scope : Scope
  scope = body_scope c.given.program f.unit tf ks

  body_fresh : Fresh taken (TStmt-F.Block fn.here.order.items) → AreNew taken ks × FreshItems (ks ++ taken) fn.here.order.items
  body_fresh (block are items) = (are, items)

  body_placed : IsPlaced (part fn) c (body_place fn)
  body_placed = record {
    file = fn.here.file;
    of_part = refl;
    stands = StandsAt-back (args fn) (body fn) (StandsAt-front (args fn ++ body fn) (zero_item fn ∷ [])
        (subst (λ is. StandsAt c f (spot fn) is) (parts_are fn) (all_stand fn)));
  }

  abbrev exits : Exits
  exits = record { broke = (body_place fn).label 0; continued = (body_place fn).label 0 }

  -- the items of the body, and its end
  items_do : (ready inner : Context) (then' : MeaningState) (t : State) (a : Account) → IsInner (inside here call) taken ready →
      IsInner ready ks inner → Relates c.given inner then' t → t.pc ≡ (body_place fn).at 0 → InCall c.given here call s t →
      then'.work ≤ c.reach → a.least ≤ then'.work + a.so_far → a.so_far + 60 + c.per * then'.work ≤ a.most →
      Bounded (setting c) a (λ v. call_room vs) t (Back c here now s)
      (outcome_of (and_then (items parts inner fn.here.order.items) (behind_body tf here call) then'))
  items_do ready inner then' t a is_ready is_inner relates pc in_call within least most =
      does_then c {first_room = body_room does.extra} (items parts inner fn.here.order.items) (behind_body tf here call) then'
      (Bounded-joint c (items parts inner fn.here.order.items then') (omega (arith, least)) (omega (arith, most))
      (λ flow. omega (arith, most)) (λ flow last u holds. holds)
      (Bounded-told c (items parts inner fn.here.order.items then') does.bounded))
      (λ flow last u n stands holds.
      let ends : EndsBody tf.result flow = fn.ends bound inner then' t flow last relates is_in holds.1 in
      after_body fn flow inner here now last call vs s t u (later n a) exits does.extra injects new of open_is in_call ends holds.0
      (omega (arith, stands.least)) (omega (arith, stands.most, few_over tf.result does.extra flow ends)))
    where
      open_is : inner.open_calls ≡ call ∷ here.open_calls
      open_is = is_inner.open_calls ∙ is_ready.open_calls

      is_in : IsIn f inner
      is_in = (call, ap latest open_is, of, is_inner.unit ∙ is_ready.unit ∙ ap (λ (x : Function). x.unit) of)

      only : HasOnly scope.locals inner
      only k number found = by_inner (is_inner.only k number found)
        where
          by_ready : Contains taken k ⊎ ((inside here call).local k ≡ Some number) → Contains (ks ++ taken) k
          by_ready (inl has) = contains_back ks taken k has
          by_ready (inr none) = absurd (cc)

          by_inner : Contains ks k ⊎ (ready.local k ≡ Some number) → Contains (ks ++ taken) k
          by_inner (inl has) = contains_front ks taken k has
          by_inner (inr there) = by_ready (is_ready.only k number there)

      does : Does c (statement_tree c.given (λ here. items parts here fn.here.order.items) (part fn)
          (body_place fn) scope.locals exits) inner then' t
      does =
          (fn.follows (body_place fn) scope body_placed (record { program_is = refl; unit_is = refl; function_is = fn.here.is })
          fn.here.order.body (body_fresh fn.here.fresh).1 bound bound).does inner then' t within relates ((is_in, pc), only)

  -- ---- the locals of its outermost block

  pub body_does : (then' : MeaningState) (t : State) (a : Account) → Relates c.given (inside here call) then' t →
      t.pc ≡ (spot fn).at 0 → HasArguments c.given then' t 0 (map type_of_local (parameters tf)) vs → InCall c.given here call s t →
      then'.work ≤ c.reach → a.least ≤ then'.work + a.so_far → a.so_far + 92 + c.per * then'.work ≤ a.most →
      Bounded (setting c) a (λ v. call_room vs) t (Back c here now s) (outcome_of (body_of parts tf vs (inside here call) then'))
  body_does then' t a relates pc arguments in_call within least most =
      subst (λ r. Bounded (setting c) a (λ v. call_room vs) t (Back c here now s)
      (outcome_of (goes_on r (λ ready. and_then (body_node parts ready (out-TStmt tf.body)) (behind_body tf here call)))))
      (sym stored.runs)
      (after stored.led
      (subst (λ (layer : StmtLayer). Bounded (setting c) (later stored.steps a) (λ v. call_room vs) stored.to (Back c here now s)
      (outcome_of (and_then (body_node parts stored.ready layer) (behind_body tf here call) stored.later))) (sym fn.here.order.body_is)
      (subst (λ r. Bounded (setting c) (later stored.steps a) (λ v. call_room vs) stored.to (Back c here now s) (outcome_of r))
      (sym (and_then-apart (new_locals stored.ready ks) (λ inner. items parts inner fn.here.order.items)
      (behind_body tf here call) stored.later))
      entered.bounded)))
    where
      stored : ArgumentsStored c (fr fn).temps (inside here call) (parameters tf) vs then' t ((spot fn).at (length (args fn)))
      stored = fn.arguments here call vs then' t relates of arguments pc

      safe : IsSafeCall c.given stored.ready
      safe = record { c = call; cs = here.open_calls; open_is = stored.inner.open_calls; safe = new.safe }

      none : (j : ℕ) → Contains ks j → stored.ready.local j ≡ None
      none j has = by_local (stored.ready.local j) refl
        where
          by_ready : (number : ℕ) → Contains taken j ⊎ ((inside here call).local j ≡ Some number) → stored.ready.local j ≡ None
          by_ready number (inl there) = absurd ((body_fresh fn.here.fresh).0.not_there j has there)
          by_ready number (inr empty) = absurd (cc)

          by_local : (o : Option ℕ) → stored.ready.local j ≡ o → stored.ready.local j ≡ None
          by_local None is = is
          by_local (Some number) is = by_ready number (stored.inner.only j number is)

      entered : Proceeds c (λ v. call_room vs) (Back c here now s) (later stored.steps a)
          (and_then (new_locals stored.ready ks) (λ inner. and_then (items parts inner fn.here.order.items) (behind_body tf here call)))
          stored.later stored.to
      entered =
          Proceeds-enter (λ inner. and_then (items parts inner fn.here.order.items) (behind_body tf here call)) (order fn) ks stored.ready
          stored.later stored.relates safe (are_different ks (body_fresh fn.here.fresh).0.different) none
          (λ inner last is_inner related work. record {
            bounded = items_do stored.ready inner last stored.to (later stored.steps a) stored.inner is_inner related
                (stored.pc ∙ ap (spot fn).at (omega arith)) (InCall-kept (fr fn).temps in_call stored.kept)
                (omega (arith, within, work, stored.work)) (omega (arith, least, work, stored.work))
                (omega (arith, most, stored.few, fn.here.few, ap (λ w. c.per * w) work, ap (λ w. c.per * w) stored.work));
          })
