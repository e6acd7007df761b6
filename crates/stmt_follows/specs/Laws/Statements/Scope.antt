-- The code of a scope that declares locals does what it means (this project's own).
use Rattle.std.specs.Prelude.{◌≡◌, ℕ, ◌+◌, ◌*◌, ◌≤◌, Bool, true, false, List, [], ◌∷◌, ◌++◌, slice_get, Option, Some, None, refl, ◌⊎◌}
use Rattle.std.specs.Prelude.{if◌then◌else◌}
use Rattle.std.specs.List.{Contains}
use Rattle.std.proofs.Common.{arith, ap, sym, subst, inl, inr, ◌∙◌}
use Rattle.std.proofs.lemmas.List.Elements.{Contains-append_left, Contains-append_right}
use Rattle.a64_code.specs.State.{State}
use Rattle.a64_code.specs.declared.instr.Instr.TheVariants.{Nop}
use Rattle.block_meaning.specs.ExpressionsInOrder.{Scope, within}
use Rattle.block_meaning.specs.Locals.{latest, end_locals, scoped}
use Rattle.block_meaning.specs.Running.{Call, Context, Run, gives, and_then, State as MeaningState}
use Rattle.block_meaning.specs.Statements.{Flow, Next, Broke, Continued, Returned}
use Rattle.block_meaning.specs.declared.value.Value.{Value}
use Rattle.code_follows.specs.Scene.{Scene, given_in, frame_in}
use Rattle.code_follows.specs.Laws.Coming.{pays, starts_low}
use Rattle.code_follows.specs.Laws.Computing.{Suits-own}
use Rattle.code_follows.specs.Laws.Lying.{HasInstrs, Lies-plain}
use Rattle.code_relation.specs.Calls.{has_tagged}
use Rattle.code_relation.specs.Fresh.{AreNew}
use Rattle.code_relation.specs.Kept.{KeepsFrom}
use Rattle.code_relation.specs.Laws.Outcomes.{spent}
use Rattle.code_relation.specs.Numbers.{Holds}
use Rattle.code_relation.specs.Relates.{Relates}
use Rattle.code_relation.specs.Sites.{units_of, is_tagged_by}
use Rattle.code_relation.specs.Trees.{Comes}
use Rattle.code_runs.specs.Bounded.{Account}
use Rattle.frame_layout.specs.declared.frame.Slot.{Slot}
use Rattle.gen_base.specs.Code.{Code as Items}
use Rattle.gen_laws.specs.Laws.Unary.{nop-computes}
use Rattle.gen_stmt.specs.Loops.{Around, Emits, result}
use Rattle.gen_stmt.specs.Scopes.{Range, range, widened, is_tagged_there, tagged_among, enter_slots, enter, leave}
use Rattle.gen_stmt.specs.Statements.{scope}
use Rattle.stmt_follows.specs.Expressions.{moved, AllSafe, IsPlace}
use Rattle.stmt_follows.specs.Parts.{Ways, ways, Standing, Ends, flow_room, Bounds, Here, Proceeds, Flows, StmtPart}
use Rattle.stmt_follows.specs.Laws.Flowing.{no_spare, Proceeds-flow, StmtPart-by}
use Rattle.stmt_follows.specs.Laws.Locals.Apart.{none_tagged}
use Rattle.stmt_follows.specs.Laws.Locals.Entering.{IsInner, IsSafeCall, Proceeds-enter}
use Rattle.stmt_follows.specs.Laws.Locals.Leaving.{without_all, without_is, Proceeds-leave}
use Rattle.stmt_follows.specs.Laws.Locals.Lists.{are_different}
use Rattle.stmt_follows.specs.Laws.Proceeding.{Proceeds-done, Proceeds-unit, Proceeds-computes}
use Rattle.stmt_follows.specs.Laws.Standing.{Standing-turn, Standing-two, Standing-at}
use Rattle.stmt_follows.specs.Laws.Statements.Jumps.{past_nothing}

-- ---- the entry is a NOP

enters_by : {k : Scene} → AllSafe k → (ks : List ℕ) → tagged_among (frame_in k) ks ≡ []
enters_by safe [] = refl
enters_by {k} safe (j ∷ js) = by_slot (is_tagged_there (slice_get (frame_in k).slots j)) (there (slice_get (frame_in k).slots j)
    (none_tagged (frame_in k).slots safe.safe j)) (enters_by safe js)
  where
    there : (o : Option Slot) → is_tagged_by o ≡ false → is_tagged_there o ≡ false
    there None is = refl
    there (Some s) is = is

    by_slot : (b : Bool) → b ≡ false → tagged_among (frame_in k) js ≡ [] →
        (if b then j ∷ tagged_among (frame_in k) js else tagged_among (frame_in k) js) ≡ []
    by_slot false is rest = rest
    by_slot true is rest = absurd (cc)

enters_plainly : {k : Scene} {Leaving : ℕ → Type 0} {from to : ℕ} → AllSafe k → (ks : List ℕ) →
    Standing k Leaving (enter (frame_in k) ks) from to → HasInstrs k (Nop ∷ []) from to
enters_plainly {k} {Leaving} {from} {to} safe ks stands =
    Lies-plain (Nop ∷ [])
    (subst (λ slots. Standing k Leaving (enter_slots slots) from to) (enters_by safe ks) stands).lies

-- ---- scenes

standing_in : {k : Scene} {Leaving : ℕ → Type 0} {code : Items} {from to : ℕ} (s : Scope) (here : Context) →
    Standing k Leaving code from to → Standing (moved k s here) Leaving code from to
standing_in s here stands = record {
  lies = record {
    position = stands.lies.position;
    place = stands.lies.place;
    label_is = stands.lies.label_is;
    stands = stands.lies.stands;
    from_is = stands.lies.from_is;
    to_is = stands.lies.to_is;
  };
  leaving = λ n is. stands.leaving n is;
}

record Latest (cs : List Call) (c : Call) : Type 0 where
  rest : List Call
  is : cs ≡ c ∷ rest

latest_of : (cs : List Call) (c : Call) → latest cs ≡ Some c → Latest cs c
latest_of [] c is = absurd (cc)
latest_of (d ∷ ds) c is = record { rest = ds; is = ap (λ x. x ∷ ds) (let same : d ≡ c = cc in same) }

pub safe_call : {k : Scene} → IsPlace k → IsSafeCall (given_in k) k.here
safe_call {k} place =
    let at = latest_of k.here.open_calls place.scene.inside.0 place.scene.inside.1 in
    record {
      c = place.scene.inside.0;
      cs = at.rest;
      open_is = at.is;
      safe = ap (λ f. has_tagged (units_of (given_in k)) f) place.scene.inside.2 ∙ place.safe.safe;
    }

none_new : {k : Scene} {ks : List ℕ} → IsPlace k → AreNew k.scope.locals ks → (j : ℕ) → Contains ks j → k.here.local j ≡ None
none_new {k} {ks} place new j has = by_number (k.here.local j) refl
  where
    by_number : (o : Option ℕ) → k.here.local j ≡ o → k.here.local j ≡ None
    by_number None is = is
    by_number (Some number) is = absurd (new.not_there j has (place.only j number is))

inner_place : {k : Scene} {ks : List ℕ} {inner : Context} → IsPlace k → IsInner k.here ks inner →
    IsPlace (moved k (within k.scope ks) inner)
inner_place {k} {ks} {inner} place is = record {
  scene = record {
    file = place.scene.file;
    of_scope = record {
      program_is = place.scene.of_scope.program_is;
      unit_is = place.scene.of_scope.unit_is;
      function_is = place.scene.of_scope.function_is;
    };
    inside = (
      place.scene.inside.0,
      ap latest is.open_calls ∙ place.scene.inside.1,
      place.scene.inside.2,
      is.unit ∙ place.scene.inside.3,
    );
  };
  safe = record { safe = place.safe.safe };
  only = λ j number found. by_list j number (is.only j number found);
}
  where
    by_list : (j number : ℕ) → Contains ks j ⊎ (k.here.local j ≡ Some number) → Contains (ks ++ k.scope.locals) j
    by_list j number (inl has) = Contains-append_left ks k.scope.locals j has
    by_list j number (inr found) = Contains-append_right ks k.scope.locals j (place.only j number found)

-- ---- where code has come in the scope, and round it

module _ (k : Scene) (ks : List ℕ) (inner : Context) (is : IsInner k.here ks inner) where
  here_in : {s : State} {at : ℕ} {a : Account} {spare : ℕ} {now last : MeaningState} {t : State} → Here k s at a 0 spare now t →
      Relates (given_in k) inner last t → last.work ≡ now.work → Here (moved k (within k.scope ks) inner) s at a 0 spare last t
  here_in {s} {at} {a} {spare} {now} {last} {t} on relates work_is = record {
    came = record {
      comes = record {
        relates = relates;
        pc = on.came.comes.pc;
        kept = subst (λ cs. KeepsFrom (units_of (given_in k)) 0 s t cs) (sym is.open_calls) on.came.comes.kept;
      };
      registers = λ alone r other. absurd (cc);
    };
    least = omega (arith, on.least, work_is);
    most = subst (λ w. a.so_far + spare + k.code.per * w ≤ a.most) (sym work_is) on.most;
    within = omega (arith, on.within, work_is);
  }

  comes_out : {s : State} {at : ℕ} {now last : MeaningState} {t : State} → Comes (given_in k) 0 at inner s now t →
      Relates (given_in k) k.here last t → Comes (given_in k) 0 at k.here s last t
  comes_out {s} {at} {now} {last} {t} comes relates = record {
    relates = relates;
    pc = comes.pc;
    kept = subst (λ cs. KeepsFrom (units_of (given_in k)) 0 s t cs) is.open_calls comes.kept;
  }

  ends_relate : (w : Ways) (s : State) (to : ℕ) (x : Flow) (now : MeaningState) (t : State) →
      Ends (moved k (within k.scope ks) inner) w s to x now t → Relates (given_in k) inner now t
  ends_relate w s to Next now t ends = ends.relates
  ends_relate w s to Broke now t ends = ends.relates
  ends_relate w s to Continued now t ends = ends.relates
  ends_relate w s to (Returned v) now t left = left.comes.relates

  ends_out : (w : Ways) (s : State) (to : ℕ) (x : Flow) (now last : MeaningState) (t : State) →
      Ends (moved k (within k.scope ks) inner) w s to x now t → Relates (given_in k) k.here last t →
      ((v : Value) (n : ℕ) → Holds (given_in k) now v n → Holds (given_in k) last v n) → Ends k w s to x last t
  ends_out w s to Next now last t ends relates holds = comes_out ends relates
  ends_out w s to Broke now last t ends relates holds = comes_out ends relates
  ends_out w s to Continued now last t ends relates holds = comes_out ends relates
  ends_out w s to (Returned v) now last t left relates holds = record {
    at = left.at;
    leaving = left.leaving;
    value = holds v (t.register 0) left.value;
    comes = comes_out left.comes relates;
  }

  bounds_out : {a : Account} {spare over : ℕ} {now last : MeaningState} → Bounds (moved k (within k.scope ks) inner) a spare over now →
      last.work ≡ now.work → Bounds k a spare over last
  bounds_out {a} {spare} {over} bounds work_is = record {
    least = omega (arith, bounds.least, work_is);
    most = subst (λ w. a.so_far + spare + k.code.per * w ≤ a.most + over) (sym work_is) bounds.most;
    within = omega (arith, bounds.within, work_is);
  }

  context_out : ((j : ℕ) → Contains ks j → k.here.local j ≡ None) → without_all ks inner ≡ k.here
  context_out none = without_is ks k.here inner (record {
    program = is.program;
    unit = is.unit;
    open_calls = is.open_calls;
    others = is.others;
    none = none;
  })

-- what stands in the scope does what it means, whatever blocks its locals get
pub record BodyPart (k : Scene) (ks : List ℕ) (body : Emits) (run : Context → Run Flow) : Type 1 where
  pub part : (inner : Context) → IsPlace (moved k (within k.scope ks) inner) →
      StmtPart (moved k (within k.scope ks) inner) body (run inner)

module _ {k : Scene} (place : IsPlace k) (j : ℕ) (js : List ℕ) (new : AreNew k.scope.locals (j ∷ js)) (emits : Emits)
    (run : Context → Run Flow) (part : BodyPart k (j ∷ js) emits run) where
  -- the body, and the ends of the lives
  in_scope : (around : Around) (Leaving : ℕ → Type 0) (from to : ℕ) → Standing k Leaving (emits around) from to → (w : Ways) →
      w ≡ ways k around Leaving → (inner : Context) → IsInner k.here (j ∷ js) inner → {s : State} {a : Account} {now : MeaningState}
      {t : State} → Here (moved k (within k.scope (j ∷ js)) inner) s from a 0 0 now t →
      Proceeds k.code flow_room (Ends k w s to) a
      (and_then (run inner) (λ x. and_then (end_locals inner (j ∷ js)) (λ _. gives x))) now t
  in_scope around Leaving from to stands w w_is inner is {s} on =
      let inside = inner_place place is in
      let call = safe_call place in
      let flows : Flows (moved k (within k.scope (j ∷ js)) inner) w from to (run inner) =
      subst (λ w. Flows (moved k (within k.scope (j ∷ js)) inner) w from to (run inner)) (sym w_is)
      ((part.part inner inside).part around Leaving from to (standing_in (within k.scope (j ∷ js)) inner stands)) in
      Proceeds-flow flows (pays place.scene) on (λ x later u n after.
      Proceeds-leave (λ _. gives x) inner (j ∷ js) inner later (ends_relate k (j ∷ js) inner is w s to x later u after.ends)
      (record { c = call.c; cs = call.cs; open_is = is.open_calls ∙ call.open_is; safe = call.safe })
      (are_different (j ∷ js) new.different) (λ i has. refl)
      (λ last relates work_is holds.
      Proceeds-done x (bounds_out k (j ∷ js) inner is after.bounds work_is) (omega (arith, no_spare x))
      (ends_out k (j ∷ js) inner is w s to x later last u after.ends
      (subst (λ here. Relates (given_in k) here last u) (context_out k (j ∷ js) inner is (λ i has. none_new place new i has)) relates)
      holds)))

  pub scope_follows : StmtPart k (scope (frame_in k) (j ∷ js) emits) (scoped k.here (j ∷ js) run)
  scope_follows = StmtPart-by (λ around Leaving from to stands a now s on.
      let r : Range = range j js in
      let inside : Around = record around { opened = Some (widened around.opened r) } in
      let p = Standing-turn (enter (frame_in k) (j ∷ js)) (emits inside ∷ leave (frame_in k) (Some r) ∷ []) stands in
      let q = Standing-two (emits inside) (leave (frame_in k) (Some r)) p.back in
      let has : HasInstrs k (Nop ∷ []) from p.middle = enters_plainly place.safe (j ∷ js) p.front in
      Proceeds-unit on (λ owing.
      Proceeds-computes {m = _} 0 has refl
      (nop-computes result (s.register result.0) s refl (omega (arith, starts_low has owing))) (Suits-own false result (omega arith))
      owing (omega arith) (omega (arith, pays place.scene)) (λ there.
      Proceeds-enter (λ inner. and_then (run inner) (λ x. and_then (end_locals inner (j ∷ js)) (λ _. gives x)))
      place.scene.file.meant.in_order (j ∷ js) k.here (spent now) there.came.comes.relates (safe_call place)
      (are_different (j ∷ js) new.different) (none_new place new) (λ inner last is relates work_is.
      in_scope inside Leaving p.middle to (Standing-at refl (past_nothing place.safe (Some r) q.back) q.front)
      (ways k around Leaving) refl inner is (here_in k (j ∷ js) inner is there relates work_is)))))

-- where it declares none, there is no scope
pub scoped_follows : {k : Scene} → IsPlace k → (ks : List ℕ) → AreNew k.scope.locals ks → (emits : Emits) (run : Context → Run Flow) →
    BodyPart k ks emits run → StmtPart k (scope (frame_in k) ks emits) (scoped k.here ks run)
scoped_follows {k} place [] new emits run part = part.part k.here place
scoped_follows place (j ∷ js) new emits run part = scope_follows place j js new emits run part
