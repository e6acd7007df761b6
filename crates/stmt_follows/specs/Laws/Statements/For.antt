-- The code of the turns of a `for` does what they mean (this project's own).
use Rattle.std.specs.Prelude.{◌≡◌, ℕ, ◌+◌, ◌<◌, not, nat_eq, [], ◌∷◌, Option, Some, None, refl}
use Rattle.std.proofs.Common.{arith, sym, subst, ◌∙◌}
use Rattle.a64_code.specs.State.{State}
use Rattle.block_meaning.specs.Expressions.{value_of}
use Rattle.block_meaning.specs.Running.{Run, gives, and_then, choice, State as MeaningState}
use Rattle.block_meaning.specs.Statements.{StmtParts, Flow, Next, Broke, Continued, Returned, Turn, Again, Leaves, after_body, if_again}
use Rattle.block_meaning.specs.Statements.{loop}
use Rattle.block_meaning.specs.Statements.{Heading, condition, condition_or_true, effect, for_turn}
use Rattle.block_meaning.specs.Statements.{around as around_turn}
use Rattle.c_type_base.specs.declared.expr.TExpr.{TExpr}
use Rattle.c_type_base.specs.declared.statement.TStmt.{TStmt}
use Rattle.code_follows.specs.Scene.{Scene, IsScene, structs_in, frame_in, Lies}
use Rattle.code_follows.specs.Laws.Coming.{pays}
use Rattle.code_follows.specs.Laws.Going.{On-at}
use Rattle.code_follows.specs.Laws.Jumping.{Lies-label, Lies-other, Lies-at, Jumps, Lies-jump, jump_inside, on_zero_jump, on_other_jump}
use Rattle.code_follows.specs.Laws.Jumping.{true_number, false_number}
use Rattle.code_follows.specs.Laws.Operand.{IsAt-on, Lies-two}
use Rattle.code_relation.specs.Items.{JumpsOnZero}
use Rattle.code_runs.specs.Bounded.{Account}
use Rattle.gen_base.specs.Code.{Code as Items, only, in_turn}
use Rattle.gen_stmt.specs.Loops.{Around, Emits, result, in_loop, back_to, for_code}
use Rattle.gen_stmt.specs.Statements.{maybe_value}
use Rattle.gen_stmt.specs.Statements.{condition as condition_code}
use Rattle.sym_code.specs.declared.item.SymItem.TheVariants as item
use Rattle.stmt_follows.specs.Expressions.{MaybeRuns, MaybeTells}
use Rattle.stmt_follows.specs.Parts.{ways, Standing, Ends, flow_room, IsAhead, Here, After, Proceeds, StmtPart}
use Rattle.stmt_follows.specs.Laws.Ahead.{Proceeds-chosen, Proceeds-flow_ahead, Proceeds-value_ahead}
use Rattle.stmt_follows.specs.Laws.Conditions.{and_then-apart, Proceeds-condition}
use Rattle.stmt_follows.specs.Laws.Flowing.{Here-comes, Proceeds-next, StmtPart-by}
use Rattle.stmt_follows.specs.Laws.Proceeding.{Proceeds-same, Proceeds-done, Proceeds-jump, Here-less}
use Rattle.stmt_follows.specs.Laws.Standing.{Standing-turn, Standing-two, Standing-labelled}
use Rattle.stmt_follows.specs.Laws.Statements.Turns.{LoopsOn, TurnsOn, turns_first}

abbrev turns : Option Items → Items → Emits → ℕ → Items
turns c next body l = in_turn (only (item.Jump (l + 3)) ∷ only (item.Label (l + 1)) ∷ body (in_loop (l + 2) l) ∷
    only (item.Label l) ∷ next ∷ only (item.Label (l + 3)) ∷ back_to (l + 1) c ∷ only (item.Label (l + 2)) ∷ [])

-- a condition that is tested, and from there back to the body or on to the end
record Tests (k : Scene) (c : Items) (test start to : ℕ) : Type 0 where
  end : ℕ
  condition_lies : Lies k c test end
  branch : JumpsOnZero k.code end to start result

abbrev BacksTo : Scene → Option Items → ℕ → ℕ → ℕ → Type 0
BacksTo k None test start to = Jumps k test start
BacksTo k (Some c) test start to = Tests k c test start to

-- a jump to the test, the body, what stands behind it, and the test
record StandsFor (k : Scene) (Leaving : ℕ → Type 0) (c : Option Items) (next : Items) (body : Emits) (l from to : ℕ) : Type 0 where
  start : ℕ
  step : ℕ
  test : ℕ
  first : Jumps k from test
  part : Standing k Leaving (body (in_loop (l + 2) l)) start step
  next_lies : Lies k next step test
  back : BacksTo k c test start to
  broke : k.label (l + 2) ≡ to
  continued : k.label l ≡ step

backs_to : {k : Scene} (c : Option Items) (n : ℕ) {test end to : ℕ} → Lies k (back_to n c) test end → end ≡ to →
    BacksTo k c test (k.label n) to
backs_to None n lies same = Lies-jump n lies
backs_to {k} (Some c) n {end = end} {to} lies same =
    let r = Lies-two c (only (item.JumpIfNotZero result n)) lies in
    record {
      end = r.middle;
      condition_lies = r.front;
      branch = subst (λ (at : ℕ). JumpsOnZero k.code r.middle at (k.label n) result) same (Lies-other result n r.back);
    }

stands_for : {k : Scene} {Leaving : ℕ → Type 0} {from to : ℕ} (c : Option Items) (next : Items) (body : Emits) (l : ℕ) →
    Standing k Leaving (turns c next body l) from to → StandsFor k Leaving c next body l from to
stands_for {k} {from = from} {to} c next body l stands =
    let p = Standing-turn (only (item.Jump (l + 3))) (only (item.Label (l + 1)) ∷ body (in_loop (l + 2) l) ∷ only (item.Label l) ∷ next ∷
    only (item.Label (l + 3)) ∷ back_to (l + 1) c ∷ only (item.Label (l + 2)) ∷ []) stands in
    let q = Standing-turn (only (item.Label (l + 1))) (body (in_loop (l + 2) l) ∷ only (item.Label l) ∷ next ∷ only (item.Label (l + 3)) ∷
    back_to (l + 1) c ∷ only (item.Label (l + 2)) ∷ []) p.back in
    let b = Standing-turn (body (in_loop (l + 2) l)) (only (item.Label l) ∷ next ∷ only (item.Label (l + 3)) ∷ back_to (l + 1) c ∷
    only (item.Label (l + 2)) ∷ []) q.back in
    let m = Standing-turn (only (item.Label l)) (next ∷ only (item.Label (l + 3)) ∷ back_to (l + 1) c ∷ only (item.Label (l + 2)) ∷ [])
    b.back in
    let x = Standing-turn next (only (item.Label (l + 3)) ∷ back_to (l + 1) c ∷ only (item.Label (l + 2)) ∷ []) m.back in
    let y = Standing-turn (only (item.Label (l + 3))) (back_to (l + 1) c ∷ only (item.Label (l + 2)) ∷ []) x.back in
    let o = Standing-two (back_to (l + 1) c) (only (item.Label (l + 2))) y.back in
    let begin = Lies-label (l + 1) q.front.lies in
    let step = Lies-label l m.front.lies in
    let test = Lies-label (l + 3) y.front.lies in
    let last = Lies-label (l + 2) o.back.lies in
    record {
      start = q.middle;
      step = b.middle;
      test = x.middle;
      first = subst (λ (at : ℕ). Jumps k from at) test.label (Lies-jump (l + 3) p.front.lies);
      part = b.front;
      next_lies = Lies-at (sym step.none) refl x.front.lies;
      back = subst (λ (at : ℕ). BacksTo k c x.middle at to) (begin.label ∙ begin.none)
          (backs_to c (l + 1) (Lies-at (sym test.none) refl o.front.lies) last.none);
      broke = last.label ∙ last.none;
      continued = step.label;
    }

module _ {k : Scene} (scene : IsScene k) (parts : StmtParts) (h : Heading) (st : TStmt) (emits : Emits)
    (tells : MaybeTells k (parts.expr k.here) h.condition) (steps : MaybeRuns k (parts.expr k.here) h.next)
    (follows : StmtPart k emits (parts.run k.here st)) where
  -- what stands behind the body, and a turn behind its unit of work
  abbrev stepped : Run Turn
  stepped = and_then (effect parts k.here h.next) (λ x. gives Again)

  abbrev bodied : Run Turn
  bodied = and_then (parts.run k.here st) (λ flow. if_again (after_body flow) stepped)

  abbrev turn : Run Turn
  turn = and_then (condition_or_true parts k.here h.condition) (λ holds. choice holds bodied (gives (Leaves Next)))

  module _ (around : Around) (Leaving : ℕ → Type 0) (l from to : ℕ) (s : State)
      (stands : StandsFor k Leaving (condition_code (structs_in k) (frame_in k) h.condition)
      (maybe_value (structs_in k) (frame_in k) h.next) emits l from to)
      (run : Run Flow) (rest : LoopsOn k (ways k around Leaving) s stands.test to run) where
    step_on : {a : Account} {now : MeaningState} {t : State} (next : Option TExpr) → MaybeRuns k (parts.expr k.here) next →
        Lies k (maybe_value (structs_in k) (frame_in k) next) stands.step stands.test → Here k s stands.step a 0 72 now t →
        IsAhead a 1 now → Proceeds k.code flow_room (Ends k (ways k around Leaving) s to) a
        (and_then (and_then (effect parts k.here next) (λ x. gives Again)) (λ x. around_turn x run)) now t
    step_on {now = now} {t} None runs lies on before =
        let same : stands.step ≡ stands.test = sym lies.from_is ∙ lies.to_is in
        Proceeds-same refl (rest.goes _ now t (On-at same (Here-less 70 (omega arith) on)) before)
    step_on {now = now} (Some e) runs lies on before =
        Proceeds-same
        (and_then-apart (effect parts k.here (Some e)) (λ x. gives Again) (λ x. around_turn x run) now
        ∙ and_then-apart (value_of (parts.expr k.here) e) (λ v. gives tt) (λ x. and_then (gives Again) (λ x. around_turn x run)) now)
        (Proceeds-value_ahead scene parts e runs lies on before (λ v later u n came ahead.
        Proceeds-same refl (rest.goes _ later u (Here-less 70 (omega arith) came) ahead)))

    after_part : {a : Account} {now : MeaningState} {t : State} (x : Flow) →
        After k (ways k (in_loop (l + 2) l) Leaving) s stands.step a 80 x now t → IsAhead a 1 now →
        Proceeds k.code flow_room (Ends k (ways k around Leaving) s to) a
        (and_then (if_again (after_body x) stepped) (λ x. around_turn x run)) now t
    after_part Next after before =
        step_on h.next steps stands.next_lies (Here-comes 72 after.ends after.bounds (omega arith)) before
    after_part Broke after before =
        Proceeds-same refl (Proceeds-next (On-at stands.broke (Here-comes 0 after.ends after.bounds (omega arith))))
    after_part Continued after before =
        step_on h.next steps stands.next_lies (On-at stands.continued (Here-comes 72 after.ends after.bounds (omega arith))) before
    after_part (Returned v) after before =
        Proceeds-same refl (Proceeds-done (Returned v) after.bounds (omega arith)
        (record { at = after.ends.at; leaving = after.ends.leaving; value = after.ends.value; comes = after.ends.comes }))

    body_on : {a : Account} {now : MeaningState} {t : State} → Here k s stands.start a 0 80 now t → IsAhead a 1 now →
        Proceeds k.code flow_room (Ends k (ways k around Leaving) s to) a (and_then bodied (λ x. around_turn x run)) now t
    body_on {now = now} on before =
        Proceeds-same (and_then-apart (parts.run k.here st) (λ flow. if_again (after_body flow) stepped) (λ x. around_turn x run) now)
        (Proceeds-flow_ahead (follows.part (in_loop (l + 2) l) Leaving stands.start stands.step stands.part) (pays scene) on before
        (λ x later u n after ahead. after_part x after ahead))

    turn_on : {a : Account} {now : MeaningState} {t : State} (c : Option TExpr) → MaybeTells k (parts.expr k.here) c →
        BacksTo k (condition_code (structs_in k) (frame_in k) c) stands.test stands.start to → Here k s stands.test a 0 84 now t →
        Proceeds k.code flow_room (Ends k (ways k around Leaving) s to) a
        (and_then (and_then (condition_or_true parts k.here c) (λ holds. choice holds bodied (gives (Leaves Next))))
        (λ x. around_turn x run)) now t
    turn_on {t = t} None tells back on =
        let goes = back.jumps t (IsAt-on on) in
        Proceeds-same refl
        (Proceeds-jump 80 goes on (omega arith) (omega arith) (λ there.
        body_on there (record { ahead = omega (arith, on.least, goes.least) })))
    turn_on {now = now} (Some e) tells back on =
        let small : result.0 < 31 = omega arith in
        Proceeds-same (and_then-apart (condition parts k.here e) (λ holds. choice holds bodied (gives (Leaves Next)))
        (λ x. around_turn x run) now)
        (Proceeds-condition scene parts _ e tells.0 tells.1 back.condition_lies (jump_inside back.branch small) on (λ later u n came.
        Proceeds-chosen bodied (gives (Leaves Next)) (λ x. around_turn x run) (not (nat_eq (u.register result.0) 0))
        (λ yes.
        let goes = on_other_jump back.branch small u (IsAt-on came) (true_number (u.register result.0) yes) in
        Proceeds-jump 80 goes came (omega arith) (omega arith) (λ there.
        body_on there (record { ahead = omega (arith, came.least, goes.least) })))
        (λ no.
        Proceeds-jump 0 (on_zero_jump back.branch small u (IsAt-on came) (false_number (u.register result.0) no)) came (omega arith)
        (omega arith) (λ there. Proceeds-same refl (Proceeds-next there)))))

    turns_on : TurnsOn k (ways k around Leaving) s stands.test to turn run
    turns_on = record { goes = λ a now t on. turn_on h.condition tells stands.back on }

  pub for_loop_follows : StmtPart k (λ around. for_code (condition_code (structs_in k) (frame_in k) h.condition)
      (maybe_value (structs_in k) (frame_in k) h.next) emits) (loop parts.bound (for_turn parts k.here h st))
  for_loop_follows = StmtPart-by (λ around Leaving from to stands a now s on.
      let c = condition_code (structs_in k) (frame_in k) h.condition in
      let next = maybe_value (structs_in k) (frame_in k) h.next in
      let named = Standing-labelled (turns c next emits) stands in
      let pieces = stands_for c next emits named.number named.stands in
      turns_first scene on pieces.first (λ run rest. turns_on around Leaving named.number from to s pieces run rest) parts.bound)
