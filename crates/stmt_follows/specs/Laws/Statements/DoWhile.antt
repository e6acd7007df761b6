-- The code of `do` does what it means (this project's own).
use Rattle.std.specs.Prelude.{◌≡◌, ◌≢◌, ℕ, zero, suc, ◌+◌, ◌<◌, true, false, not, nat_eq, [], ◌∷◌, Some, refl}
use Rattle.std.proofs.Common.{arith, sym, subst, ◌∙◌}
use Rattle.a64_code.specs.State.{State}
use Rattle.a64_code.specs.declared.instr.Instr.TheVariants.{Nop}
use Rattle.block_meaning.specs.Running.{Run, gives, and_then, unit_then, choice, State as MeaningState}
use Rattle.block_meaning.specs.Statements.{StmtParts, Flow, Next, Broke, Continued, Returned, Turn, Again, Leaves, after_body, if_again}
use Rattle.block_meaning.specs.Statements.{loop}
use Rattle.block_meaning.specs.Statements.{condition, stmt_node}
use Rattle.block_meaning.specs.Statements.{around as around_turn}
use Rattle.c_type_base.specs.Types.{is_scalar}
use Rattle.c_type_base.specs.declared.expr.TExpr.{TExpr}
use Rattle.c_type_base.specs.declared.statement.TItem.TheOpen.{TStmt-F}
use Rattle.c_type_base.specs.declared.statement.TStmt.{TStmt}
use Rattle.code_follows.specs.Scene.{Scene, IsScene, structs_in, frame_in, Lies}
use Rattle.code_follows.specs.Laws.Coming.{pays, starts_low}
use Rattle.code_follows.specs.Laws.Computing.{Suits-own}
use Rattle.code_follows.specs.Laws.Going.{On-at}
use Rattle.code_follows.specs.Laws.Jumping.{Lies-label, Lies-other, Lies-at, jump_inside, on_zero_jump, on_other_jump}
use Rattle.code_follows.specs.Laws.Jumping.{true_number, false_number}
use Rattle.code_follows.specs.Laws.Lying.{HasInstrs, Lies-plain}
use Rattle.code_follows.specs.Laws.Operand.{IsAt-on, Lies-two}
use Rattle.code_relation.specs.Items.{JumpsOnZero}
use Rattle.code_runs.specs.Bounded.{Account}
use Rattle.gen_base.specs.Code.{Code as Items, only, plain, in_turn}
use Rattle.gen_laws.specs.Laws.Unary.{nop-computes}
use Rattle.gen_stmt.specs.Loops.{Around, Emits, result, in_loop, back_to, do_code}
use Rattle.gen_stmt.specs.Statements.{value}
use Rattle.sym_code.specs.declared.item.SymItem.TheVariants as item
use Rattle.stmt_follows.specs.Expressions.{ValueRuns}
use Rattle.stmt_follows.specs.Parts.{ways, Standing, Ends, flow_room, Here, After, Proceeds, StmtPart}
use Rattle.stmt_follows.specs.Laws.Ahead.{unit_then-apart, Proceeds-chosen}
use Rattle.stmt_follows.specs.Laws.Conditions.{and_then-apart, Proceeds-condition}
use Rattle.stmt_follows.specs.Laws.Flowing.{Here-comes, Proceeds-flow, Proceeds-next, StmtPart-by}
use Rattle.stmt_follows.specs.Laws.Proceeding.{Proceeds-same, Proceeds-stuck, Proceeds-done, Proceeds-unit, Proceeds-jump}
use Rattle.stmt_follows.specs.Laws.Proceeding.{Proceeds-computes}
use Rattle.stmt_follows.specs.Laws.Standing.{Standing-turn, Standing-two, Standing-labelled}

abbrev turns : Items → Emits → ℕ → Items
turns c body l = in_turn (plain (Nop ∷ []) ∷ only (item.Label (l + 1)) ∷ body (in_loop (l + 2) l) ∷ only (item.Label l) ∷
    back_to (l + 1) (Some c) ∷ only (item.Label (l + 2)) ∷ [])

-- a NOP, the body, the test, and from there back to the body or on to the end
record StandsDo (k : Scene) (Leaving : ℕ → Type 0) (c : Items) (body : Emits) (l from to : ℕ) : Type 0 where
  start : ℕ
  test : ℕ
  end : ℕ
  first : HasInstrs k (Nop ∷ []) from start
  part : Standing k Leaving (body (in_loop (l + 2) l)) start test
  condition_lies : Lies k c test end
  branch : JumpsOnZero k.code end to start result
  broke : k.label (l + 2) ≡ to
  continued : k.label l ≡ test

stands_do : {k : Scene} {Leaving : ℕ → Type 0} {from to : ℕ} (c : Items) (body : Emits) (l : ℕ) →
    Standing k Leaving (turns c body l) from to → StandsDo k Leaving c body l from to
stands_do {k} {from = from} {to} c body l stands =
    let p = Standing-turn (plain (Nop ∷ [])) (only (item.Label (l + 1)) ∷ body (in_loop (l + 2) l) ∷ only (item.Label l) ∷
    back_to (l + 1) (Some c) ∷ only (item.Label (l + 2)) ∷ []) stands in
    let q = Standing-turn (only (item.Label (l + 1))) (body (in_loop (l + 2) l) ∷ only (item.Label l) ∷ back_to (l + 1) (Some c) ∷
    only (item.Label (l + 2)) ∷ []) p.back in
    let b = Standing-turn (body (in_loop (l + 2) l)) (only (item.Label l) ∷ back_to (l + 1) (Some c) ∷ only (item.Label (l + 2)) ∷ [])
    q.back in
    let m = Standing-turn (only (item.Label l)) (back_to (l + 1) (Some c) ∷ only (item.Label (l + 2)) ∷ []) b.back in
    let o = Standing-two (back_to (l + 1) (Some c)) (only (item.Label (l + 2))) m.back in
    let r = Lies-two c (only (item.JumpIfNotZero result (l + 1))) o.front.lies in
    let begin = Lies-label (l + 1) q.front.lies in
    let test = Lies-label l m.front.lies in
    let last = Lies-label (l + 2) o.back.lies in
    record {
      start = q.middle;
      test = b.middle;
      end = r.middle;
      first = subst (λ (at : ℕ). HasInstrs k (Nop ∷ []) from at) begin.none (Lies-plain (Nop ∷ []) p.front.lies);
      part = b.front;
      condition_lies = Lies-at (sym test.none) refl r.front;
      branch = subst (λ (at : ℕ). JumpsOnZero k.code r.middle to at result) (begin.label ∙ begin.none)
          (subst (λ (at : ℕ). JumpsOnZero k.code r.middle at (k.label (l + 1)) result) last.none
          (Lies-other result (l + 1) r.back));
      broke = last.label ∙ last.none;
      continued = test.label;
    }

module _ {k : Scene} (scene : IsScene k) (parts : StmtParts) (e : TExpr) (st : TStmt) (emits : Emits)
    (runs : ValueRuns k (parts.expr k.here) e) (scalar : is_scalar e.ty ≡ true) (follows : StmtPart k emits (parts.run k.here st)) where
  -- a turn, behind its unit of work
  abbrev tested : Run Turn
  tested = and_then (condition parts k.here e) (λ holds. choice holds (gives Again) (gives (Leaves Next)))

  abbrev turn : Run Turn
  turn = and_then (parts.run k.here st) (λ flow. if_again (after_body flow) tested)

  -- turns from the body on
  record BodyOn (around : Around) (Leaving : ℕ → Type 0) (s : State) (start to : ℕ) (run : Run Flow) : Type 0 where
    goes : (a : Account) (now : MeaningState) (t : State) → Here k s start a 0 80 now t →
        Proceeds k.code flow_room (Ends k (ways k around Leaving) s to) a (and_then turn (λ x. around_turn x run)) now t

  module _ (around : Around) (Leaving : ℕ → Type 0) (l from to : ℕ) (s : State)
      (stands : StandsDo k Leaving (value (structs_in k) (frame_in k) e) emits l from to) where
    -- where the test has come to the jump: the next turn's unit of work, which the jump pays for
    back : (more : ℕ) → ((m : ℕ) → more ≡ suc m → BodyOn around Leaving s stands.start to (loop m (unit_then turn))) → {a : Account}
        {now : MeaningState} {t : State} → Here k s stands.end a 0 76 now t → t.register result.0 ≢ 0 →
        Proceeds k.code flow_room (Ends k (ways k around Leaving) s to) a (loop more (unit_then turn)) now t
    back zero next on other = Proceeds-stuck
    back (suc m) next {now = now} {t} on other =
        Proceeds-same (unit_then-apart turn (λ x. around_turn x (loop m (unit_then turn))) now)
        (Proceeds-unit on (λ owing.
        Proceeds-jump 80 (on_other_jump stands.branch (omega arith) t (IsAt-on owing) other) owing (omega arith)
        (omega (arith, pays scene)) (λ there. (next m refl).goes _ _ _ there)))

    test_on : (more : ℕ) → ((m : ℕ) → more ≡ suc m → BodyOn around Leaving s stands.start to (loop m (unit_then turn))) → {a : Account}
        {now : MeaningState} {t : State} → Here k s stands.test a 0 72 now t →
        Proceeds k.code flow_room (Ends k (ways k around Leaving) s to) a
        (and_then tested (λ x. around_turn x (loop more (unit_then turn)))) now t
    test_on more next {now = now} on =
        let small : result.0 < 31 = omega arith in
        Proceeds-same (and_then-apart (condition parts k.here e) (λ holds. choice holds (gives Again) (gives (Leaves Next)))
        (λ x. around_turn x (loop more (unit_then turn))) now)
        (Proceeds-condition scene parts _ e runs scalar stands.condition_lies (jump_inside stands.branch small) on (λ then u n came.
        Proceeds-chosen (gives Again) (gives (Leaves Next)) (λ x. around_turn x (loop more (unit_then turn)))
        (not (nat_eq (u.register result.0) 0))
        (λ yes. Proceeds-same refl (back more next came (true_number (u.register result.0) yes)))
        (λ no.
        Proceeds-jump 0 (on_zero_jump stands.branch small u (IsAt-on came) (false_number (u.register result.0) no)) came (omega arith)
        (omega arith) (λ there. Proceeds-same refl (Proceeds-next there)))))

    after_part : (more : ℕ) → ((m : ℕ) → more ≡ suc m → BodyOn around Leaving s stands.start to (loop m (unit_then turn))) →
        {a : Account} {now : MeaningState} {t : State} (x : Flow) →
        After k (ways k (in_loop (l + 2) l) Leaving) s stands.test a 80 x now t →
        Proceeds k.code flow_room (Ends k (ways k around Leaving) s to) a
        (and_then (if_again (after_body x) tested) (λ x. around_turn x (loop more (unit_then turn)))) now t
    after_part more next Next after = test_on more next (Here-comes 72 after.ends after.bounds (omega arith))
    after_part more next Broke after =
        Proceeds-same refl (Proceeds-next (On-at stands.broke (Here-comes 0 after.ends after.bounds (omega arith))))
    after_part more next Continued after =
        test_on more next (On-at stands.continued (Here-comes 72 after.ends after.bounds (omega arith)))
    after_part more next (Returned v) after =
        Proceeds-same refl (Proceeds-done (Returned v) after.bounds (omega arith)
        (record { at = after.ends.at; leaving = after.ends.leaving; value = after.ends.value; comes = after.ends.comes }))

    body_by : (more : ℕ) → ((m : ℕ) → more ≡ suc m → BodyOn around Leaving s stands.start to (loop m (unit_then turn))) →
        BodyOn around Leaving s stands.start to (loop more (unit_then turn))
    body_by more next = record {
      goes = λ a now t on.
          Proceeds-same (and_then-apart (parts.run k.here st) (λ flow. if_again (after_body flow) tested)
          (λ x. around_turn x (loop more (unit_then turn))) now)
          (Proceeds-flow (follows.part (in_loop (l + 2) l) Leaving stands.start stands.test stands.part) (pays scene) on
          (λ x then u n after. after_part more next x after));
    }

    body_on : (more : ℕ) → BodyOn around Leaving s stands.start to (loop more (unit_then turn))
    body_on zero = body_by zero (λ m is. absurd (cc))
    body_on (suc more) =
        let rest = body_on more in
        body_by (suc more) (λ m is. subst (λ n. BodyOn around Leaving s stands.start to (loop n (unit_then turn)))
        (let e : more ≡ m = omega (arith, is) in e) rest)

  pub do_follows : StmtPart k (λ around. do_code emits (value (structs_in k) (frame_in k) e))
      (stmt_node parts k.here (TStmt-F.DoWhile st e))
  do_follows = StmtPart-by (λ around Leaving from to stands a now s on.
      let named = Standing-labelled (turns (value (structs_in k) (frame_in k) e) emits) stands in
      let pieces = stands_do (value (structs_in k) (frame_in k) e) emits named.number named.stands in
      by_bound around Leaving from pieces.start to s a now on pieces.first
      (body_on around Leaving named.number from to s pieces) parts.bound)
    where
      by_bound : (around : Around) (Leaving : ℕ → Type 0) (from start to : ℕ) (s : State) (a : Account) (now : MeaningState) →
          Here k s from a 0 0 now s → HasInstrs k (Nop ∷ []) from start →
          ((more : ℕ) → BodyOn around Leaving s start to (loop more (unit_then turn))) → (bound : ℕ) →
          Proceeds k.code flow_room (Ends k (ways k around Leaving) s to) a (loop bound (unit_then turn)) now s
      by_bound around Leaving from start to s a now on first each zero = Proceeds-stuck
      by_bound around Leaving from start to s a now on first each (suc more) =
          Proceeds-same (unit_then-apart turn (λ x. around_turn x (loop more (unit_then turn))) now)
          (Proceeds-unit on (λ owing.
          Proceeds-computes 80 first refl
          (nop-computes result (s.register result.0) s refl (omega (arith, starts_low first owing)))
          (Suits-own false result (omega arith)) owing (omega arith) (omega (arith, pays scene)) (λ there.
          (each more).goes _ _ _ there)))
