-- The code of `while` does what it means (this project's own).
use Rattle.std.specs.Prelude.{◌≡◌, ℕ, ◌+◌, ◌<◌, true, not, nat_eq, [], ◌∷◌, Some, refl}
use Rattle.std.proofs.Common.{arith, sym, subst, ◌∙◌}
use Rattle.a64_code.specs.State.{State}
use Rattle.block_meaning.specs.Running.{Run, gives, and_then, choice}
use Rattle.block_meaning.specs.Statements.{StmtParts, Flow, Next, Turn, Leaves, after_body, condition, stmt_node}
use Rattle.block_meaning.specs.Statements.{around as around_turn}
use Rattle.c_type_base.specs.Types.{is_scalar}
use Rattle.c_type_base.specs.declared.expr.TExpr.{TExpr}
use Rattle.c_type_base.specs.declared.statement.TItem.TheOpen.{TStmt-F}
use Rattle.c_type_base.specs.declared.statement.TStmt.{TStmt}
use Rattle.code_follows.specs.Scene.{Scene, IsScene, structs_in, frame_in, Lies}
use Rattle.code_follows.specs.Laws.Coming.{pays}
use Rattle.code_follows.specs.Laws.Jumping.{Lies-label, Lies-other, Jumps, Lies-jump, jump_inside, on_zero_jump, on_other_jump}
use Rattle.code_follows.specs.Laws.Jumping.{Lies-at, true_number, false_number}
use Rattle.code_follows.specs.Laws.Operand.{IsAt-on, Lies-two}
use Rattle.code_relation.specs.Items.{JumpsOnZero}
use Rattle.gen_base.specs.Code.{Code as Items, only, in_turn}
use Rattle.gen_stmt.specs.Loops.{Around, Emits, result, in_loop, back_to, while_code}
use Rattle.gen_stmt.specs.Statements.{value}
use Rattle.sym_code.specs.declared.item.SymItem.TheVariants as item
use Rattle.stmt_follows.specs.Expressions.{ValueRuns}
use Rattle.stmt_follows.specs.Parts.{ways, Standing, StmtPart}
use Rattle.stmt_follows.specs.Laws.Ahead.{Proceeds-chosen, Proceeds-flow_ahead}
use Rattle.stmt_follows.specs.Laws.Conditions.{and_then-apart, Proceeds-condition}
use Rattle.stmt_follows.specs.Laws.Flowing.{Proceeds-next, StmtPart-by}
use Rattle.stmt_follows.specs.Laws.Proceeding.{Proceeds-same, Proceeds-jump}
use Rattle.stmt_follows.specs.Laws.Standing.{Standing-turn, Standing-two, Standing-labelled}
use Rattle.stmt_follows.specs.Laws.Statements.Turns.{LoopsOn, TurnsOn, after_turn, turns_first}

abbrev turns : Items → Emits → ℕ → Items
turns c body l = in_turn (only (item.Jump l) ∷ only (item.Label (l + 1)) ∷ body (in_loop (l + 2) l) ∷ only (item.Label l) ∷
    back_to (l + 1) (Some c) ∷ only (item.Label (l + 2)) ∷ [])

-- a jump to the test, the body, the test, and from there back to the body or on to the end
record StandsWhile (k : Scene) (Leaving : ℕ → Type 0) (c : Items) (body : Emits) (l from to : ℕ) : Type 0 where
  start : ℕ
  test : ℕ
  end : ℕ
  first : Jumps k from test
  part : Standing k Leaving (body (in_loop (l + 2) l)) start test
  condition_lies : Lies k c test end
  branch : JumpsOnZero k.code end to start result
  broke : k.label (l + 2) ≡ to
  continued : k.label l ≡ test

stands_while : {k : Scene} {Leaving : ℕ → Type 0} {from to : ℕ} (c : Items) (body : Emits) (l : ℕ) →
    Standing k Leaving (turns c body l) from to → StandsWhile k Leaving c body l from to
stands_while {k} {from = from} {to} c body l stands =
    let p = Standing-turn (only (item.Jump l)) (only (item.Label (l + 1)) ∷ body (in_loop (l + 2) l) ∷ only (item.Label l) ∷
    back_to (l + 1) (Some c) ∷ only (item.Label (l + 2)) ∷ []) stands in
    let q = Standing-turn (only (item.Label (l + 1))) (body (in_loop (l + 2) l) ∷ only (item.Label l) ∷ back_to (l + 1) (Some c) ∷
    only (item.Label (l + 2)) ∷ []) p.back in
    let b = Standing-turn (body (in_loop (l + 2) l)) (only (item.Label l) ∷ back_to (l + 1) (Some c) ∷ only (item.Label (l + 2)) ∷ [])
    q.back in
    let m = Standing-turn (only (item.Label l)) (back_to (l + 1) (Some c) ∷ only (item.Label (l + 2)) ∷ []) b.back in
    let o = Standing-two (back_to (l + 1) (Some c)) (only (item.Label (l + 2))) m.back in
    let r = Lies-two c (only (item.JumpIfNotZero result (l + 1))) o.front.lies in
    let begin = Lies-label (l + 1) q.front.lies in
    let test = Lies-label l m.front.lies in
    let last = Lies-label (l + 2) o.back.lies in
    record {
      start = q.middle;
      test = b.middle;
      end = r.middle;
      first = subst (λ (at : ℕ). Jumps k from at) test.label (Lies-jump l p.front.lies);
      part = b.front;
      condition_lies = Lies-at (sym test.none) refl r.front;
      branch = subst (λ (at : ℕ). JumpsOnZero k.code r.middle to at result) (begin.label ∙ begin.none)
          (subst (λ (at : ℕ). JumpsOnZero k.code r.middle at (k.label (l + 1)) result) last.none
          (Lies-other result (l + 1) r.back));
      broke = last.label ∙ last.none;
      continued = test.label;
    }

module _ {k : Scene} (scene : IsScene k) (parts : StmtParts) (e : TExpr) (st : TStmt) (emits : Emits)
    (runs : ValueRuns k (parts.expr k.here) e) (scalar : is_scalar e.ty ≡ true) (follows : StmtPart k emits (parts.run k.here st)) where
  -- a turn, behind its unit of work
  abbrev turn : Run Turn
  turn = and_then (condition parts k.here e) (λ holds.
      choice holds (and_then (parts.run k.here st) (λ flow. gives (after_body flow))) (gives (Leaves Next)))

  turns_on : (around : Around) (Leaving : ℕ → Type 0) (l from to : ℕ) (s : State) →
      (stands : StandsWhile k Leaving (value (structs_in k) (frame_in k) e) emits l from to) → (run : Run Flow) →
      LoopsOn k (ways k around Leaving) s stands.test to run → TurnsOn k (ways k around Leaving) s stands.test to turn run
  turns_on around Leaving l from to s stands run rest = record {
    goes = λ a now t on.
        let small : result.0 < 31 = omega arith in
        Proceeds-same (and_then-apart (condition parts k.here e) _ _ now)
        (Proceeds-condition scene parts _ e runs scalar stands.condition_lies (jump_inside stands.branch small) on (λ then u n came.
        Proceeds-chosen _ _ _ (not (nat_eq (u.register result.0) 0))
        (λ yes.
        let goes = on_other_jump stands.branch small u (IsAt-on came) (true_number (u.register result.0) yes) in
        Proceeds-jump 80 goes came (omega arith) (omega arith) (λ there.
        Proceeds-same (and_then-apart (parts.run k.here st) (λ flow. gives (after_body flow)) (λ x. around_turn x run) then)
        (Proceeds-flow_ahead (follows.part (in_loop (l + 2) l) Leaving stands.start stands.test stands.part) (pays scene) there
        (record { ahead = omega (arith, came.least, goes.least) }) (λ x last v m after before.
        after_turn {w = ways k around Leaving} x stands.broke stands.continued after before rest))))
        (λ no.
        Proceeds-jump 0 (on_zero_jump stands.branch small u (IsAt-on came) (false_number (u.register result.0) no)) came (omega arith)
        (omega arith) (λ there. Proceeds-same refl (Proceeds-next there)))));
  }

  pub while_follows : StmtPart k (λ around. while_code (value (structs_in k) (frame_in k) e) emits)
      (stmt_node parts k.here (TStmt-F.While e st))
  while_follows = StmtPart-by (λ around Leaving from to stands a now s on.
      let named = Standing-labelled (turns (value (structs_in k) (frame_in k) e) emits) stands in
      let pieces = stands_while (value (structs_in k) (frame_in k) e) emits named.number named.stands in
      let each = turns_on around Leaving named.number from to s pieces in
      turns_first scene on pieces.first each parts.bound)
