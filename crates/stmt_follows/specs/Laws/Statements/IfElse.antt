-- The code of an `if` with an `else` does what it means (this project's own).
use Rattle.std.specs.Prelude.{◌≡◌, ℕ, suc, ◌<◌, true, not, nat_eq, [], ◌∷◌, Some}
use Rattle.std.proofs.Common.{arith, sym, subst, ◌∙◌}
use Rattle.a64_code.specs.State.{State}
use Rattle.block_meaning.specs.Running.{gives, choice, State as MeaningState}
use Rattle.block_meaning.specs.Statements.{StmtParts, Flow, Next, Broke, Continued, Returned, stmt_node}
use Rattle.c_type_base.specs.Types.{is_scalar}
use Rattle.c_type_base.specs.declared.expr.TExpr.{TExpr}
use Rattle.c_type_base.specs.declared.statement.TItem.TheOpen.{TStmt-F}
use Rattle.c_type_base.specs.declared.statement.TStmt.{TStmt}
use Rattle.code_follows.specs.Scene.{Scene, IsScene, structs_in, frame_in}
use Rattle.code_follows.specs.Laws.Coming.{pays}
use Rattle.code_follows.specs.Laws.Here.{and_then-gives}
use Rattle.code_follows.specs.Laws.Jumping.{Lies-label, Lies-zero, Jumps, Lies-jump, jump_inside, on_zero_jump, on_other_jump}
use Rattle.code_follows.specs.Laws.Jumping.{true_number, false_number}
use Rattle.code_follows.specs.Laws.Operand.{IsAt-on}
use Rattle.code_relation.specs.Items.{JumpsOnZero}
use Rattle.code_runs.specs.Bounded.{Account}
use Rattle.gen_base.specs.Code.{Code as Items, only, in_turn, labelled}
use Rattle.gen_stmt.specs.Loops.{Emits, result}
use Rattle.gen_stmt.specs.Statements.{value, if_code}
use Rattle.sym_code.specs.declared.item.SymItem.TheVariants as item
use Rattle.stmt_follows.specs.Expressions.{ValueRuns}
use Rattle.stmt_follows.specs.Parts.{Ways, Standing, Ends, flow_room, After, Proceeds, StmtPart}
use Rattle.stmt_follows.specs.Laws.Conditions.{Proceeds-condition}
use Rattle.stmt_follows.specs.Laws.Flowing.{Here-comes, Proceeds-flow, Proceeds-as, Proceeds-next, StmtPart-by}
use Rattle.stmt_follows.specs.Laws.Proceeding.{Proceeds-same, Proceeds-choice, Proceeds-jump, Proceeds-done}
use Rattle.stmt_follows.specs.Laws.Standing.{Standing-turn, Standing-two, Standing-at, Standing-labelled}

abbrev two_ways : Items → Items → ℕ → Items
two_ways x y l = in_turn (only (item.JumpIfZero result l) ∷ x ∷ only (item.Jump (suc l)) ∷ only (item.Label l) ∷ y ∷
    only (item.Label (suc l)) ∷ [])

-- where the register is 0 the second way, which ends at the end, and else the first, from which a jump leads there
record StandsBoth (k : Scene) (Leaving : ℕ → Type 0) (x y : Items) (from to : ℕ) : Type 0 where
  other : ℕ
  start : ℕ
  end : ℕ
  branch : JumpsOnZero k.code from other start result
  first : Standing k Leaving x start end
  over : Jumps k end to
  second : Standing k Leaving y other to

stands_both : {k : Scene} {Leaving : ℕ → Type 0} {from to : ℕ} (x y : Items) (l : ℕ) → Standing k Leaving (two_ways x y l) from to →
    StandsBoth k Leaving x y from to
stands_both {k} {to = to} x y l stands =
    let p = Standing-turn (only (item.JumpIfZero result l))
    (x ∷ only (item.Jump (suc l)) ∷ only (item.Label l) ∷ y ∷ only (item.Label (suc l)) ∷ []) stands in
    let q = Standing-turn x (only (item.Jump (suc l)) ∷ only (item.Label l) ∷ y ∷ only (item.Label (suc l)) ∷ []) p.back in
    let j = Standing-turn (only (item.Jump (suc l))) (only (item.Label l) ∷ y ∷ only (item.Label (suc l)) ∷ []) q.back in
    let m = Standing-turn (only (item.Label l)) (y ∷ only (item.Label (suc l)) ∷ []) j.back in
    let o = Standing-two y (only (item.Label (suc l))) m.back in
    let second = Lies-label l m.front.lies in
    let last = Lies-label (suc l) o.back.lies in
    record {
      other = k.label l;
      start = p.middle;
      end = q.middle;
      branch = Lies-zero result l p.front.lies;
      first = q.front;
      over = subst (λ (at : ℕ). Jumps k q.middle at) (last.label ∙ last.none) (Lies-jump (suc l) j.front.lies);
      second = Standing-at (sym second.none ∙ sym second.label) last.none o.front;
    }

-- the first way is left: over the second where it goes on
after_first : {k : Scene} {w : Ways} {s : State} {end to : ℕ} {a : Account} {now : MeaningState} {t : State} → Jumps k end to →
    (x : Flow) → After k w s end a 2 x now t → Proceeds k.code flow_room (Ends k w s to) a (gives x) now t
after_first over Next after =
    let on = Here-comes 2 after.ends after.bounds (omega arith) in
    Proceeds-jump 0 (over.jumps _ (IsAt-on on)) on (omega arith) (omega arith) (λ there. Proceeds-next there)
after_first over Broke after = Proceeds-done Broke after.bounds (omega arith) after.ends
after_first over Continued after = Proceeds-done Continued after.bounds (omega arith) after.ends
after_first over (Returned v) after = Proceeds-done (Returned v) after.bounds (omega arith) after.ends

pub if_else_follows : {k : Scene} → IsScene k → (parts : StmtParts) (e : TExpr) (st other : TStmt) (emits others : Emits) →
    ValueRuns k (parts.expr k.here) e → is_scalar e.ty ≡ true → StmtPart k emits (parts.run k.here st) →
    StmtPart k others (parts.run k.here other) →
    StmtPart k (if_code (value (structs_in k) (frame_in k) e) emits (Some others)) (stmt_node parts k.here (TStmt-F.If e st (Some other)))
if_else_follows {k} scene parts e st other emits others runs scalar follows other_follows =
    StmtPart-by (λ around Leaving from to stands a now s on.
    let pieces = Standing-two (value (structs_in k) (frame_in k) e) (labelled (two_ways (emits around) (others around))) stands in
    let named = Standing-labelled (two_ways (emits around) (others around)) pieces.back in
    let both = stands_both (emits around) (others around) named.number named.stands in
    let small : result.0 < 31 = omega arith in
    Proceeds-condition scene parts (λ holds. choice holds (parts.run k.here st) (parts.run k.here other)) e runs scalar
    pieces.front.lies (jump_inside both.branch small) on (λ then u n came.
    Proceeds-choice (not (nat_eq (u.register result.0) 0))
    (λ yes. Proceeds-jump 2 (on_other_jump both.branch small u (IsAt-on came) (true_number (u.register result.0) yes)) came (omega arith)
    (omega arith) (λ there.
    Proceeds-same (and_then-gives (parts.run k.here st) then)
    (Proceeds-flow (follows.part around Leaving both.start both.end both.first) (pays scene) there
    (λ x after v m left. after_first both.over x left))))
    (λ no. Proceeds-jump 2 (on_zero_jump both.branch small u (IsAt-on came) (false_number (u.register result.0) no)) came (omega arith)
    (omega arith) (λ there.
    Proceeds-same (and_then-gives (parts.run k.here other) then)
    (Proceeds-flow (other_follows.part around Leaving both.other to both.second) (pays scene) there
    (λ x after v m left. Proceeds-as x left))))))
