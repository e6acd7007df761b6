-- The code of an `if` without an `else` does what it means (this project's own).
use Rattle.std.specs.Prelude.{◌≡◌, ℕ, ◌<◌, true, not, nat_eq, [], ◌∷◌, None, refl}
use Rattle.std.proofs.Common.{arith, subst, ◌∙◌}
use Rattle.block_meaning.specs.Running.{gives, choice}
use Rattle.block_meaning.specs.Statements.{StmtParts, Next, stmt_node}
use Rattle.c_type_base.specs.Types.{is_scalar}
use Rattle.c_type_base.specs.declared.expr.TExpr.{TExpr}
use Rattle.c_type_base.specs.declared.statement.TItem.TheOpen.{TStmt-F}
use Rattle.c_type_base.specs.declared.statement.TStmt.{TStmt}
use Rattle.code_follows.specs.Scene.{Scene, IsScene, structs_in, frame_in}
use Rattle.code_follows.specs.Laws.Coming.{pays}
use Rattle.code_follows.specs.Laws.Here.{and_then-gives}
use Rattle.code_follows.specs.Laws.Jumping.{Lies-label, Lies-zero, jump_inside, on_zero_jump, on_other_jump}
use Rattle.code_follows.specs.Laws.Jumping.{true_number, false_number}
use Rattle.code_follows.specs.Laws.Operand.{IsAt-on}
use Rattle.code_relation.specs.Items.{JumpsOnZero}
use Rattle.gen_base.specs.Code.{Code as Items, only, in_turn, labelled}
use Rattle.gen_stmt.specs.Loops.{Emits, result}
use Rattle.gen_stmt.specs.Statements.{value, if_code}
use Rattle.sym_code.specs.declared.item.SymItem.TheVariants as item
use Rattle.stmt_follows.specs.Expressions.{ValueRuns}
use Rattle.stmt_follows.specs.Parts.{Standing, StmtPart}
use Rattle.stmt_follows.specs.Laws.Conditions.{Proceeds-condition}
use Rattle.stmt_follows.specs.Laws.Flowing.{Proceeds-flow, Proceeds-as, Proceeds-next, StmtPart-by}
use Rattle.stmt_follows.specs.Laws.Proceeding.{Proceeds-same, Proceeds-choice, Proceeds-jump}
use Rattle.stmt_follows.specs.Laws.Standing.{Standing-turn, Standing-two, Standing-at, Standing-labelled}

abbrev one_way : Items → ℕ → Items
one_way x l = in_turn (only (item.JumpIfZero result l) ∷ x ∷ only (item.Label l) ∷ [])

-- a jump to the end where the register is 0, and else on to the part, which comes to the end
record StandsOne (k : Scene) (Leaving : ℕ → Type 0) (x : Items) (from to : ℕ) : Type 0 where
  start : ℕ
  branch : JumpsOnZero k.code from to start result
  part : Standing k Leaving x start to

stands_one : {k : Scene} {Leaving : ℕ → Type 0} {from to : ℕ} (x : Items) (l : ℕ) → Standing k Leaving (one_way x l) from to →
    StandsOne k Leaving x from to
stands_one {k} {from = from} x l stands =
    let p = Standing-turn (only (item.JumpIfZero result l)) (x ∷ only (item.Label l) ∷ []) stands in
    let q = Standing-two x (only (item.Label l)) p.back in
    let e = Lies-label l q.back.lies in
    record {
      start = p.middle;
      branch = subst (λ (at : ℕ). JumpsOnZero k.code from at p.middle result) (e.label ∙ e.none) (Lies-zero result l p.front.lies);
      part = Standing-at refl e.none q.front;
    }

pub if_follows : {k : Scene} → IsScene k → (parts : StmtParts) (e : TExpr) (st : TStmt) (emits : Emits) →
    ValueRuns k (parts.expr k.here) e → is_scalar e.ty ≡ true → StmtPart k emits (parts.run k.here st) →
    StmtPart k (if_code (value (structs_in k) (frame_in k) e) emits None) (stmt_node parts k.here (TStmt-F.If e st None))
if_follows {k} scene parts e st emits runs scalar follows = StmtPart-by (λ around Leaving from to stands a now s on.
    let pieces = Standing-two (value (structs_in k) (frame_in k) e) (labelled (one_way (emits around))) stands in
    let named = Standing-labelled (one_way (emits around)) pieces.back in
    let way = stands_one (emits around) named.number named.stands in
    let small : result.0 < 31 = omega arith in
    Proceeds-condition scene parts (λ holds. choice holds (parts.run k.here st) (gives Next)) e runs scalar pieces.front.lies
    (jump_inside way.branch small) on (λ then u n came.
    Proceeds-choice (not (nat_eq (u.register result.0) 0))
    (λ yes. Proceeds-jump 0 (on_other_jump way.branch small u (IsAt-on came) (true_number (u.register result.0) yes)) came (omega arith)
    (omega arith) (λ there.
    Proceeds-same (and_then-gives (parts.run k.here st) then)
    (Proceeds-flow (follows.part around Leaving way.start to way.part) (pays scene) there (λ x after v m left. Proceeds-as x left))))
    (λ no. Proceeds-jump 0 (on_zero_jump way.branch small u (IsAt-on came) (false_number (u.register result.0) no)) came (omega arith)
    (omega arith) (λ there. Proceeds-next there))))
