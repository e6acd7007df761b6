-- The code of `return` does what it means: the value is in X0 where the function ends (this project's own).
use Rattle.std.specs.Prelude.{ℕ, [], ◌∷◌, Some, None, refl}
use Rattle.std.proofs.Common.{arith, sym, subst}
use Rattle.a64_code.specs.State.{State}
use Rattle.a64_laws.specs.Constants.{constant_moves}
use Rattle.a64_laws.specs.Laws.Results.{moved}
use Rattle.block_meaning.specs.Running.{State as MeaningState}
use Rattle.block_meaning.specs.Statements.{StmtParts, Returned, stmt_node}
use Rattle.block_meaning.specs.declared.value.Value.{Value}
use Rattle.block_meaning.specs.declared.value.Value.TheVariants.{NoValue}
use Rattle.c_ast.specs.declared.token.Span.{Span}
use Rattle.c_type_base.specs.declared.expr.TExpr.{TExpr}
use Rattle.c_type_base.specs.declared.statement.TItem.TheOpen.{TStmt-F}
use Rattle.code_follows.specs.Scene.{Scene, IsScene, given_in, structs_in, frame_in}
use Rattle.code_follows.specs.Laws.Coming.{Walks-computes, starts_low}
use Rattle.code_follows.specs.Laws.Computing.{Suits-other, constant_quiet, constant_few}
use Rattle.code_follows.specs.Laws.Lying.{HasInstrs, Lies-plain}
use Rattle.code_relation.specs.Numbers.{Holds}
use Rattle.code_relation.specs.Trees.{Comes}
use Rattle.gen_base.specs.Code.{only, plain}
use Rattle.gen_base.specs.Registers.{returned, move}
use Rattle.gen_laws.specs.Computes.{Computes, all}
use Rattle.gen_laws.specs.Laws.Computing.{Computes-put, Computes-constant}
use Rattle.gen_stmt.specs.Loops.{result}
use Rattle.gen_stmt.specs.Statements.{value, return_code}
use Rattle.sym_code.specs.declared.item.SymItem.TheVariants as item
use Rattle.stmt_follows.specs.Expressions.{ValueRuns}
use Rattle.stmt_follows.specs.Parts.{Ways, Standing, Left, StmtPart}
use Rattle.stmt_follows.specs.Laws.Conditions.{Proceeds-value}
use Rattle.stmt_follows.specs.Laws.Flowing.{Proceeds-leaves, StmtPart-by}
use Rattle.stmt_follows.specs.Laws.Standing.{Standing-turn, Standing-two}

-- the item where the function ends
leaves_there : {k : Scene} {Leaving : ℕ → Type 0} {from to : ℕ} → Standing k Leaving (only item.Leave) from to → Leaving from
leaves_there {Leaving = Leaving} stands = subst (λ (at : ℕ). Leaving at) stands.lies.from_is (stands.leaving 0 refl)

left_with : {k : Scene} {w : Ways} {s : State} {v : Value} {at : ℕ} {now : MeaningState} {t : State} → w.Leaving at →
    Holds (given_in k) now v (t.register 0) → Comes (given_in k) 0 at k.here s now t → Left k w s v now t
left_with {at = at} leaving holds comes = record { at = at; leaving = leaving; value = holds; comes = comes }

pub return_follows : {k : Scene} → IsScene k → (parts : StmtParts) (span : Span) →
    StmtPart k (λ around. return_code (structs_in k) (frame_in k) None) (stmt_node parts k.here (TStmt-F.Return None span))
return_follows {k} scene parts span = StmtPart-by (λ around Leaving from to stands a now s on.
    let pieces = Standing-two (plain (constant_moves returned 0)) (only item.Leave) stands in
    let has : HasInstrs k (constant_moves returned 0) from pieces.middle = Lies-plain (constant_moves returned 0) pieces.front.lies in
    let few = constant_few returned 0 in
    let puts : Computes (constant_moves returned 0) returned 0 all s =
    Computes-constant 0 returned s (omega arith) (omega arith) (omega (arith, starts_low has on)) in
    Proceeds-leaves (Returned NoValue)
    (Walks-computes has (constant_quiet returned 0) puts (Suits-other result returned all (omega arith) tt) on.came.comes.relates
    on.came.comes.pc) on (omega (arith, few.few)) (λ comes. left_with (leaves_there pieces.back) tt comes))

pub return_value_follows : {k : Scene} → IsScene k → (parts : StmtParts) (e : TExpr) (span : Span) →
    ValueRuns k (parts.expr k.here) e →
    StmtPart k (λ around. return_code (structs_in k) (frame_in k) (Some e)) (stmt_node parts k.here (TStmt-F.Return (Some e) span))
return_value_follows {k} scene parts e span runs = StmtPart-by (λ around Leaving from to stands a now s on.
    let p = Standing-turn (value (structs_in k) (frame_in k) e) (plain (move result returned ∷ []) ∷ only item.Leave ∷ []) stands in
    let q = Standing-two (plain (move result returned ∷ [])) (only item.Leave) p.back in
    let has : HasInstrs k (move result returned ∷ []) p.middle q.middle = Lies-plain (move result returned ∷ []) q.front.lies in
    Proceeds-value scene parts e runs p.front.lies on (λ v then u n came is.
    let puts : Computes (move result returned ∷ []) returned (u.register result.0) all u =
    Computes-put (move result returned) returned (u.register result.0) u (moved result returned u (omega arith) (omega arith))
    (omega (arith, starts_low has came)) in
    Proceeds-leaves (Returned v)
    (Walks-computes has refl puts (Suits-other result returned all (omega arith) tt) came.came.comes.relates came.came.comes.pc) came
    (omega arith)
    (λ comes. left_with (leaves_there q.back)
    (subst (λ (m : ℕ). Holds (given_in k) then v m) (sym puts.holds) is.holds) comes)))
