-- What `++` and `--` do once the value is in the register: the value after comes into X16, and one of the two stays in the register (this
-- project's own).
use Rattle.std.specs.Prelude.{◌≡◌, ◌≢◌, ℕ, ◌+◌, ◌^◌, ◌<◌, ◌≤◌, Bool, true, false, [], ◌∷◌, refl, if◌then◌else◌}
use Rattle.std.proofs.Common.{arith, ap, sym, subst}
use Rattle.c_ast.specs.declared.operator.Step.{Step}
use Rattle.c_type_base.specs.Types.{is_scalar}
use Rattle.c_type_base.specs.declared.ty.Ty.{Ty}
use Rattle.a64_code.specs.declared.instr.Reg.{Reg}
use Rattle.a64_code.specs.State.{State}
use Rattle.block_meaning.specs.Operators.{gives_old, stepped}
use Rattle.block_meaning.specs.Running.{Run, gives, State as MeaningState}
use Rattle.block_meaning.specs.declared.value.Value.{Value}
use Rattle.code_runs.specs.Bounded.{Account}
use Rattle.gen_base.specs.Operators.{stepped as stepped_code}
use Rattle.gen_base.specs.Registers.{left, move}
use Rattle.gen_expr.specs.Nodes.{new_or_old}
use Rattle.gen_laws.specs.Computes.{all}
use Rattle.gen_laws.specs.Laws.Computing.{Computes-is}
use Rattle.code_follows.specs.Leaves.{value_leaves}
use Rattle.code_follows.specs.Parts.{Result, On, Goes}
use Rattle.code_follows.specs.Scene.{Scene, IsScene, given_in, structs_in}
use Rattle.code_follows.specs.Values.{ValueIs}
use Rattle.code_follows.specs.Laws.Computing.{Suits-other}
use Rattle.code_follows.specs.Laws.Going.{Goes-list, Goes-computes, Goes-done, On-at}
use Rattle.code_follows.specs.Laws.Lying.{HasInstrs}
use Rattle.code_follows.specs.Laws.Operand.{begins}
use Rattle.code_follows.specs.Laws.Stepping.{ShortSome, stepped_short, StepIs, step_is}
use Rattle.code_follows.specs.Laws.Waiting.{move_computes, On-spare}

-- the value after comes into X16
pub Goes-steps : {A : Type 0} {k : Scene} {first : ℕ} {reg : Reg} {result : Result A} {s : State} {to leaves : ℕ} {a : Account}
    {spare from middle : ℕ} {m : Run A} {now : MeaningState} {u : State} (left_over : ℕ) → IsScene k → (step : Step) (t : Ty) →
    is_scalar t ≡ true → (v : Value) → 9 ≤ reg.0 → reg.0 ≤ 15 → HasInstrs k (stepped_code (structs_in k) step t reg) from middle →
    ValueIs (given_in k) t v now (u.register reg.0) → On k first reg false s from a 0 spare now u → 5 + left_over ≤ spare →
    ((w : State) (c : Account) → ValueIs (given_in k) t (stepped k.here step t v) now (w.register 16) →
    ((r : ℕ) → r ≢ 16 → w.register r ≡ u.register r) → On k first reg false s middle c 0 left_over now w →
    Goes k first reg false result s to leaves c m now w) →
    Goes k first reg false result s to leaves a m now u
Goes-steps {k = k} {reg = reg} {from = from} {now = now} {u} left_over scene step t scalar v low high has is on fits more =
    let short : ShortSome 5 (stepped_code (structs_in k) step t reg) = stepped_short (structs_in k) step t reg in
    let first = begins (stepped_code (structs_in k) step t reg) short.some has in
    let below : from < 2 ^ 56 = first.has.below in
    let made : StepIs k step t reg v now u =
    step_is scene step t scalar reg v now u on.came.comes.relates (record { from = low; to = high })
    (omega (arith, on.came.comes.pc, below)) is in
    Goes-computes left_over has short.quiet made.computes (Suits-other reg left all (omega arith) tt) on (omega arith)
    (omega (arith, fits, short.few))
    (λ done. more made.computes.to _
    (subst (λ n. ValueIs (given_in k) t (stepped k.here step t v) now n) (sym made.computes.holds) made.is)
    (λ r other. made.computes.registers r other tt) done)

-- the value before is in the register, or the one after comes there
pub Goes-new_or_old : {k : Scene} {first : ℕ} {reg : Reg} {s : State} {from to : ℕ} {a : Account} {spare : ℕ} {now : MeaningState}
    {u : State} (step : Step) (t : Ty) (v new : Value) → 9 ≤ reg.0 → reg.0 ≤ 15 → HasInstrs k (new_or_old step reg) from to →
    ValueIs (given_in k) t v now (u.register reg.0) → ValueIs (given_in k) t new now (u.register 16) →
    On k first reg false s from a 0 spare now u → 1 + value_leaves ≤ spare →
    Goes k first reg false (ValueIs (given_in k) t) s to value_leaves a (gives (if gives_old step then v else new)) now u
Goes-new_or_old {k} {first} {reg} {s} {from} {to} {a} {spare} {now} {u} step t v new low high has old_is new_is on fits =
    by_kind (gives_old step) has
  where
    by_kind : (old : Bool) → HasInstrs k (if old then [] else move left reg ∷ []) from to →
        Goes k first reg false (ValueIs (given_in k) t) s to value_leaves a (gives (if old then v else new)) now u
    by_kind true has =
        let same : from ≡ to = omega (arith, has.to_is) in
        Goes-done v (On-at same (On-spare value_leaves (omega (arith, fits)) on)) (omega arith) old_is
    by_kind false has =
        Goes-list {most = 1} value_leaves has (record { quiet = refl; few = omega arith })
        (λ w same near. Computes-is (ap (λ g. g 16) same) (move_computes left reg w (omega arith) (omega (arith, high)) near))
        (Suits-other reg reg all (omega (arith, high)) tt) on (omega arith) (omega (arith, fits))
        (λ w m holds others done. Goes-done new done (omega arith) (subst (λ n. ValueIs (given_in k) t new now n) (sym holds) new_is))
