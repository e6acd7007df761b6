-- The code of an operator with `=`, behind both operands: what it leaves in the register is the number of what the operator gives, or a
-- division by 0 is told (this project's own). Memory stays as it is.
use Rattle.std.specs.Prelude.{◌≡◌, ℕ, ◌+◌, ◌≤◌, true, false, List, Some}
use Rattle.std.proofs.Common.{arith, ap, sym, subst, ◌∙◌}
use Rattle.std.proofs.Math.Path.{fun_ext}
use Rattle.c_ast.specs.declared.operator.AssignOperator.{AssignOperator}
use Rattle.c_ast.specs.declared.operator.AssignOperator.TheVariants as assign
use Rattle.c_ast.specs.declared.token.Span.{Span}
use Rattle.c_type_base.specs.Types.{is_integer, target_of}
use Rattle.c_type_base.specs.declared.ty.Ty.{Ty}
use Rattle.a64_code.specs.declared.instr.Instr.{Instr}
use Rattle.a64_code.specs.declared.instr.Reg.{Reg}
use Rattle.a64_code.specs.State.{State}
use Rattle.block_meaning.specs.ExpressionsInOrder.{CompoundTypes, computes, adds, takes}
use Rattle.block_meaning.specs.Operators.{operand, binary_of, combined, operated}
use Rattle.block_meaning.specs.Running.{Run, goes_on, and_then, State as MeaningState}
use Rattle.block_meaning.specs.declared.value.Value.{Value}
use Rattle.code_runs.specs.Bounded.{Account}
use Rattle.gen_base.specs.Operators.{wrapped_size}
use Rattle.gen_base.specs.Operators.{combined as combined_code}
use Rattle.gen_base.specs.Pointers.{pointer_and_number}
use Rattle.gen_base.specs.Registers.{scratch}
use Rattle.gen_laws.specs.Computes.{all_but}
use Rattle.gen_laws.specs.Laws.Operators.{combined-pointer}
use Rattle.code_follows.specs.Covered.{combines_in}
use Rattle.code_follows.specs.Parts.{Result, On, Goes}
use Rattle.code_follows.specs.Scene.{Scene, IsScene, given_in, structs_in, Lies}
use Rattle.code_follows.specs.Values.{ValueIs}
use Rattle.code_follows.specs.Laws.Computing.{Suits-other}
use Rattle.code_follows.specs.Laws.Going.{Goes-same, Goes-computes}
use Rattle.code_follows.specs.Laws.Lying.{HasInstrs, Lies-plain}
use Rattle.code_follows.specs.Laws.Nodes.OnPointers.{added_does, taken_does}
use Rattle.code_follows.specs.Laws.PointerValues.{ValueIs-address, points_to}
use Rattle.code_follows.specs.Laws.Operand.{begins, IsAt-on, Goes-undefined, Listed}
use Rattle.code_follows.specs.Laws.Operands.{DoesBeside, computes_it, is_undefined, DoesBoth}
use Rattle.code_follows.specs.Laws.CombiningIntegers.{Next, combines_integers}

module _ {A : Type 0} {k : Scene} (scene : IsScene k) {first : ℕ} {reg : Reg} {result : Result A} {st : State} {to leaves : ℕ}
    (low : 9 ≤ reg.0) (high : reg.0 ≤ 15) (s t : Ty) (span : Span) (f : Value → Run A) where
  -- ---- a pointer and a number

  -- a list that does what another run does
  Goes-pointers : {acc : Account} {spare from middle : ℕ} {now : MeaningState} {u : State} {instrs : List Instr} (run other : Run Value)
      (left_over : ℕ) → HasInstrs k instrs from middle → Listed instrs → run now ≡ other now →
      DoesBeside (ValueIs (given_in k) s) instrs reg other now u → On k first reg false st from acc 0 spare now u → 32 + left_over ≤ spare →
      Next k first reg result st to leaves s f u now middle left_over → Goes k first reg false result st to leaves acc
      (and_then run f) now u
  Goes-pointers {now = now} run other left_over has list same (computes_it w n is puts holds) on fits more =
      Goes-same {n = f w} (ap (λ r. goes_on r f) (same ∙ is))
      (Goes-computes left_over has list.quiet puts
      (Suits-other reg reg (all_but scratch) (omega (arith, high)) (λ same. omega (arith, same))) on (omega arith)
      (omega (arith, list.few.few, fits))
      (λ done. more w puts.to _ (subst (λ (m : ℕ). ValueIs (given_in k) s w now m) (sym puts.holds) holds) puts.same.byte done))
  Goes-pointers {instrs = instrs} run other left_over has list same (is_undefined x is none) on fits more =
      let start = begins instrs list.few.some has in
      Goes-undefined x (ap (λ r. goes_on r f) (same ∙ is)) none (start.has.inside _ (IsAt-on on)) on (omega arith) (omega (arith, fits))

  combines_pointer : {acc : Account} {spare from middle : ℕ} {now : MeaningState} {u : State} (left_over : ℕ) (o : AssignOperator)
      (target : Ty) → target_of s ≡ Some target → is_integer t ≡ true →
      DoesBoth k (ValueIs (given_in k) s) (ValueIs (given_in k) t) (ValueIs (given_in k) s)
      (pointer_and_number (binary_of o) (wrapped_size (structs_in k) target))
      (λ v w. operated k.here span (binary_of o) (operand s v) (operand t w)) →
      (v w : Value) → Lies k (combined_code (structs_in k) o s t reg) from middle → ValueIs (given_in k) s v now (u.register 16) →
      ValueIs (given_in k) t w now (u.register reg.0) → On k first reg false st from acc 0 spare now u → 32 + left_over ≤ spare →
      Next k first reg result st to leaves s f u now middle left_over →
      Goes k first reg false result st to leaves acc (and_then (combined k.here span o (operand s v) (operand t w)) f) now u
  combines_pointer {from = from} {middle} {now} {u} left_over o target of second_int both v w lies v_is w_is on fits more =
      let instrs : List Instr = pointer_and_number (binary_of o) (wrapped_size (structs_in k) target) reg in
      let has : HasInstrs k instrs from middle =
      Lies-plain instrs (subst (λ code. Lies k code from middle)
      (fun_ext (λ at. combined-pointer (structs_in k) o s t target reg at of)) lies) in
      let one = ValueIs-address {s = s} of v_is in
      let start = begins instrs (both.list reg).few.some has in
      Goes-pointers (combined k.here span o (operand s v) (operand t w)) (operated k.here span (binary_of o) (operand s v) (operand t w))
      left_over has (both.list reg)
      (ap (λ x. combined k.here span o (operand s x) (operand t w) now) one.is
      ∙ sym (ap (λ x. operated k.here span (binary_of o) (operand s x) (operand t w) now) one.is))
      (both.does reg v w now u (record {
        low = low;
        high = high;
        first = v_is;
        second = w_is;
        relates = on.came.comes.relates;
        room = omega (arith, on.came.comes.pc, start.has.below);
      })) on fits more

  -- ---- both

  pub Goes-combines : {acc : Account} {spare from middle : ℕ} {now : MeaningState} {u : State} (left_over : ℕ) (o : AssignOperator) →
      CompoundTypes o s t → combines_in o s t ≡ true → (v w : Value) →
      Lies k (combined_code (structs_in k) o s t reg) from middle → ValueIs (given_in k) s v now (u.register 16) →
      ValueIs (given_in k) t w now (u.register reg.0) → On k first reg false st from acc 0 spare now u → 32 + left_over ≤ spare →
      Next k first reg result st to leaves s f u now middle left_over →
      Goes k first reg false result st to leaves acc (and_then (combined k.here span o (operand s v) (operand t w)) f) now u
  Goes-combines left_over o (computes first_int second_int) combines v w lies v_is w_is on fits more =
      combines_integers scene low high s t span f left_over o first_int second_int combines v w lies v_is w_is on (omega (arith, fits)) more
  Goes-combines left_over assign.Add (adds points second_int) combines v w lies v_is w_is on fits more =
      let there = points_to s points in
      combines_pointer left_over assign.Add there.target there.is second_int
      (added_does scene span s t there.target there.is second_int) v w
      lies v_is w_is on fits more
  Goes-combines left_over assign.Subtract (takes points second_int) combines v w lies v_is w_is on fits more =
      let there = points_to s points in
      combines_pointer left_over assign.Subtract there.target there.is second_int
      (taken_does scene span s t there.target there.is second_int)
      v w lies v_is w_is on fits more
