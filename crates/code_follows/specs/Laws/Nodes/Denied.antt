-- The code of `!` does what it means (this project's own).
use Rattle.std.specs.Prelude.{◌≡◌, ℕ, Bool, true, false, nat_eq, not, refl}
use Rattle.std.proofs.Common.{arith, ap, sym}
use Rattle.c_ast.specs.declared.int_type.IntType.TheVariants as int
use Rattle.c_ast.specs.declared.operator.UnaryOperator.TheVariants as unary
use Rattle.c_type_base.specs.Arithmetic.{truth}
use Rattle.c_type_base.specs.Laws.Opened.{given_types}
use Rattle.c_type_base.specs.Types.{is_scalar}
use Rattle.c_type_base.specs.declared.expr.TExpr.{TExpr}
use Rattle.c_type_base.specs.declared.expr.TNode.TheOpen.{TNode-F}
use Rattle.a64_code.specs.declared.instr.Reg.{Reg}
use Rattle.a64_code.specs.State.{State}
use Rattle.block_meaning.specs.ExpressionsInOrder.{int_type}
use Rattle.block_meaning.specs.Operators.{is_true, number_of_truth}
use Rattle.block_meaning.specs.Running.{gives, and_then, goes_on, State as MeaningState}
use Rattle.block_meaning.specs.declared.value.Value.{Value}
use Rattle.code_relation.specs.Sites.{Given}
use Rattle.gen_base.specs.Integers.{is_zero, is_other}
use Rattle.gen_laws.specs.Computes.{IsOf}
use Rattle.gen_laws.specs.Laws.Comparisons.{is_zero-computes}
use Rattle.gen_laws.specs.Laws.Computing.{Computes-is}
use Rattle.code_follows.specs.Parts.{ValueFollows, ValueNode}
use Rattle.code_follows.specs.Scene.{Scene, IsScene, given_in}
use Rattle.code_follows.specs.Values.{ValueIs}
use Rattle.code_follows.specs.Laws.Operand.{ValueIs-spent, Listed, Operand, Does, computes_it, is_undefined, operand_part}
use Rattle.code_follows.specs.Laws.Truth.{PointersTrue, TruthIs, known, unknown, ValueIs-truth}

-- a truth is a number of type int
truth_of : (b : Bool) → IsOf int.Int (truth b)
truth_of true = refl
truth_of false = refl

pub truth_is : {g : Given} {now : MeaningState} (b : Bool) → ValueIs g int_type (number_of_truth b) now (truth b)
unfolding given_types
truth_is b = record { of = truth_of b; holds = refl }

not_not : (b : Bool) → not (not b) ≡ b
not_not true = refl
not_not false = refl

pub zero_listed : (reg : Reg) → Listed (is_zero reg)
zero_listed reg = record { quiet = refl; few = record { some = omega arith; few = omega arith } }

pub other_listed : (reg : Reg) → Listed (is_other reg)
other_listed reg = record { quiet = refl; few = record { some = omega arith; few = omega arith } }

pub denied_follows : (k : Scene) → IsScene k → PointersTrue k → (depth : ℕ) (e : TExpr) → ValueFollows k depth e → is_scalar e.ty ≡ true →
    ValueNode k depth int_type (TNode-F.Unary unary.Not e)
denied_follows k scene pointers depth e follows scalar = record {
  at = λ span around. record {
    part = operand_part scene (follows.around e.span).part (λ v now n is. ValueIs-spent is) (record {
      list = λ reg. zero_listed reg;
      does = λ reg v now s given.
          by_truth reg v now s given (ValueIs-truth pointers given.relates e.span e.ty v (s.register reg.0) scalar given.is);
    });
  };
}
  where
    by_truth : (reg : Reg) (v : Value) (now : MeaningState) (s : State) → Operand k (ValueIs (given_in k) e.ty) reg v now s →
        TruthIs k.here e.span v (s.register reg.0) now →
        Does (ValueIs (given_in k) int_type) (is_zero reg) reg (and_then (is_true k.here e.span v)
        (λ b. gives (number_of_truth (not b)))) now s
    by_truth reg v now s given (known is) =
        let zero : Bool = nat_eq (s.register reg.0) 0 in
        computes_it (number_of_truth (not (not zero))) (truth (not (not zero)))
        (ap (λ r. goes_on r (λ b. gives (number_of_truth (not b)))) is)
        (Computes-is (ap truth (sym (not_not zero)))
        (is_zero-computes reg (s.register reg.0) s (omega (arith, given.high)) refl (given.relates.injects.in_range.registers reg.0)
        (omega (arith, given.room))))
        (truth_is (not (not zero)))
    by_truth reg v now s given (unknown u is none) =
        is_undefined u (ap (λ r. goes_on r (λ b. gives (number_of_truth (not b)))) is) none
