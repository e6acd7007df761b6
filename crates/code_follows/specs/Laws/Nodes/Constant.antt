-- The code of a constant does what it means (this project's own).
use Rattle.std.specs.Prelude.{ℕ, ◌<◌, true}
use Rattle.std.proofs.Common.{arith}
use Rattle.c_ast.specs.declared.int_type.IntType.{IntType}
use Rattle.c_type_base.specs.Laws.Opened.{given_types}
use Rattle.c_type_base.specs.declared.expr.TNode.TheOpen.{TNode-F}
use Rattle.c_type_base.specs.declared.ty.Ty.TheVariants as ty
use Rattle.a64_laws.specs.Constants.{constant_moves}
use Rattle.block_meaning.specs.declared.value.Value.TheVariants.{Number}
use Rattle.gen_laws.specs.Computes.{IsOf}
use Rattle.gen_laws.specs.Laws.Computing.{Computes-constant}
use Rattle.gen_laws.specs.Laws.Numbers.{IsOf-lt}
use Rattle.code_follows.specs.Leaves.{value_leaves}
use Rattle.code_follows.specs.Parts.{ValueNode}
use Rattle.code_follows.specs.Scene.{Scene, IsScene}
use Rattle.gen_laws.specs.Computes.{Computes, all}
use Rattle.code_follows.specs.Values.{IsOfType}
use Rattle.code_follows.specs.Laws.Computing.{Suits-own, constant_quiet, constant_few}
use Rattle.code_follows.specs.Laws.Coming.{pays, starts_low}
use Rattle.code_follows.specs.Laws.Going.{Goes-unit, Goes-computes, Goes-done, Part-by}
use Rattle.code_follows.specs.Laws.Lying.{HasInstrs, Lies-plain}

number_of : (i : IntType) (n : ℕ) → IsOf i n → IsOfType (ty.Int i) (Number n)
unfolding given_types
number_of i n fits = fits

pub constant_follows : (k : Scene) → IsScene k → (depth n : ℕ) (i : IntType) → IsOf i n →
    ValueNode k depth (ty.Int i) (TNode-F.Constant n i)
constant_follows k scene depth n i fits = record {
  at = λ span around. record {
    part = Part-by (λ first reg from to free lies a now s on.
        let has : HasInstrs k (constant_moves reg n) from to = Lies-plain (constant_moves reg n) lies in
        let few = constant_few reg n in
        let low : reg.0 < 28 = omega (arith, free.high) in
        Goes-unit on (λ owing.
        let puts : Computes (constant_moves reg n) reg n all s =
        Computes-constant n reg s (omega (arith, low)) (IsOf-lt i n fits) (omega (arith, starts_low has owing)) in
        Goes-computes value_leaves has (constant_quiet reg n) puts
        (Suits-own true reg low) owing few.some (omega (arith, few.few, pays scene))
        (λ done. Goes-done (Number n) done (omega arith)
        (record { of = number_of i n fits; holds = puts.holds }))));
  };
}
