-- The code of unary `+`, `-` and `~` does what they mean (this project's own).
use Rattle.std.specs.Prelude.{◌≡◌, ℕ, ◌-◌, ◌^◌, true, Option, Some, None, refl}
use Rattle.std.proofs.Common.{arith, ap, sym, subst, ◌∙◌}
use Rattle.c_ast.specs.declared.int_type.IntType.{IntType}
use Rattle.c_ast.specs.declared.int_type.IntType.TheVariants as int
use Rattle.c_ast.specs.declared.operator.UnaryOperator.{UnaryOperator}
use Rattle.c_ast.specs.declared.operator.UnaryOperator.TheVariants as unary
use Rattle.c_type_base.specs.Arithmetic.{negated, unary_value}
use Rattle.c_type_base.specs.Conversions.{promoted, wrap}
use Rattle.c_type_base.specs.Types.{is_integer, is_there, int_of}
use Rattle.c_type_base.specs.declared.expr.TExpr.{TExpr}
use Rattle.c_type_base.specs.declared.expr.TNode.TheOpen.{TNode-F}
use Rattle.a64_code.specs.declared.instr.Reg.{Reg}
use Rattle.block_meaning.specs.ExpressionsInOrder.{is_sign}
use Rattle.block_meaning.specs.Expressions.{number_known}
use Rattle.block_meaning.specs.Operators.{or_int, int_in}
use Rattle.block_meaning.specs.Values.{number_in}
use Rattle.block_meaning.specs.declared.value.Value.{Value}
use Rattle.block_meaning.specs.declared.value.Value.TheVariants.{Number}
use Rattle.gen_base.specs.Integers.{on_integer}
use Rattle.gen_laws.specs.Computes.{Computes, IsOf, IsPromoted, all}
use Rattle.gen_laws.specs.Laws.Numbers.{some_same, each_promoted, wrap-is_of, IsOf-lt}
use Rattle.gen_laws.specs.Laws.Unary.{integer-computes}
use Rattle.code_follows.specs.Covered.{is_promoted, is_promoted_in, computes_in}
use Rattle.code_follows.specs.Parts.{ValueFollows, ValueNode, coded_in}
use Rattle.code_follows.specs.Scene.{Scene, IsScene, given_in, structs_in, frame_in}
use Rattle.code_follows.specs.Values.{ValueIs}
use Rattle.code_follows.specs.Laws.Layers.{coded-ty}
use Rattle.code_follows.specs.Laws.Operand.{ValueIs-spent, Listed, computes_it, DoesRest, operand_part}
use Rattle.code_follows.specs.Laws.Scalars.{IntegerIs, ValueIs-integer, ValueIs-number}

-- ---- numbers

-- the operator on a value of the type
known : UnaryOperator → IntType → ℕ → ℕ
known unary.Minus i a = wrap i (negated a)
known unary.Complement i a = wrap i (2 ^ 64 - 1 - a)
known _ i a = a

known_is : (o : UnaryOperator) (i : IntType) (a : ℕ) → is_sign o ≡ true → unary_value o i a ≡ Some (known o i a)
unfolding known
known_is unary.Plus i a is = refl
known_is unary.Minus i a is = refl
known_is unary.Complement i a is = refl
known_is _ i a is = absurd (cc)

known_of : (o : UnaryOperator) (i : IntType) (a : ℕ) → IsOf i a → IsOf i (known o i a)
unfolding known
known_of unary.Minus i a of = wrap-is_of i (negated a)
known_of unary.Complement i a of = wrap-is_of i (2 ^ 64 - 1 - a)
known_of _ i a of = of

promoted_is : (i : IntType) → is_promoted i ≡ true → IsPromoted i
promoted_is int.Int is = refl
promoted_is int.UInt is = refl
promoted_is int.Long is = refl
promoted_is int.ULong is = refl
promoted_is _ is = absurd (cc)

-- ---- lists

listed_sign : (o : UnaryOperator) (i : IntType) (reg : Reg) → is_sign o ≡ true → IsPromoted i → Listed (on_integer o i reg)
listed_sign unary.Plus i reg is promoted = record { quiet = refl; few = record { some = omega arith; few = omega arith } }
listed_sign unary.Minus i reg is promoted = each_promoted (λ i. Listed (on_integer unary.Minus i reg))
    (record { quiet = refl; few = record { some = omega arith; few = omega arith } })
    (record { quiet = refl; few = record { some = omega arith; few = omega arith } })
    (record { quiet = refl; few = record { some = omega arith; few = omega arith } })
    (record { quiet = refl; few = record { some = omega arith; few = omega arith } }) i promoted
listed_sign unary.Complement i reg is promoted = each_promoted (λ i. Listed (on_integer unary.Complement i reg))
    (record { quiet = refl; few = record { some = omega arith; few = omega arith } })
    (record { quiet = refl; few = record { some = omega arith; few = omega arith } })
    (record { quiet = refl; few = record { some = omega arith; few = omega arith } })
    (record { quiet = refl; few = record { some = omega arith; few = omega arith } }) i promoted
listed_sign _ i reg is promoted = absurd (cc)

-- ---- the node

int_there : (o : Option IntType) → is_there o ≡ true → o ≡ Some (or_int o)
int_there None is = absurd (cc)
int_there (Some i) is = refl

module _ {k : Scene} (scene : IsScene k) {depth : ℕ} (e : TExpr) (follows : ValueFollows k depth e) (integer : is_integer e.ty ≡ true)
    (computes : computes_in e.ty ≡ true) where
  type : IntType
  type = int_in e.ty

  type_is : int_of e.ty ≡ Some type
  unfolding type
  type_is = int_there (int_of e.ty) integer

  promoted_type : IsPromoted type
  promoted_type = promoted_is type (subst (λ o. is_promoted_in o ≡ true) type_is computes)

  coded_type : int_in (coded_in k e).ty ≡ type
  unfolding type
  coded_type = ap int_in (coded-ty (structs_in k) (frame_in k) e)

  -- of the type, what is known of a value
  known_as : (v : Value) (n : ℕ) → IntegerIs e.ty v n → IsOf type n
  known_as v n is = let same : is.int ≡ type = some_same (sym is.int_is ∙ type_is) in subst (λ i. IsOf i n) same is.of

  sign_rest : (o : UnaryOperator) → is_sign o ≡ true → DoesRest k (ValueIs (given_in k) e.ty) (ValueIs (given_in k) e.ty)
      (on_integer o (int_in (coded_in k e).ty)) (λ v. number_known (unary_value o (int_in e.ty) (number_in v)))
  unfolding type
  sign_rest o sign = record {
    list = λ reg. subst (λ i. Listed (on_integer o i reg)) (sym coded_type) (listed_sign o type reg sign promoted_type);
    does = λ reg v now s given.
        let n : ℕ = s.register reg.0 in
        let is : IntegerIs e.ty v n = ValueIs-integer e.ty v n integer given.is in
        let of : IsOf type n = known_as v n is in
        let number : number_in v ≡ n = ap number_in is.is in
        let value : unary_value o type n ≡ Some (known o type n) = known_is o type n sign in
        computes_it (Number (known o type n)) (known o type n)
        (ap (λ (m : ℕ). number_known (unary_value o type m) now) number ∙ ap (λ w. number_known w now) value)
        (subst (λ i. Computes (on_integer o i reg) reg (known o type n) all s) (sym coded_type)
        (integer-computes o type reg n (known o type n) s promoted_type (omega (arith, given.high)) refl (IsOf-lt type n of) value
        (omega (arith, given.room))))
        (ValueIs-number e.ty type (known o type n) type_is (known_of o type n of));
  }

pub signed_follows : (k : Scene) → IsScene k → (depth : ℕ) (o : UnaryOperator) (e : TExpr) → is_sign o ≡ true → ValueFollows k depth e →
    is_integer e.ty ≡ true → computes_in e.ty ≡ true → ValueNode k depth e.ty (TNode-F.Unary o e)
signed_follows k scene depth unary.Plus e sign follows integer computes = record {
  at = λ span around. record {
    part = operand_part scene (follows.around e.span).part (λ v now n is. ValueIs-spent is)
        (sign_rest scene e follows integer computes unary.Plus refl);
  };
}
signed_follows k scene depth unary.Minus e sign follows integer computes = record {
  at = λ span around. record {
    part = operand_part scene (follows.around e.span).part (λ v now n is. ValueIs-spent is)
        (sign_rest scene e follows integer computes unary.Minus refl);
  };
}
signed_follows k scene depth unary.Complement e sign follows integer computes = record {
  at = λ span around. record {
    part = operand_part scene (follows.around e.span).part (λ v now n is. ValueIs-spent is)
        (sign_rest scene e follows integer computes unary.Complement refl);
  };
}
signed_follows k scene depth _ e sign follows integer computes = absurd (cc)
