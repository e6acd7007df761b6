-- The code of an operator on two integers does what it means, but for divisions (this project's own).
use Rattle.std.specs.Prelude.{◌≡◌, ◌≢◌, ℕ, ◌≤◌, true, false, length, Some, None, refl}
use Rattle.std.proofs.Common.{arith, ap, sym, subst}
use Rattle.c_ast.specs.declared.int_type.IntType.{IntType}
use Rattle.c_ast.specs.declared.int_type.IntType.TheVariants as int
use Rattle.c_ast.specs.declared.operator.BinaryOperator.{BinaryOperator}
use Rattle.c_ast.specs.declared.operator.BinaryOperator.TheVariants as binary
use Rattle.c_type_base.specs.Arithmetic.{binary_value}
use Rattle.c_type_base.specs.Types.{TyLayer, int_of_level, target_of_level, is_there, is_integer, target_of}
use Rattle.c_type_base.specs.declared.ty.Ty.{Ty, out-Ty}
use Rattle.c_type_base.specs.declared.ty.Ty.TheOpen.{Ty-F}
use Rattle.a64_code.specs.declared.instr.Reg.{Reg}
use Rattle.block_meaning.specs.ExpressionsInOrder.{Logical, group_of}
use Rattle.block_meaning.specs.Operators.{or_int, int_in}
use Rattle.block_meaning.specs.Running.{State as MeaningState}
use Rattle.block_meaning.specs.declared.value.Value.{Value}
use Rattle.block_meaning.specs.declared.value.Value.TheVariants.{Number}
use Rattle.code_relation.specs.Numbers.{Holds}
use Rattle.code_relation.specs.Sites.{Given}
use Rattle.gen_base.specs.Integers.{with_sign, shift_right}
use Rattle.gen_laws.specs.Computes.{IsOf}
use Rattle.gen_laws.specs.Operations.{integer_instrs, is_division}
use Rattle.code_follows.specs.Values.{IsOfLevel, ValueIs}
use Rattle.code_follows.specs.Laws.Walking.{Short}

-- ---- values

-- a value is an integer of a type, and this is its number
pub record IntegerIs (i : IntType) (v : Value) (n : ℕ) : Type 0 where
  pub is : v ≡ Number n
  pub of : IsOf i n

level_integer : (g : Given) (now : MeaningState) (l : TyLayer) (v : Value) (n : ℕ) → is_there (int_of_level l) ≡ true → IsOfLevel l v →
    Holds g now v n → IntegerIs (or_int (int_of_level l)) v n
level_integer g now (Ty-F.Int i) (Number m) n is of holds =
    record { is = ap Number (sym holds); of = subst (IsOf i) (sym holds) of }
level_integer g now (Ty-F.Int i) _ n is of holds = absurd of
level_integer g now _ v n is of holds = absurd (cc)

pub ValueIs-integer : {g : Given} {now : MeaningState} (t : Ty) (v : Value) (n : ℕ) → is_integer t ≡ true → ValueIs g t v now n →
    IntegerIs (int_in t) v n
ValueIs-integer {g} {now} t v n is value = level_integer g now (out-Ty t) v n is value.of value.holds

-- an operator that is no division, `&&` or `||` has a value
pub record HasNumber (o : BinaryOperator) (t : IntType) (a b : ℕ) : Type 0 where
  pub number : ℕ
  pub is : binary_value o t a b ≡ Some number

pub has_number : (o : BinaryOperator) (t : IntType) (a b : ℕ) → group_of o ≢ Logical → is_division o ≡ false → HasNumber o t a b
has_number binary.Divide t a b plain undivided = absurd (cc)
has_number binary.Remainder t a b plain undivided = absurd (cc)
has_number binary.And t a b plain undivided = absurd (plain refl)
has_number binary.Or t a b plain undivided = absurd (plain refl)
has_number _ t a b plain undivided = record { number = _; is = refl }

-- ---- lists

no_target : (l : TyLayer) → is_there (int_of_level l) ≡ true → target_of_level l ≡ None
no_target (Ty-F.Int i) is = refl
no_target _ is = absurd (cc)

pub target-none : (t : Ty) → is_integer t ≡ true → target_of t ≡ None
target-none t is = no_target (out-Ty t) is

pub sign_short : (t : IntType) (r : Reg) → Short 1 (with_sign t r)
sign_short int.Char r = record { quiet = refl; few = omega arith }
sign_short int.SignedChar r = record { quiet = refl; few = omega arith }
sign_short int.UnsignedChar r = record { quiet = refl; few = omega arith }
sign_short int.Short r = record { quiet = refl; few = omega arith }
sign_short int.UShort r = record { quiet = refl; few = omega arith }
sign_short int.Int r = record { quiet = refl; few = omega arith }
sign_short int.UInt r = record { quiet = refl; few = omega arith }
sign_short int.Long r = record { quiet = refl; few = omega arith }
sign_short int.ULong r = record { quiet = refl; few = omega arith }

right_short : (t : IntType) (r : Reg) → Short 2 (shift_right t r)
right_short int.Char r = record { quiet = refl; few = omega arith }
right_short int.SignedChar r = record { quiet = refl; few = omega arith }
right_short int.UnsignedChar r = record { quiet = refl; few = omega arith }
right_short int.Short r = record { quiet = refl; few = omega arith }
right_short int.UShort r = record { quiet = refl; few = omega arith }
right_short int.Int r = record { quiet = refl; few = omega arith }
right_short int.UInt r = record { quiet = refl; few = omega arith }
right_short int.Long r = record { quiet = refl; few = omega arith }
right_short int.ULong r = record { quiet = refl; few = omega arith }

pub integer_short : (o : BinaryOperator) (t : IntType) (r : Reg) → is_division o ≡ false → Short 2 (integer_instrs o t r)
integer_short binary.Divide t r undivided = absurd (cc)
integer_short binary.Remainder t r undivided = absurd (cc)
integer_short binary.Multiply t r undivided = let one = sign_short t r in record { quiet = one.quiet; few = omega (arith, one.few) }
integer_short binary.Add t r undivided = let one = sign_short t r in record { quiet = one.quiet; few = omega (arith, one.few) }
integer_short binary.Subtract t r undivided = let one = sign_short t r in record { quiet = one.quiet; few = omega (arith, one.few) }
integer_short binary.ShiftLeft t r undivided = let one = sign_short t r in record { quiet = one.quiet; few = omega (arith, one.few) }
integer_short binary.ShiftRight t r undivided = right_short t r
integer_short _ t r undivided = record { quiet = refl; few = omega arith }

pub integer_some : (o : BinaryOperator) (t : IntType) (r : Reg) → group_of o ≢ Logical → 1 ≤ length (integer_instrs o t r)
integer_some binary.And t r plain = absurd (plain refl)
integer_some binary.Or t r plain = absurd (plain refl)
integer_some _ t r plain = omega arith
