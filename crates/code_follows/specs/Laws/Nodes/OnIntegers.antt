-- Operators on two integers whose types are in order (this project's own).
use Rattle.std.specs.Prelude.{◌≡◌, ◌≢◌, ℕ, Bool, true, false, ◌||◌, Some, refl}
use Rattle.std.proofs.Common.{ap, sym, subst, ◌∙◌}
use Rattle.c_ast.specs.declared.int_type.IntType.{IntType}
use Rattle.c_ast.specs.declared.int_type.IntType.TheVariants as int
use Rattle.c_ast.specs.declared.operator.BinaryOperator.{BinaryOperator}
use Rattle.c_ast.specs.declared.operator.BinaryOperator.TheVariants as binary
use Rattle.c_type_base.specs.Arithmetic.{truth, binary_value}
use Rattle.c_type_base.specs.Laws.Opened.{given_types}
use Rattle.c_type_base.specs.Types.{TyLayer, int_of_level, target_of_level, is_there, is_integer}
use Rattle.c_type_base.specs.declared.ty.Ty.{Ty, out-Ty}
use Rattle.c_type_base.specs.declared.ty.Ty.TheOpen.{Ty-F}
use Rattle.block_meaning.specs.ExpressionsInOrder.{Group, Arithmetic, Shift, Comparison, Logical, group_of, int_type}
use Rattle.block_meaning.specs.Operators.{or_int, int_in}
use Rattle.block_meaning.specs.declared.value.Value.TheVariants.{Number}
use Rattle.gen_laws.specs.Computes.{IsOf, IsPromoted}
use Rattle.gen_laws.specs.Laws.Integers.{arithmetic-is_of, shifting-is_of}
use Rattle.gen_laws.specs.Laws.Numbers.{some_same}
use Rattle.gen_laws.specs.Operations.{is_division}
use Rattle.code_follows.specs.Covered.{is_promoted, is_promoted_in, computes_in, operates_in}
use Rattle.code_follows.specs.Values.{IsOfLevel, IsOfType}
use Rattle.code_follows.specs.Laws.Nodes.Operated.{OnIntegers}

level_of : (l : TyLayer) (n : ℕ) → is_there (int_of_level l) ≡ true → IsOf (or_int (int_of_level l)) n → IsOfLevel l (Number n)
level_of (Ty-F.Int i) n is of = of
level_of _ n is of = absurd (cc)

pub integer-of : (t : Ty) (n : ℕ) → is_integer t ≡ true → IsOf (int_in t) n → IsOfType t (Number n)
integer-of t n is of = level_of (out-Ty t) n is of

pub is_promoted-is : (i : IntType) → is_promoted i ≡ true → IsPromoted i
is_promoted-is int.Int is = refl
is_promoted-is int.UInt is = refl
is_promoted-is int.Long is = refl
is_promoted-is int.ULong is = refl
is_promoted-is _ is = absurd (cc)

level_promoted : (l : TyLayer) → is_there (int_of_level l) ≡ true → is_promoted_in (int_of_level l) ≡ true →
    IsPromoted (or_int (int_of_level l))
level_promoted (Ty-F.Int i) is computes = is_promoted-is i computes
level_promoted _ is computes = absurd (cc)

-- no integer type is one of a pointer
pub no_pointer : (l : TyLayer) → is_there (int_of_level l) ≡ true → is_there (target_of_level l) ≡ false
no_pointer (Ty-F.Int i) is = refl
no_pointer _ is = absurd (cc)

pub promoted-in : (s t : Ty) → is_integer s ≡ true → is_integer t ≡ true → operates_in s t ≡ true → IsPromoted (int_in s)
promoted-in s t first second operates =
    level_promoted (out-Ty s) first (sym (ap (λ b. b || computes_in s) (no_pointer (out-Ty t) second)) ∙ operates)

groups_differ : (o : BinaryOperator) (g h : Group) → group_of o ≡ g → g ≢ h → group_of o ≢ h
groups_differ o g h is other same = other (sym is ∙ same)

truth_of : (b : Bool) → IsOf int.Int (truth b)
truth_of true = refl
truth_of false = refl

compared_of : (o : BinaryOperator) (t : IntType) (a b n : ℕ) → group_of o ≡ Comparison → binary_value o t a b ≡ Some n → IsOf int.Int n
compared_of binary.Less t a b n group is = subst (IsOf int.Int) (some_same is) (truth_of _)
compared_of binary.Greater t a b n group is = subst (IsOf int.Int) (some_same is) (truth_of _)
compared_of binary.LessEqual t a b n group is = subst (IsOf int.Int) (some_same is) (truth_of _)
compared_of binary.GreaterEqual t a b n group is = subst (IsOf int.Int) (some_same is) (truth_of _)
compared_of binary.Equal t a b n group is = subst (IsOf int.Int) (some_same is) (truth_of _)
compared_of binary.NotEqual t a b n group is = subst (IsOf int.Int) (some_same is) (truth_of _)
compared_of _ t a b n group is = absurd (cc)

int_of_int : (n : ℕ) → IsOf int.Int n → IsOfType int_type (Number n)
unfolding given_types
int_of_int n of = of

no_division : (o : BinaryOperator) (g : Group) → group_of o ≡ g → g ≢ Arithmetic → is_division o ≡ false
no_division binary.Divide g is other = absurd (other (sym is))
no_division binary.Remainder g is other = absurd (other (sym is))
no_division _ g is other = refl

-- ---- the rows of types

pub arithmetic-on : (o : BinaryOperator) (t : Ty) → group_of o ≡ Arithmetic → is_division o ≡ false → is_integer t ≡ true →
    operates_in t t ≡ true → OnIntegers o t t t
arithmetic-on o t group undivided is operates = record {
  evaluates = groups_differ o Arithmetic Logical group (λ same. cc);
  undivided = undivided;
  first = is;
  second = is;
  promoted = promoted-in t t is is operates;
  one = λ other. refl;
  gives = λ x y n first second value.
      integer-of t n is (arithmetic-is_of o (int_in t) x y n group (promoted-in t t is is operates) first
      (second (groups_differ o Arithmetic Shift group (λ same. cc))) value);
}

pub shift-on : (o : BinaryOperator) (s t : Ty) → group_of o ≡ Shift → is_integer s ≡ true → is_integer t ≡ true →
    operates_in s t ≡ true → OnIntegers o s t s
shift-on o s t group is its operates = record {
  evaluates = groups_differ o Shift Logical group (λ same. cc);
  undivided = no_division o Shift group (λ same. cc);
  first = is;
  second = its;
  promoted = promoted-in s t is its operates;
  one = λ other. absurd (other group);
  gives = λ x y n first second value.
      integer-of s n is (shifting-is_of o (int_in s) x y n group (promoted-in s t is its operates) first value);
}

pub comparison-on : (o : BinaryOperator) (t : Ty) → group_of o ≡ Comparison → is_integer t ≡ true → operates_in t t ≡ true →
    OnIntegers o t t int_type
comparison-on o t group is operates = record {
  evaluates = groups_differ o Comparison Logical group (λ same. cc);
  undivided = no_division o Comparison group (λ same. cc);
  first = is;
  second = is;
  promoted = promoted-in t t is is operates;
  one = λ other. refl;
  gives = λ x y n first second value. int_of_int n (compared_of o (int_in t) x y n group value);
}
