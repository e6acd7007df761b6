-- Numbers of scalars (this project's own).
use Rattle.std.specs.Prelude.{◌≡◌, ℕ, ◌^◌, ◌<◌, Bool, true, false, ◌||◌, Some, refl}
use Rattle.std.proofs.Common.{arith, ap, sym, subst, ◌∙◌}
use Rattle.c_ast.specs.declared.int_type.IntType.{IntType}
use Rattle.c_type_base.specs.Conversions.{wrap}
use Rattle.c_type_base.specs.Types.{TyLayer, int_of, int_of_level, target_of_level, is_there, is_scalar, is_integer}
use Rattle.c_type_base.specs.declared.ty.Ty.{Ty, out-Ty}
use Rattle.c_type_base.specs.declared.ty.Ty.TheOpen.{Ty-F}
use Rattle.block_meaning.specs.ExpressionsInOrder.{Converts, integers, pointers, null_constant}
use Rattle.block_meaning.specs.Running.{State as MeaningState}
use Rattle.block_meaning.specs.declared.value.Value.{Value}
use Rattle.block_meaning.specs.declared.value.Value.TheVariants.{Number, Address}
use Rattle.code_relation.specs.Numbers.{Holds}
use Rattle.code_relation.specs.Sites.{Given}
use Rattle.gen_laws.specs.Computes.{IsOf}
use Rattle.gen_laws.specs.Laws.Numbers.{IsOf-lt}
use Rattle.code_follows.specs.Values.{IsOfLevel, ValueIs}

abbrev pub is_scalar_level : TyLayer → Bool
is_scalar_level l = is_there (int_of_level l) || is_there (target_of_level l)

lt_level : (g : Given) (now : MeaningState) (l : TyLayer) (v : Value) (n : ℕ) → is_scalar_level l ≡ true → IsOfLevel l v →
    Holds g now v n → n < 2 ^ 64
lt_level g now (Ty-F.Int i) (Number m) n is of holds = omega (arith, holds, IsOf-lt i m of)
lt_level g now (Ty-F.Int i) _ n is of holds = absurd of
lt_level g now (Ty-F.Pointer t) (Address p) n is of holds = omega (arith, holds.number)
lt_level g now (Ty-F.Pointer t) _ n is of holds = absurd of
lt_level g now _ v n is of holds = absurd (cc)

-- a register holds it
pub ValueIs-lt : {g : Given} {now : MeaningState} (t : Ty) (v : Value) (n : ℕ) → is_scalar t ≡ true → ValueIs g t v now n → n < 2 ^ 64
ValueIs-lt {g} {now} t v n scalar is = lt_level g now (out-Ty t) v n scalar is.of is.holds

either_true : (a b : Bool) → b ≡ true → (a || b) ≡ true
either_true true b is = refl
either_true false b is = is

first_true : (a b : Bool) → a ≡ true → (a || b) ≡ true
first_true true b is = refl
first_true false b is = absurd (cc)

-- what is converted is one
pub Converts-scalar : {t u : Ty} → Converts t u → is_scalar t ≡ true
Converts-scalar {t} {u} (integers first second) =
    first_true (is_there (int_of_level (out-Ty t))) (is_there (target_of_level (out-Ty t))) first
Converts-scalar {t} {u} (pointers first second) =
    either_true (is_there (int_of_level (out-Ty t))) (is_there (target_of_level (out-Ty t))) first
Converts-scalar {t} {u} (null_constant first second) =
    first_true (is_there (int_of_level (out-Ty t))) (is_there (target_of_level (out-Ty t))) first

-- ---- integers

-- a value of an integer type, and its number
pub record IntegerIs (t : Ty) (v : Value) (n : ℕ) : Type 0 where
  pub int : IntType
  pub int_is : int_of t ≡ Some int
  pub of : IsOf int n
  pub is : v ≡ Number n

record IntegerLevel (l : TyLayer) (v : Value) (n : ℕ) : Type 0 where
  int : IntType
  int_is : int_of_level l ≡ Some int
  of : IsOf int n
  is : v ≡ Number n

integer_level : (g : Given) (now : MeaningState) (l : TyLayer) (v : Value) (n : ℕ) → is_there (int_of_level l) ≡ true → IsOfLevel l v →
    Holds g now v n → IntegerLevel l v n
integer_level g now (Ty-F.Int i) (Number m) n is of holds =
    record { int = i; int_is = refl; of = holds ∙ of ∙ ap (wrap i) (sym holds); is = ap Number (sym holds) }
integer_level g now (Ty-F.Int i) _ n is of holds = absurd of
integer_level g now _ v n is of holds = absurd (cc)

pub ValueIs-integer : {g : Given} {now : MeaningState} (t : Ty) (v : Value) (n : ℕ) → is_integer t ≡ true → ValueIs g t v now n →
    IntegerIs t v n
ValueIs-integer {g} {now} t v n integer is =
    let level = integer_level g now (out-Ty t) v n integer is.of is.holds in
    record { int = level.int; int_is = level.int_is; of = level.of; is = level.is }

of_level : (l : TyLayer) (i : IntType) (n : ℕ) → int_of_level l ≡ Some i → IsOf i n → IsOfLevel l (Number n)
of_level (Ty-F.Int j) i n is of = let same : i ≡ j = cc in subst (λ i. IsOf i n) same of
of_level _ i n is of = absurd (cc)

-- a number of the type is one of its values
pub ValueIs-number : {g : Given} {now : MeaningState} (t : Ty) (i : IntType) (n : ℕ) → int_of t ≡ Some i → IsOf i n →
    ValueIs g t (Number n) now n
ValueIs-number t i n is of = record { of = of_level (out-Ty t) i n is of; holds = refl }
