-- What is known of an expression, where it is in order: an lvalue designates an object, and all else has a value.
use Rattle.std.proofs.Common.{◌≡◌, refl, sym, ◌∙◌, ap, subst, ℕ, Bool, true, false, ◌&&◌, ◌||◌, Option, Some, None}
use Rattle.std.specs.Prelude.{if◌then◌else◌}
use Rattle.c_ast.specs.declared.int_type.IntType.{IntType}
use Rattle.c_type_base.specs.Laws.Opened.{given_types, given_typed}
use Rattle.c_type_base.specs.declared.ty.Ty.{Ty, out-Ty}
use Rattle.c_type_base.specs.declared.ty.Ty.TheVariants as ty
use Rattle.c_type_base.specs.declared.ty.Ty.TheOpen.{Ty-F}
use Rattle.c_type_base.specs.declared.expr.TNode.{out-TNode}
use Rattle.c_type_base.specs.declared.known.Constancy.{Constancy}
use Rattle.c_type_base.specs.declared.known.Constancy.TheVariants.{Varies, DividesByZero, Is}
use Rattle.c_type_base.specs.declared.known.Fixed.{Fixed}
use Rattle.c_type_base.specs.declared.known.Known.{Known}
use Rattle.c_type_base.specs.Known.{read, decayed, value_by, value, wrapped, as_type, converted, is_zero, is_null, assignable}
use Rattle.c_type_base.specs.Types.{TyLayer, same_type, is_there, int_of, int_of_level, target_of_level, element_of, element_of_level}
use Rattle.c_type_base.specs.Types.{struct_of_level}
use Rattle.c_type_base.specs.Types.{is_void_level, is_integer, is_pointer, is_array, is_struct}
use Rattle.block_meaning.specs.ExpressionsInOrder as order
use Rattle.block_meaning.specs.ExpressionsInOrder.{Scope, HasValue, Converts}
use Rattle.well_typed_order.specs.Standing.{FixedIn, KnownIn, ValueIn}
use Rattle.c_type_base.specs.Laws.SameLaws.{one-type, same-itself}

no_address : (s : Scope) (o : Option Fixed) → o ≡ None → FixedIn s o
no_address s None is = tt
no_address s (Some f) is = absurd cc

-- what has a value, and is no array and no struct
pub valued : {s : Scope} (k : Known) → k.lvalue ≡ false → FixedIn s k.fixed → HasValue s k.tree.ty (out-TNode k.tree.node) →
    (is_array k.tree.ty || is_struct k.tree.ty) ≡ false → ((n : ℕ) → k.constant ≡ Is n → is_integer k.tree.ty ≡ true) → KnownIn s k
valued k no_lvalue fixed has plain integer = record {
  place = λ is. absurd (neither k.lvalue (is_array k.tree.ty || is_struct k.tree.ty) no_lvalue plain is);
  gives = λ is its. has;
  object = λ is. absurd (not_both k.lvalue no_lvalue is);
  integer = integer;
  fixed = fixed;
}
  where
    not_both : (b : Bool) → b ≡ false → b ≡ true → ⊥
    not_both true is its = absurd cc
    not_both false is its = absurd cc

    neither : (a b : Bool) → a ≡ false → b ≡ false → (a || b) ≡ true → ⊥
    neither true b is its or = absurd cc
    neither false true is its or = absurd cc
    neither false false is its or = absurd cc

-- where no address of it is known before the run
pub known_by : {s : Scope} (k : Known) → ◌≡◌ {A = Bool × Option Fixed} (k.lvalue, k.fixed) (false, None) →
    HasValue s k.tree.ty (out-TNode k.tree.node) → (is_array k.tree.ty || is_struct k.tree.ty) ≡ false →
    ((n : ℕ) → k.constant ≡ Is n → is_integer k.tree.ty ≡ true) → KnownIn s k
known_by {s = s} k is = valued k (ap (λ p. p.0) is) (no_address s k.fixed (ap (λ p. p.1) is))

pub int-plain : (i : IntType) → (is_array (ty.Int i) || is_struct (ty.Int i)) ≡ false
unfolding given_types
int-plain i = refl

level_plain : (l : TyLayer) → is_there (target_of_level l) ≡ true → (is_there (element_of_level l) || is_there (struct_of_level l)) ≡ false
level_plain (Ty-F.Pointer t) is = refl
level_plain _ is = absurd cc

pub pointer-plain : (t : Ty) → is_pointer t ≡ true → (is_array t || is_struct t) ≡ false
pointer-plain t is = level_plain (out-Ty t) is

-- ---- the value of an expression

array_is_no_integer : (l : TyLayer) (element : Ty) → element_of_level l ≡ Some element → is_there (int_of_level l) ≡ true → ⊥
array_is_no_integer (Ty-F.Array t n) element is its = absurd cc
array_is_no_integer _ element is its = absurd cc

array_there : (l : TyLayer) (element : Ty) → element_of_level l ≡ Some element → is_there (element_of_level l) ≡ true
array_there (Ty-F.Array t n) element is = refl
array_there _ element is = absurd cc

array_absent : (l : TyLayer) → element_of_level l ≡ None → is_there (element_of_level l) ≡ false
array_absent (Ty-F.Array t n) is = absurd cc
array_absent Ty-F.Void is = refl
array_absent (Ty-F.Int t) is = refl
array_absent (Ty-F.Pointer t) is = refl
array_absent (Ty-F.Struct n) is = refl

readable : (l : TyLayer) → is_void_level l ≡ false → element_of_level l ≡ None →
    ((is_there (int_of_level l) || is_there (target_of_level l)) || is_there (struct_of_level l)) ≡ true
readable Ty-F.Void is its = absurd cc
readable (Ty-F.Array t n) is its = absurd cc
readable (Ty-F.Int t) is its = refl
readable (Ty-F.Pointer t) is its = refl
readable (Ty-F.Struct n) is its = refl

pub or_right : (a b c : Bool) → b ≡ true → (a || (b || c)) ≡ true
or_right true b c is = refl
or_right false true c is = refl
or_right false false c is = absurd cc

decayed_in : {s : Scope} (k : Known) (element : Ty) → KnownIn s k → element_of k.tree.ty ≡ Some element → ValueIn s (decayed element k)
unfolding given_typed
decayed_in k element known is = record {
  has = order.decay (known.place (or_right k.lvalue (is_array k.tree.ty) (is_struct k.tree.ty) (array_there (out-Ty k.tree.ty) element is)))
      is;
  integer = λ n its. absurd (array_is_no_integer (out-Ty k.tree.ty) element is (known.integer n its));
  fixed = known.fixed;
}

read_by : {s : Scope} (k : Known) (b : Bool) → k.lvalue ≡ b → KnownIn s k → element_of k.tree.ty ≡ None →
    ValueIn s (if b then read k else k)
unfolding given_typed
read_by k true lvalue known is = record {
  has = order.read (known.place (ap (λ b. b || (is_array k.tree.ty || is_struct k.tree.ty)) lvalue))
      (readable (out-Ty k.tree.ty) (known.object lvalue) is);
  integer = λ n its. absurd cc;
  fixed = tt;
}
read_by k false lvalue known is =
    record { has = known.gives lvalue (array_absent (out-Ty k.tree.ty) is); integer = known.integer; fixed = known.fixed }

value_by_in : {s : Scope} (k : Known) (o : Option Ty) → element_of k.tree.ty ≡ o → KnownIn s k → ValueIn s (value_by o k)
value_by_in k (Some element) is known = decayed_in k element known is
value_by_in k None is known = read_by k k.lvalue refl known is

pub value-in : {s : Scope} (k : Known) → KnownIn s k → ValueIn s (value k)
value-in k known = value_by_in k (element_of k.tree.ty) refl known

-- ---- a value in a type

-- a value of a type
pub record Into (s : Scope) (t : Ty) (k : Known) : Type 0 where
  pub value : ValueIn s k
  pub is : k.tree.ty ≡ t

pub wrapped-integer : (o : Option IntType) (c : Constancy) (n : ℕ) → wrapped o c ≡ Is n → is_there o ≡ true
wrapped-integer None c n is = absurd cc
wrapped-integer (Some i) c n is = refl

converted_by : {s : Scope} (k : Known) (t : Ty) (b : Bool) → same_type k.tree.ty t ≡ b → ValueIn s k → (b ≡ false → Converts k.tree.ty t) →
    Into s t (if b then k else as_type t k)
unfolding given_typed
converted_by k t true same value types = record { value = value; is = one-type k.tree.ty t same }
converted_by k t false same value types = record {
  value = record {
    has = order.convert value.has (types refl);
    integer = λ n is. wrapped-integer (int_of t) k.constant n is;
    fixed = tt;
  };
  is = refl;
}

pub converted-in : {s : Scope} (k : Known) (t : Ty) → ValueIn s k → Converts k.tree.ty t → Into s t (converted t k)
converted-in k t value types = converted_by k t (same_type k.tree.ty t) refl value (λ is. types)

-- where it has the type already
pub same-in : {s : Scope} (k : Known) (t : Ty) → ValueIn s k → k.tree.ty ≡ t → Into s t (converted t k)
same-in k t value same = converted_by k t (same_type k.tree.ty t) refl value (λ other.
    let one : same_type k.tree.ty t ≡ true = subst (λ t. same_type k.tree.ty t ≡ true) same (same-itself k.tree.ty) in
    let no : true ≡ false = sym one ∙ other in absurd cc)

-- ---- assignment

pub null-integer : {s : Scope} (k : Known) → ValueIn s k → is_null k ≡ true → is_integer k.tree.ty ≡ true
null-integer k value is = by_constant k.constant refl is
  where
    by_constant : (c : Constancy) → k.constant ≡ c → is_zero c ≡ true → is_integer k.tree.ty ≡ true
    by_constant (Is n) same zero = value.integer n same
    by_constant Varies same zero = absurd cc
    by_constant DividesByZero same zero = absurd cc

assigned_integers : {s : Scope} (k : Known) (t : Ty) (a b : Bool) → is_integer t ≡ a → is_integer k.tree.ty ≡ b → (a && b) ≡ true →
    ValueIn s k → Into s t (converted t k)
assigned_integers k t true true is its both value = converted-in k t value (order.integers its is)
assigned_integers k t true false is its both value = absurd cc
assigned_integers k t false b is its both value = absurd cc

assigned_pointers : {s : Scope} (k : Known) (t : Ty) (a b c : Bool) → is_pointer t ≡ a → same_type t k.tree.ty ≡ b → is_null k ≡ c →
    (a && (b || c)) ≡ true → ValueIn s k → Into s t (converted t k)
assigned_pointers k t true true c is its null both value = same-in k t value (sym (one-type t k.tree.ty its))
assigned_pointers k t true false true is its null both value =
    converted-in k t value (order.null_constant (null-integer k value null) is)
assigned_pointers k t true false false is its null both value = absurd cc
assigned_pointers k t false b c is its null both value = absurd cc

assigned_structs : {s : Scope} (k : Known) (t : Ty) (a b : Bool) → is_struct t ≡ a → same_type t k.tree.ty ≡ b → (a && b) ≡ true →
    ValueIn s k → Into s t (converted t k)
assigned_structs k t true true is its both value = same-in k t value (sym (one-type t k.tree.ty its))
assigned_structs k t true false is its both value = absurd cc
assigned_structs k t false b is its both value = absurd cc

one_of_three : {A : Type 0} (a b c : Bool) → (a || b || c) ≡ true → (a ≡ true → A) → (b ≡ true → A) → (c ≡ true → A) → A
one_of_three true b c is first second third = first refl
one_of_three false true c is first second third = second refl
one_of_three false false true is first second third = third refl
one_of_three false false false is first second third = absurd cc

-- what can be assigned to a type is a value of it then
pub assignable-in : {s : Scope} (k : Known) (t : Ty) → ValueIn s k → assignable t k ≡ true → Into s t (converted t k)
assignable-in k t value is = one_of_three _ _ _ is
    (λ both. assigned_integers k t (is_integer t) (is_integer k.tree.ty) refl refl both value)
    (λ both. assigned_pointers k t (is_pointer t) (same_type t k.tree.ty) (is_null k) refl refl refl both value)
    (λ both. assigned_structs k t (is_struct t) (same_type t k.tree.ty) refl refl both value)
