-- What operators give is of the type of their result (this project's own).
use Rattle.std.specs.Prelude.{◌≡◌, ℕ, Bool, true, false, ◌||◌, Option, Some, None, refl, if◌then◌else◌, nat_eq}
use Rattle.std.proofs.Common.{sym, subst}
use Rattle.c_ast.specs.declared.int_type.IntType.TheVariants as int
use Rattle.c_ast.specs.declared.operator.AssignOperator.{AssignOperator}
use Rattle.c_ast.specs.declared.operator.BinaryOperator.{BinaryOperator}
use Rattle.c_ast.specs.declared.operator.BinaryOperator.TheVariants as binary
use Rattle.c_ast.specs.declared.operator.UnaryOperator.{UnaryOperator}
use Rattle.c_ast.specs.declared.operator.UnaryOperator.TheVariants as unary
use Rattle.c_ast.specs.declared.token.Span.{Span}
use Rattle.c_type_base.specs.Arithmetic.{binary_value, unary_value, quotient}
use Rattle.c_type_base.specs.Laws.Opened.{given_types}
use Rattle.c_type_base.specs.Types.{is_integer, is_pointer}
use Rattle.c_type_base.specs.declared.ty.Ty.{Ty}
use Rattle.c_type_base.specs.declared.ty.Ty.TheVariants as ty
use Rattle.block_meaning.specs.Compare.{compared, objects_between}
use Rattle.block_meaning.specs.Expressions.{number_known}
use Rattle.block_meaning.specs.ExpressionsInOrder.{Comparison, group_of, is_sign, int_type}
use Rattle.block_meaning.specs.ExpressionsInOrder.{BinaryTypes, arithmetic, shift, comparison, added, added_to, taken, distance}
use Rattle.block_meaning.specs.ExpressionsInOrder.{CompoundTypes, computes, adds, takes}
use Rattle.block_meaning.specs.Operators.{int_in, comparison as truth_known, or_divide, difference_known, on_pointers, on_values}
use Rattle.block_meaning.specs.Operators.{binary_of, values_combined}
use Rattle.block_meaning.specs.Running.{Context}
use Rattle.block_meaning.specs.Values.{number_in}
use Rattle.block_meaning.specs.declared.value.Pointer.{Pointer}
use Rattle.block_meaning.specs.declared.value.Value.{Value}
use Rattle.block_meaning.specs.declared.value.Value.TheVariants.{Number, Address}
use Rattle.gen_laws.specs.Computes.{IsOf}
use Rattle.gen_laws.specs.Laws.Integers.{arithmetic-is_of, shifting-is_of}
use Rattle.gen_laws.specs.Laws.Numbers.{wrap-is_of}
use Rattle.code_follows.specs.Covered.{operates_in}
use Rattle.code_follows.specs.Giving.{Gives}
use Rattle.code_follows.specs.Values.{IsOfType}
use Rattle.code_follows.specs.Laws.Giving.Values.{integer_of, PointerOf, pointer_of, of_pointer, of_truth, of_converted_integer}
use Rattle.code_follows.specs.Laws.Giving.Words.{Any, gives-gives, gives-stops, gives-undefined, gives-then, gives-blocks}
use Rattle.code_follows.specs.Laws.Nodes.OnIntegers.{integer-of, promoted-in, comparison-on}

-- ---- signs

pub signed_gives : (o : UnaryOperator) (t : Ty) (v : Value) → is_sign o ≡ true → is_integer t ≡ true → IsOfType t v →
    Gives (number_known (unary_value o (int_in t) (number_in v))) (IsOfType t)
signed_gives o t v sign is of =
    let known = integer_of t v is of in
    subst (λ w. Gives (number_known (unary_value o (int_in t) (number_in w))) (IsOfType t)) (sym known.is)
    (by_operator o known.number sign known.of)
  where
    by_operator : (o : UnaryOperator) (n : ℕ) → is_sign o ≡ true → IsOf (int_in t) n →
        Gives (number_known (unary_value o (int_in t) n)) (IsOfType t)
    by_operator unary.Plus n sign of = gives-gives (Number n) (integer-of t n is of)
    by_operator unary.Minus n sign of = gives-gives _ (integer-of t _ is (wrap-is_of (int_in t) _))
    by_operator unary.Complement n sign of = gives-gives _ (integer-of t _ is (wrap-is_of (int_in t) _))
    by_operator _ n sign of = absurd (cc)

-- ---- two integers

divide_gives : (o : Option ℕ) (P : Value → Type 0) → ((n : ℕ) → o ≡ Some n → P (Number n)) → Gives (or_divide o) P
divide_gives None P each = gives-stops _
divide_gives (Some n) P each = gives-gives (Number n) (each n refl)

integers_give : (here : Context) (span : Span) (o : BinaryOperator) (s t u : Ty) (v w : Value) → is_integer s ≡ true →
    is_integer t ≡ true → IsOfType s v → IsOfType t w →
    ((x y n : ℕ) → IsOf (int_in s) x → IsOf (int_in t) y → binary_value o (int_in s) x y ≡ Some n → IsOfType u (Number n)) →
    Gives (on_values here span o s t v w) (IsOfType u)
integers_give here span o s t u v w first second of its each =
    let x = integer_of s v first of in
    let y = integer_of t w second its in
    subst (λ p. Gives (on_values here span o s t p w) (IsOfType u)) (sym x.is)
    (subst (λ q. Gives (on_values here span o s t (Number x.number) q) (IsOfType u)) (sym y.is)
    (divide_gives _ (IsOfType u) (λ n value. each x.number y.number n x.of y.of value)))

-- ---- pointers

known_gives : (here : Context) (span : Span) (o : Option Bool) → Gives (truth_known here span o) Any
known_gives here span None = gives-undefined here span None _
known_gives here span (Some b) = gives-gives b tt

pointers_compare : (here : Context) (span : Span) (o : BinaryOperator) (size : ℕ) (p q : Pointer) → group_of o ≡ Comparison →
    Gives (on_pointers here span o size p q) (IsOfType int_type)
pointers_compare here span binary.Subtract size p q group = absurd (cc)
pointers_compare here span o size p q group =
    gives-blocks (λ blocks. gives-then (known_gives here span (compared blocks o p q)) (λ b any. gives-gives _ (of_truth b)))

long_of : (n : ℕ) → IsOf int.Long n → IsOfType (ty.Int int.Long) (Number n)
unfolding given_types
long_of n of = of

distance_gives : (here : Context) (span : Span) (p q : Pointer) (size : ℕ) →
    Gives (difference_known here span (objects_between p q size)) (IsOfType (ty.Int int.Long))
distance_gives here span p q size = by_block (nat_eq p.block q.block) _
  where
    by_block : (b : Bool) (d : ℕ) → Gives (difference_known here span (if b then Some (quotient int.Long d size) else None))
        (IsOfType (ty.Int int.Long))
    by_block true d = gives-gives _ (long_of _ (wrap-is_of int.Long _))
    by_block false d = gives-undefined here span None _

-- two pointers, and a pointer and a number
both_pointers : (here : Context) (span : Span) (o : BinaryOperator) (s t u : Ty) (v w : Value) → PointerOf v → PointerOf w →
    ((size : ℕ) (p q : Pointer) → Gives (on_pointers here span o size p q) (IsOfType u)) →
    Gives (on_values here span o s t v w) (IsOfType u)
both_pointers here span o s t u v w first second each =
    subst (λ p. Gives (on_values here span o s t p w) (IsOfType u)) (sym first.is)
    (subst (λ q. Gives (on_values here span o s t (Address first.pointer) q) (IsOfType u)) (sym second.is)
    (each _ first.pointer second.pointer))

-- ---- all of them

pub operated_gives : (here : Context) (span : Span) (o : BinaryOperator) (s t u : Ty) (v w : Value) → BinaryTypes o s t u →
    operates_in s t ≡ true → IsOfType s v → IsOfType t w → Gives (on_values here span o s t v w) (IsOfType u)
operated_gives here span o s t u v w (arithmetic group is) operates of its =
    integers_give here span o s t u v w is is of its (λ x y n first second value.
    integer-of s n is (arithmetic-is_of o (int_in s) x y n group (promoted-in s s is is operates) first second value))
operated_gives here span o s t u v w (shift group is other) operates of its =
    integers_give here span o s t u v w is other of its (λ x y n first second value.
    integer-of s n is (shifting-is_of o (int_in s) x y n group (promoted-in s t is other operates) first value))
operated_gives here span o s t u v w (comparison group scalar) operates of its = by_kind (is_integer s) refl
  where
    pointer_is : (a b : Bool) → (a || b) ≡ true → a ≡ false → b ≡ true
    pointer_is true b either none = absurd (cc)
    pointer_is false b either none = either

    by_kind : (b : Bool) → is_integer s ≡ b → Gives (on_values here span o s s v w) (IsOfType int_type)
    by_kind true is = integers_give here span o s s int_type v w is is of its (λ x y n first second value.
        (comparison-on o s group is operates).gives x y n first (λ other. second) value)
    by_kind false is =
        let pointer : is_pointer s ≡ true = pointer_is (is_integer s) (is_pointer s) scalar is in
        both_pointers here span o s s int_type v w (pointer_of s v pointer of) (pointer_of s w pointer its)
        (λ size p q. pointers_compare here span o size p q group)
operated_gives here span o s t u v w (added pointer is) operates of its =
    let p = pointer_of s v pointer of in
    let n = integer_of t w is its in
    subst (λ x. Gives (on_values here span binary.Add s t x w) (IsOfType s)) (sym p.is)
    (subst (λ y. Gives (on_values here span binary.Add s t (Address p.pointer) y) (IsOfType s)) (sym n.is)
    (gives-gives _ (of_pointer s _ pointer)))
operated_gives here span o s t u v w (added_to is pointer) operates of its =
    let n = integer_of s v is of in
    let p = pointer_of t w pointer its in
    subst (λ x. Gives (on_values here span binary.Add s t x w) (IsOfType t)) (sym n.is)
    (subst (λ y. Gives (on_values here span binary.Add s t (Number n.number) y) (IsOfType t)) (sym p.is)
    (gives-gives _ (of_pointer t _ pointer)))
operated_gives here span o s t u v w (taken pointer is) operates of its =
    let p = pointer_of s v pointer of in
    let n = integer_of t w is its in
    subst (λ x. Gives (on_values here span binary.Subtract s t x w) (IsOfType s)) (sym p.is)
    (subst (λ y. Gives (on_values here span binary.Subtract s t (Address p.pointer) y) (IsOfType s)) (sym n.is)
    (gives-gives _ (of_pointer s _ pointer)))
operated_gives here span o s t u v w (distance pointer) operates of its =
    both_pointers here span binary.Subtract s s (ty.Int int.Long) v w (pointer_of s v pointer of) (pointer_of s w pointer its)
    (λ size p q. distance_gives here span p q size)

-- ---- operators with `=`

pub combined_gives : (here : Context) (span : Span) (o : AssignOperator) (s t : Ty) (v w : Value) → CompoundTypes o s t →
    IsOfType s v → IsOfType t w → Gives (values_combined here span (binary_of o) s t v w) (IsOfType s)
combined_gives here span o s t v w (computes is other) of its =
    let x = integer_of s v is of in
    let y = integer_of t w other its in
    subst (λ p. Gives (values_combined here span (binary_of o) s t p w) (IsOfType s)) (sym x.is)
    (subst (λ q. Gives (values_combined here span (binary_of o) s t (Number x.number) q) (IsOfType s)) (sym y.is)
    (gives-then (divide_gives _ Any (λ n value. tt)) (λ r any. gives-gives _ (of_converted_integer s r is))))
combined_gives here span o s t v w (adds pointer is) of its =
    let p = pointer_of s v pointer of in
    let n = integer_of t w is its in
    subst (λ x. Gives (values_combined here span binary.Add s t x w) (IsOfType s)) (sym p.is)
    (subst (λ y. Gives (values_combined here span binary.Add s t (Address p.pointer) y) (IsOfType s)) (sym n.is)
    (gives-gives _ (of_pointer s _ pointer)))
combined_gives here span o s t v w (takes pointer is) of its =
    let p = pointer_of s v pointer of in
    let n = integer_of t w is its in
    subst (λ x. Gives (values_combined here span binary.Subtract s t x w) (IsOfType s)) (sym p.is)
    (subst (λ y. Gives (values_combined here span binary.Subtract s t (Address p.pointer) y) (IsOfType s)) (sym n.is)
    (gives-gives _ (of_pointer s _ pointer)))
