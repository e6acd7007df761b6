-- Binary operators keep expressions in order.
use Rattle.std.proofs.Common.{◌≡◌, refl, sym, ◌∙◌, ap, subst, ℕ, Bool, true, false, ◌||◌, List, [], ◌∷◌, Option, Some, None}
use Rattle.c_ast.specs.declared.token.Span.{Span}
use Rattle.c_ast.specs.declared.int_type.IntType.{IntType}
use Rattle.c_ast.specs.declared.int_type.IntType.TheVariants as int
use Rattle.c_ast.specs.declared.operator.BinaryOperator.{BinaryOperator}
use Rattle.c_ast.specs.declared.operator.BinaryOperator.TheVariants as binary
use Rattle.c_type_base.specs.Laws.Opened.{given_types, given_typed}
use Rattle.c_type_base.specs.declared.ty.Ty.{Ty, out-Ty, roll-Ty, roll-out-Ty}
use Rattle.c_type_base.specs.declared.ty.Ty.TheVariants as ty
use Rattle.c_type_base.specs.declared.ty.Ty.TheOpen.{Ty-F}
use Rattle.c_type_base.specs.declared.expr.TNode.TheVariants as node
use Rattle.c_type_base.specs.declared.expr.TNode.TheOpen.{TNode-F}
use Rattle.c_type_base.specs.declared.known.Constancy.{Constancy}
use Rattle.c_type_base.specs.declared.known.Constancy.TheVariants.{Varies, DividesByZero, Is}
use Rattle.c_type_base.specs.declared.known.Fixed.{Fixed}
use Rattle.c_type_base.specs.declared.known.Known.{Known}
use Rattle.c_type_base.specs.Arithmetic.{negated}
use Rattle.c_type_base.specs.Constants.{forward, moved}
use Rattle.c_type_base.specs.Conversions.{promoted, usual}
use Rattle.c_type_base.specs.Sizes.{size}
use Rattle.c_type_base.specs.Types.{TyLayer, same_type, is_there, int_of_level, target_of_level, is_integer, is_pointer, is_scalar}
use Rattle.c_type_base.specs.Types.{target_of}
use Rattle.c_type_expr.specs.Environment.{Env}
use Rattle.c_type_expr.specs.Faults.{Rule, rule, broken}
use Rattle.c_type_expr.specs.Operators.{Sort, Integer, Points, sort_of_level, sort_of, on_integers, compares, converted_as}
use Rattle.c_type_expr.specs.Operators.{complete_target}
use Rattle.c_type_expr.specs.Operators.{arithmetic, pointer_row, sum, pointers_row, difference, shifted, shift, ordering, equality}
use Rattle.c_type_expr.specs.Operators.{logical}
use Rattle.c_type_expr.specs.Operators.{binary_judged}
use Rattle.c_type_expr.specs.Outcomes.{Outcome}
use Rattle.block_meaning.specs.ExpressionsInOrder as order
use Rattle.block_meaning.specs.ExpressionsInOrder.{Scope, HasValue, BinaryTypes, Arithmetic, Shift, Comparison, Logical, group_of}
use Rattle.block_meaning.specs.ExpressionsInOrder.{int_type}
use Rattle.well_typed_order.specs.Standing.{There, KnownIn, ValueIn, FixedIn}
use Rattle.well_typed_order.specs.Laws.Known.{known_by, valued, int-plain, pointer-plain, converted-in}
use Rattle.c_type_base.specs.Laws.SameLaws.{one-type}

-- a construct without faults is known, and in order
abbrev pub Keeps : Scope → Outcome Known → Type 0
Keeps s o = o.faults ≡ [] → There o.known (KnownIn s)

-- ---- rules

pub kept-first : (span : Span) (n : ℕ) (b : Bool) (rs : List Rule) → broken span (rule n b ∷ rs) ≡ [] → b ≡ true
kept-first span n true rs is = refl
kept-first span n false rs is = absurd cc

pub kept-rest : (span : Span) (n : ℕ) (b : Bool) (rs : List Rule) → broken span (rule n b ∷ rs) ≡ [] → broken span rs ≡ []
kept-rest span n true rs is = is
kept-rest span n false rs is = absurd cc

-- no construct keeps a rule that is broken
pub never-kept : (span : Span) (n m : ℕ) (b : Bool) → broken span (rule n b ∷ rule m false ∷ []) ≡ [] → ⊥
never-kept span n m true is = absurd cc
never-kept span n m false is = absurd cc

-- ---- sorts

integer_level : (l : TyLayer) (i : IntType) → sort_of_level l ≡ Integer i → is_there (int_of_level l) ≡ true
integer_level (Ty-F.Int j) i is = refl
integer_level _ i is = absurd cc

points_level : (l : TyLayer) (t : Ty) → sort_of_level l ≡ Points t → target_of_level l ≡ Some t
points_level (Ty-F.Pointer u) t is = points_same u t is
  where
    points_same : (u t : Ty) → Points u ≡ Points t → ◌≡◌ {A = Option Ty} (Some u) (Some t)
    points_same u t is = cc
points_level _ t is = absurd cc

pub sort-integer : (k : Known) (i : IntType) → sort_of k ≡ Integer i → is_integer k.tree.ty ≡ true
sort-integer k i is = integer_level (out-Ty k.tree.ty) i is

pub sort-target : (k : Known) (t : Ty) → sort_of k ≡ Points t → target_of k.tree.ty ≡ Some t
sort-target k t is = points_level (out-Ty k.tree.ty) t is

target_there : (l : TyLayer) (t : Ty) → target_of_level l ≡ Some t → is_there (target_of_level l) ≡ true
target_there (Ty-F.Pointer u) t is = refl
target_there _ t is = absurd cc

pub sort-pointer : (k : Known) (t : Ty) → sort_of k ≡ Points t → is_pointer k.tree.ty ≡ true
sort-pointer k t is = target_there (out-Ty k.tree.ty) t (sort-target k t is)

pointer_level : (l : TyLayer) (t : Ty) → target_of_level l ≡ Some t → l ≡ Ty-F.Pointer t
pointer_level (Ty-F.Pointer u) t is = pointer_same u t is
  where
    pointer_same : (u t : Ty) → ◌≡◌ {A = Option Ty} (Some u) (Some t) → ◌≡◌ {A = TyLayer} (Ty-F.Pointer u) (Ty-F.Pointer t)
    pointer_same u t is = ap (λ t. Ty-F.Pointer t) cc
pointer_level _ t is = absurd cc

-- two pointers to one type have one type
pub one-pointer : (a b : Known) (u w : Ty) → sort_of a ≡ Points u → sort_of b ≡ Points w → same_type u w ≡ true → a.tree.ty ≡ b.tree.ty
one-pointer a b u w is its same =
    let first = pointer_level (out-Ty a.tree.ty) u (sort-target a u is) in
    let second = pointer_level (out-Ty b.tree.ty) w (sort-target b w its) in
    sym (roll-out-Ty a.tree.ty) ∙ ap roll-Ty first ∙ ap (λ t. roll-Ty (Ty-F.Pointer t)) (one-type u w same) ∙ ap roll-Ty (sym second)
    ∙ roll-out-Ty b.tree.ty

pub int-integer : (i : IntType) → is_integer (ty.Int i) ≡ true
unfolding given_types
int-integer i = refl

pub integer-scalar : (t : Ty) → is_integer t ≡ true → is_scalar t ≡ true
integer-scalar t is = ap (λ b. b || is_pointer t) is

or_second : (a b : Bool) → b ≡ true → (a || b) ≡ true
or_second true b is = refl
or_second false b is = is

pub pointer-scalar : (t : Ty) → is_pointer t ≡ true → is_scalar t ≡ true
pointer-scalar t is = or_second (is_integer t) (is_pointer t) is

-- ---- rows

types_at : {o : BinaryOperator} {s t u : Ty} (s' t' : Ty) → s' ≡ s → t' ≡ t → BinaryTypes o s t u → BinaryTypes o s' t' u
types_at {o = o} {s = s} {t = t} {u = u} s' t' is its types =
    subst (λ s. BinaryTypes o s t' u) (sym is) (subst (λ t. BinaryTypes o s t u) (sym its) types)

-- two integers, both in one type
integers_in : {s : Scope} (o : BinaryOperator) (span : Span) (i result : IntType) (a b : Known) → ValueIn s a → ValueIn s b →
    is_integer a.tree.ty ≡ true → is_integer b.tree.ty ≡ true → BinaryTypes o (ty.Int i) (ty.Int i) (ty.Int result) →
    KnownIn s (on_integers o span i result a b)
unfolding given_typed
integers_in o span i result a b of_a of_b is its types =
    let x = converted-in a (ty.Int i) of_a (order.integers is (int-integer i)) in
    let y = converted-in b (ty.Int i) of_b (order.integers its (int-integer i)) in
    known_by (on_integers o span i result a b) refl (order.operated x.value.has y.value.has (types_at _ _ x.is y.is types))
    (int-plain result) (λ n c. int-integer result)

arithmetic_in : {s : Scope} (o : BinaryOperator) → group_of o ≡ Arithmetic → (span : Span) (a b : Known) (env : Env) → ValueIn s a →
    ValueIn s b → (x y : Sort) → sort_of a ≡ x → sort_of b ≡ y → Keeps s (arithmetic o span a b x y env)
arithmetic_in o group span a b env of_a of_b (Integer i) (Integer j) is its kept =
    integers_in o span (usual i j) (usual i j) a b of_a of_b (sort-integer a i is) (sort-integer b j its)
    (order.arithmetic group (int-integer (usual i j)))
arithmetic_in o group span a b env of_a of_b _ _ is its kept = absurd cc

-- two values as they are, and an int
compares_in : {s : Scope} (o : BinaryOperator) (span : Span) (a b : Known) (c : Constancy) → HasValue s int_type
    (TNode-F.Binary o a.tree b.tree) → KnownIn s (compares o span a b c)
unfolding given_typed
compares_in o span a b c has = known_by (compares o span a b c) refl has (int-plain int.Int) (λ n is. int-integer int.Int)

-- an address that is moved is one of the same object
pub moved-fixed : (s : Scope) (sign : ℕ → ℕ) (bytes : ℕ) (o : Option Fixed) (c : Constancy) → FixedIn s o →
    FixedIn s (moved sign bytes o c)
moved-fixed s sign bytes None c fixed = tt
moved-fixed s sign bytes (Some f) Varies fixed = tt
moved-fixed s sign bytes (Some f) DividesByZero fixed = tt
moved-fixed s sign bytes (Some f) (Is n) fixed = fixed

moved_in : {s : Scope} (o : BinaryOperator) (span : Span) (sign : ℕ → ℕ) (u : Ty) (p i a b : Known) (env : Env) →
    FixedIn s p.fixed → is_pointer p.tree.ty ≡ true → HasValue s p.tree.ty (TNode-F.Binary o a.tree b.tree) →
    Keeps s (pointer_row span sign u p i (node.Binary o a.tree b.tree) env)
unfolding given_typed
moved_in {s = s} o span sign u p i a b env fixed is has kept =
    valued _ refl (moved-fixed s sign (size env.structs u) p.fixed i.constant fixed) has (pointer-plain p.tree.ty is) (λ n c. absurd cc)

sum_in : {s : Scope} (span : Span) (a b : Known) (env : Env) → ValueIn s a → ValueIn s b → (x y : Sort) → sort_of a ≡ x →
    sort_of b ≡ y → Keeps s (sum span a b x y env)
sum_in span a b env of_a of_b (Integer i) (Integer j) is its kept =
    integers_in binary.Add span (usual i j) (usual i j) a b of_a of_b (sort-integer a i is) (sort-integer b j its)
    (order.arithmetic refl (int-integer (usual i j)))
sum_in span a b env of_a of_b (Points u) (Integer j) is its kept =
    moved_in binary.Add span forward u a b a b env of_a.fixed (sort-pointer a u is)
    (order.operated of_a.has of_b.has (order.added (sort-pointer a u is) (sort-integer b j its))) kept
sum_in span a b env of_a of_b (Integer i) (Points w) is its kept =
    moved_in binary.Add span forward w b a a b env of_b.fixed (sort-pointer b w its)
    (order.operated of_a.has of_b.has (order.added_to (sort-integer a i is) (sort-pointer b w its))) kept
sum_in span a b env of_a of_b _ _ is its kept = absurd cc

distance_in : {s : Scope} (span : Span) (u w : Ty) (a b : Known) (env : Env) → ValueIn s a → ValueIn s b → sort_of a ≡ Points u →
    sort_of b ≡ Points w → Keeps s (pointers_row span u w a b env)
unfolding given_typed
distance_in span u w a b env of_a of_b is its kept =
    let same = one-pointer a b u w is its (kept-first span 12 (same_type u w) (complete_target env.structs u ∷ []) kept) in
    known_by _ refl
    (order.operated of_a.has of_b.has (types_at _ _ refl (sym same) (order.distance (sort-pointer a u is))))
    (int-plain int.Long) (λ n c. absurd cc)

difference_in : {s : Scope} (span : Span) (a b : Known) (env : Env) → ValueIn s a → ValueIn s b → (x y : Sort) → sort_of a ≡ x →
    sort_of b ≡ y → Keeps s (difference span a b x y env)
difference_in span a b env of_a of_b (Integer i) (Integer j) is its kept =
    integers_in binary.Subtract span (usual i j) (usual i j) a b of_a of_b (sort-integer a i is) (sort-integer b j its)
    (order.arithmetic refl (int-integer (usual i j)))
difference_in span a b env of_a of_b (Points u) (Integer j) is its kept =
    moved_in binary.Subtract span negated u a b a b env of_a.fixed (sort-pointer a u is)
    (order.operated of_a.has of_b.has (order.taken (sort-pointer a u is) (sort-integer b j its))) kept
difference_in span a b env of_a of_b (Points u) (Points w) is its kept = distance_in span u w a b env of_a of_b is its kept
difference_in span a b env of_a of_b _ _ is its kept = absurd cc

shifted_in : {s : Scope} (o : BinaryOperator) → group_of o ≡ Shift → (span : Span) (i j : IntType) (a b : Known) → ValueIn s a →
    ValueIn s b → is_integer a.tree.ty ≡ true → is_integer b.tree.ty ≡ true → KnownIn s (shifted o span i j a b)
unfolding given_typed
shifted_in o group span i j a b of_a of_b is its =
    let x = converted-in a (ty.Int i) of_a (order.integers is (int-integer i)) in
    let y = converted-in b (ty.Int j) of_b (order.integers its (int-integer j)) in
    known_by (shifted o span i j a b) refl (order.operated x.value.has y.value.has
    (types_at _ _ x.is y.is (order.shift group (int-integer i) (int-integer j)))) (int-plain i) (λ n c. int-integer i)

shift_in : {s : Scope} (o : BinaryOperator) → group_of o ≡ Shift → (span : Span) (a b : Known) (env : Env) → ValueIn s a →
    ValueIn s b → (x y : Sort) → sort_of a ≡ x → sort_of b ≡ y → Keeps s (shift o span a b x y env)
shift_in o group span a b env of_a of_b (Integer i) (Integer j) is its kept =
    shifted_in o group span (promoted i) (promoted j) a b of_a of_b (sort-integer a i is) (sort-integer b j its)
shift_in o group span a b env of_a of_b _ _ is its kept = absurd cc

pointers_compared : {s : Scope} (o : BinaryOperator) → group_of o ≡ Comparison → (a b : Known) (u w : Ty) → ValueIn s a → ValueIn s b →
    sort_of a ≡ Points u → sort_of b ≡ Points w → same_type u w ≡ true → HasValue s int_type (TNode-F.Binary o a.tree b.tree)
pointers_compared o group a b u w of_a of_b is its same =
    order.operated of_a.has of_b.has (types_at _ _ refl (sym (one-pointer a b u w is its same))
    (order.comparison group (pointer-scalar a.tree.ty (sort-pointer a u is))))

ordering_in : {s : Scope} (o : BinaryOperator) → group_of o ≡ Comparison → (span : Span) (a b : Known) (env : Env) → ValueIn s a →
    ValueIn s b → (x y : Sort) → sort_of a ≡ x → sort_of b ≡ y → Keeps s (ordering o span a b x y env)
ordering_in o group span a b env of_a of_b (Integer i) (Integer j) is its kept =
    integers_in o span (usual i j) int.Int a b of_a of_b (sort-integer a i is) (sort-integer b j its)
    (order.comparison group (integer-scalar (ty.Int (usual i j)) (int-integer (usual i j))))
ordering_in o group span a b env of_a of_b (Points u) (Points w) is its kept =
    compares_in o span a b Varies (pointers_compared o group a b u w of_a of_b is its (kept-first span 12 (same_type u w) [] kept))
ordering_in o group span a b env of_a of_b _ _ is its kept = absurd cc

equality_in : {s : Scope} (o : BinaryOperator) → group_of o ≡ Comparison → (span : Span) (a b : Known) (env : Env) → ValueIn s a →
    ValueIn s b → (x y : Sort) → sort_of a ≡ x → sort_of b ≡ y → Keeps s (equality o span a b x y env)
equality_in o group span a b env of_a of_b (Integer i) (Integer j) is its kept =
    integers_in o span (usual i j) int.Int a b of_a of_b (sort-integer a i is) (sort-integer b j its)
    (order.comparison group (integer-scalar (ty.Int (usual i j)) (int-integer (usual i j))))
equality_in o group span a b env of_a of_b (Points u) (Points w) is its kept =
    compares_in o span a b Varies (pointers_compared o group a b u w of_a of_b is its (kept-first span 12 (same_type u w) [] kept))
equality_in o group span a b env of_a of_b (Points u) (Integer j) is its kept =
    let y = converted-in b a.tree.ty of_b (order.null_constant (sort-integer b j its) (sort-pointer a u is)) in
    compares_in o span a (converted_as a b) Varies (order.operated of_a.has y.value.has
    (types_at _ _ refl y.is (order.comparison group (pointer-scalar a.tree.ty (sort-pointer a u is)))))
equality_in o group span a b env of_a of_b (Integer i) (Points w) is its kept =
    let x = converted-in a b.tree.ty of_a (order.null_constant (sort-integer a i is) (sort-pointer b w its)) in
    compares_in o span (converted_as b a) b Varies (order.operated x.value.has of_b.has
    (types_at _ _ x.is refl (order.comparison group (pointer-scalar b.tree.ty (sort-pointer b w its)))))
equality_in o group span a b env of_a of_b _ _ is its kept = absurd cc

logical_in : {s : Scope} (o : BinaryOperator) → group_of o ≡ Logical → (span : Span) (a b : Known) (env : Env) → ValueIn s a →
    ValueIn s b → (x y : Sort) → sort_of a ≡ x → sort_of b ≡ y → Keeps s (logical o span a b x y env)
logical_in o group span a b env of_a of_b (Integer i) (Integer j) is its kept =
    compares_in o span a b _ (order.logical group of_a.has (integer-scalar _ (sort-integer a i is)) of_b.has
    (integer-scalar _ (sort-integer b j its)))
logical_in o group span a b env of_a of_b (Integer i) (Points w) is its kept =
    compares_in o span a b _ (order.logical group of_a.has (integer-scalar _ (sort-integer a i is)) of_b.has
    (pointer-scalar _ (sort-pointer b w its)))
logical_in o group span a b env of_a of_b (Points u) (Integer j) is its kept =
    compares_in o span a b _ (order.logical group of_a.has (pointer-scalar _ (sort-pointer a u is)) of_b.has
    (integer-scalar _ (sort-integer b j its)))
logical_in o group span a b env of_a of_b (Points u) (Points w) is its kept =
    compares_in o span a b _ (order.logical group of_a.has (pointer-scalar _ (sort-pointer a u is)) of_b.has
    (pointer-scalar _ (sort-pointer b w its)))
logical_in o group span a b env of_a of_b _ _ is its kept = absurd cc

-- `a o b` on two values
pub binary-in : {s : Scope} (o : BinaryOperator) (span : Span) (a b : Known) (env : Env) → ValueIn s a → ValueIn s b →
    Keeps s (binary_judged o span a b env)
binary-in binary.Add span a b env of_a of_b = sum_in span a b env of_a of_b _ _ refl refl
binary-in binary.Subtract span a b env of_a of_b = difference_in span a b env of_a of_b _ _ refl refl
binary-in binary.ShiftLeft span a b env of_a of_b = shift_in _ refl span a b env of_a of_b _ _ refl refl
binary-in binary.ShiftRight span a b env of_a of_b = shift_in _ refl span a b env of_a of_b _ _ refl refl
binary-in binary.Less span a b env of_a of_b = ordering_in _ refl span a b env of_a of_b _ _ refl refl
binary-in binary.Greater span a b env of_a of_b = ordering_in _ refl span a b env of_a of_b _ _ refl refl
binary-in binary.LessEqual span a b env of_a of_b = ordering_in _ refl span a b env of_a of_b _ _ refl refl
binary-in binary.GreaterEqual span a b env of_a of_b = ordering_in _ refl span a b env of_a of_b _ _ refl refl
binary-in binary.Equal span a b env of_a of_b = equality_in _ refl span a b env of_a of_b _ _ refl refl
binary-in binary.NotEqual span a b env of_a of_b = equality_in _ refl span a b env of_a of_b _ _ refl refl
binary-in binary.And span a b env of_a of_b = logical_in _ refl span a b env of_a of_b _ _ refl refl
binary-in binary.Or span a b env of_a of_b = logical_in _ refl span a b env of_a of_b _ _ refl refl
binary-in _ span a b env of_a of_b = arithmetic_in _ refl span a b env of_a of_b _ _ refl refl
