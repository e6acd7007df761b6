-- The operators on values (ISO C11 6.5.3.3, 6.5.5 to 6.5.15): which operands fit, what the result is, and where a conversion stands.
-- Each line of a table is one row for the types of its operands; where none fits, rule 12 is broken.
use Rattle.std.specs.Prelude.{ℕ, Bool, true, List, [], ◌∷◌, Option, None}
use Rattle.c_ast.specs.declared.token.Span.{Span}
use Rattle.c_ast.specs.declared.int_type.IntType.{IntType}
use Rattle.c_ast.specs.declared.int_type.IntType.TheVariants as int
use Rattle.c_ast.specs.declared.operator.BinaryOperator.{BinaryOperator}
use Rattle.c_ast.specs.declared.operator.BinaryOperator.TheVariants as binary
use Rattle.c_ast.specs.declared.operator.UnaryOperator.{UnaryOperator}
use Rattle.c_ast.specs.declared.operator.UnaryOperator.TheVariants as unary
use Rattle.c_type_base.specs.declared.ty.Ty.{Ty, out-Ty}
use Rattle.c_type_base.specs.declared.ty.Ty.TheVariants as ty
use Rattle.c_type_base.specs.declared.ty.Ty.TheOpen.{Ty-F}
use Rattle.c_type_base.specs.declared.expr.TNode.{TNode}
use Rattle.c_type_base.specs.declared.expr.TNode.TheVariants as node
use Rattle.c_type_base.specs.declared.typed.StructInfo.{StructInfo}
use Rattle.c_type_base.specs.Sizes.{size, is_complete}
use Rattle.c_type_base.specs.Types.{TyLayer, same_type, is_void}
use Rattle.c_type_base.specs.Conversions.{promoted, usual}
use Rattle.c_type_base.specs.Arithmetic.{negated, unary_value}
use Rattle.c_type_base.specs.Constants.{constant_of, constant_of_one, chosen, moved, forward}
use Rattle.c_type_expr.specs.Faults.{Rule, rule, fault}
use Rattle.c_type_expr.specs.Outcomes.{Judged, ruled, sure}
use Rattle.c_type_base.specs.declared.known.Known.{Known}
use Rattle.c_type_base.specs.declared.known.Constancy.{Constancy}
use Rattle.c_type_base.specs.declared.known.Fixed.{Fixed}
use Rattle.c_type_base.specs.declared.known.Constancy.TheVariants.{Varies}
use Rattle.c_type_base.specs.Known.{texpr, plain, converted, is_null}

-- a construct that breaks a rule and has no type
abbrev pub breaks : {A : Type 0} → ℕ → Span → Judged A
breaks number span env = record { faults = fault number span ∷ []; texts = []; locals = []; names = []; known = None }

-- no row fits the operands
abbrev pub misfit : {A : Type 0} → Span → Judged A
misfit = breaks 12

-- what the tables ask of an operand's type
pub data Sort : Type 0 where
  Integer : IntType → Sort
  Points : Ty → Sort
  Neither : Sort

abbrev pub sort_of_level : TyLayer → Sort
sort_of_level (Ty-F.Int t) = Integer t
sort_of_level (Ty-F.Pointer t) = Points t
sort_of_level _ = Neither

abbrev pub sort_of : Known → Sort
sort_of k = sort_of_level (out-Ty k.tree.ty)

-- ---- rows

-- two integers, both in one type, and the result in one
abbrev pub on_integers : BinaryOperator → Span → IntType → IntType → Known → Known → Known
on_integers o span t result a b =
    let x = converted (ty.Int t) a in
    let y = converted (ty.Int t) b in
    plain (texpr span (ty.Int result) (node.Binary o x.tree y.tree)) (constant_of o t x.constant y.constant)

-- two values as they are, and an int
abbrev pub compares : BinaryOperator → Span → Known → Known → Constancy → Known
compares o span a b constant = plain (texpr span (ty.Int int.Int) (node.Binary o a.tree b.tree)) constant

-- a value in the type of another
abbrev pub converted_as : Known → Known → Known
converted_as a b = converted a.tree.ty b

-- a pointer, the address that it is, and the sum that gives it
abbrev pub pointer_moved : Span → Ty → Option Fixed → TNode → Known
pointer_moved span t fixed sum = record (plain (texpr span t sum) Varies) { fixed = fixed }

-- what a pointer that is moved points to is complete
abbrev pub complete_target : List StructInfo → Ty → Rule
complete_target structs t = rule 15 (is_complete structs t)

-- `* / % & ^ |` (6.5.5, 6.5.10 to 6.5.12)
abbrev pub arithmetic : BinaryOperator → Span → Known → Known → Sort → Sort → Judged Known
arithmetic o span a b (Integer s) (Integer t) = sure (on_integers o span (usual s t) (usual s t) a b)
arithmetic o span a b _ _ = misfit span

-- the pointer among two operands is moved by the integer; what is written last is the sum, with the operands in their order
abbrev pub pointer_row : Span → (ℕ → ℕ) → Ty → Known → Known → TNode → Judged Known
pointer_row span sign target pointer integer tree env =
    let fixed = moved sign (size env.structs target) pointer.fixed integer.constant in
    ruled span (complete_target env.structs target ∷ []) (pointer_moved span pointer.tree.ty fixed tree) env

-- `+` (6.5.6)
abbrev pub sum : Span → Known → Known → Sort → Sort → Judged Known
sum span a b (Integer s) (Integer t) = sure (on_integers binary.Add span (usual s t) (usual s t) a b)
sum span a b (Points u) (Integer t) = pointer_row span forward u a b (node.Binary binary.Add a.tree b.tree)
sum span a b (Integer s) (Points u) = pointer_row span forward u b a (node.Binary binary.Add a.tree b.tree)
sum span a b _ _ = misfit span

-- the elements between two pointers
abbrev pub distance : Span → Known → Known → Known
distance span a b = plain (texpr span (ty.Int int.Long) (node.Binary binary.Subtract a.tree b.tree)) Varies

-- two pointers of one type, which points to something complete
abbrev pub pointers_row : Span → Ty → Ty → Known → Known → Judged Known
pointers_row span u w a b env = ruled span (rule 12 (same_type u w) ∷ complete_target env.structs u ∷ []) (distance span a b) env

-- `-` (6.5.6)
abbrev pub difference : Span → Known → Known → Sort → Sort → Judged Known
difference span a b (Integer s) (Integer t) = sure (on_integers binary.Subtract span (usual s t) (usual s t) a b)
difference span a b (Points u) (Integer t) = pointer_row span negated u a b (node.Binary binary.Subtract a.tree b.tree)
difference span a b (Points u) (Points w) = pointers_row span u w a b
difference span a b _ _ = misfit span

-- two integers, each in a type of its own, and the result in the first
abbrev pub shifted : BinaryOperator → Span → IntType → IntType → Known → Known → Known
shifted o span s t a b =
    let x = converted (ty.Int s) a in
    let y = converted (ty.Int t) b in
    plain (texpr span (ty.Int s) (node.Binary o x.tree y.tree)) (constant_of o s x.constant y.constant)

-- `<< >>`: each is promoted by itself (6.5.7)
abbrev pub shift : BinaryOperator → Span → Known → Known → Sort → Sort → Judged Known
shift o span a b (Integer s) (Integer t) = sure (shifted o span (promoted s) (promoted t) a b)
shift o span a b _ _ = misfit span

-- `< > <= >=` (6.5.8)
abbrev pub ordering : BinaryOperator → Span → Known → Known → Sort → Sort → Judged Known
ordering o span a b (Integer s) (Integer t) = sure (on_integers o span (usual s t) int.Int a b)
ordering o span a b (Points u) (Points w) = ruled span (rule 12 (same_type u w) ∷ []) (compares o span a b Varies)
ordering o span a b _ _ = misfit span

-- `== !=`: the null constant has the pointer's type (6.5.9)
abbrev pub equality : BinaryOperator → Span → Known → Known → Sort → Sort → Judged Known
equality o span a b (Integer s) (Integer t) = sure (on_integers o span (usual s t) int.Int a b)
equality o span a b (Points u) (Points w) = ruled span (rule 12 (same_type u w) ∷ []) (compares o span a b Varies)
equality o span a b (Points u) (Integer t) = ruled span (rule 12 (is_null b) ∷ []) (compares o span a (converted_as a b) Varies)
equality o span a b (Integer s) (Points w) = ruled span (rule 12 (is_null a) ∷ []) (compares o span (converted_as b a) b Varies)
equality o span a b _ _ = misfit span

-- `&& ||`: scalars, each compared with 0 in its own type (6.5.13, 6.5.14)
abbrev pub logical : BinaryOperator → Span → Known → Known → Sort → Sort → Judged Known
logical o span a b (Integer s) (Integer t) = sure (compares o span a b (constant_of o int.ULong a.constant b.constant))
logical o span a b Neither _ = misfit span
logical o span a b _ Neither = misfit span
logical o span a b _ _ = sure (compares o span a b Varies)

abbrev pub binary_row : BinaryOperator → Span → Known → Known → Sort → Sort → Judged Known
binary_row binary.Add = sum
binary_row binary.Subtract = difference
binary_row binary.ShiftLeft = shift binary.ShiftLeft
binary_row binary.ShiftRight = shift binary.ShiftRight
binary_row binary.Less = ordering binary.Less
binary_row binary.Greater = ordering binary.Greater
binary_row binary.LessEqual = ordering binary.LessEqual
binary_row binary.GreaterEqual = ordering binary.GreaterEqual
binary_row binary.Equal = equality binary.Equal
binary_row binary.NotEqual = equality binary.NotEqual
binary_row binary.And = logical binary.And
binary_row binary.Or = logical binary.Or
binary_row o = arithmetic o

-- `a o b` on two values
abbrev pub binary_judged : BinaryOperator → Span → Known → Known → Judged Known
binary_judged o span a b = binary_row o span a b (sort_of a) (sort_of b)

-- an operator on an integer in a type
abbrev pub signed_known : UnaryOperator → Span → IntType → Known → Known
signed_known o span t a =
    let x = converted (ty.Int t) a in
    plain (texpr span (ty.Int t) (node.Unary o x.tree)) (constant_of_one (unary_value o t) x.constant)

-- `~ + -` on an integer, which is promoted (6.5.3.3)
abbrev pub signed_row : UnaryOperator → Span → Known → Sort → Judged Known
signed_row o span a (Integer t) = sure (signed_known o span (promoted t) a)
signed_row o span a _ = misfit span

abbrev pub denied : Span → Known → Constancy → Known
denied span a constant = plain (texpr span (ty.Int int.Int) (node.Unary unary.Not a.tree)) constant

-- `!` on a scalar (6.5.3.3 paragraph 5)
abbrev pub not_row : Span → Known → Sort → Judged Known
not_row span a (Integer t) = sure (denied span a (constant_of_one (unary_value unary.Not t) a.constant))
not_row span a (Points u) = sure (denied span a Varies)
not_row span a Neither = misfit span

abbrev pub with_arms : Span → Ty → Known → Known → Known → Constancy → Known
with_arms span t c a b constant = plain (texpr span t (node.Cond c.tree a.tree b.tree)) constant

abbrev pub arms_of_void : Span → Known → Known → Known → Bool → Bool → Judged Known
arms_of_void span c a b true true = sure (with_arms span ty.Void c a b Varies)
arms_of_void span c a b _ _ = misfit span

-- integers, both in one type
abbrev pub integer_arms : Span → IntType → Known → Known → Known → Known
integer_arms span t c a b =
    let x = converted (ty.Int t) a in
    let y = converted (ty.Int t) b in
    with_arms span (ty.Int t) c x y (chosen c.constant x.constant y.constant)

-- pointers of one type
abbrev pub pointer_arms : Span → Known → Known → Known → Known
pointer_arms span c a b = with_arms span a.tree.ty c a b Varies

-- the null constant and a pointer, in either order
abbrev pub null_first : Span → Known → Known → Known → Known
null_first span c a b = with_arms span b.tree.ty c (converted_as b a) b Varies

abbrev pub null_second : Span → Known → Known → Known → Known
null_second span c a b = with_arms span a.tree.ty c a (converted_as a b) Varies

-- `c ? a : b`: the arms in their common type (6.5.15)
abbrev pub arms : Span → Known → Known → Known → Sort → Sort → Judged Known
arms span c a b (Integer s) (Integer t) = sure (integer_arms span (usual s t) c a b)
arms span c a b (Points u) (Points w) = ruled span (rule 12 (same_type u w) ∷ []) (pointer_arms span c a b)
arms span c a b (Points u) (Integer t) = ruled span (rule 12 (is_null b) ∷ []) (null_second span c a b)
arms span c a b (Integer s) (Points w) = ruled span (rule 12 (is_null a) ∷ []) (null_first span c a b)
arms span c a b _ _ = arms_of_void span c a b (is_void a.tree.ty) (is_void b.tree.ty)

-- the condition is a scalar, and the arms fit
abbrev pub cond_row : Span → Known → Known → Known → Sort → Judged Known
cond_row span c a b Neither = misfit span
cond_row span c a b _ = arms span c a b (sort_of a) (sort_of b)

abbrev pub cond_judged : Span → Known → Known → Known → Judged Known
cond_judged span c a b = cond_row span c a b (sort_of c)
