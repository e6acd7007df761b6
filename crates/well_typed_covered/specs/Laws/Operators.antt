-- What operators on values make is covered where it is plain, one law a row (this project's own).
use Rattle.std.specs.Prelude.{◌≡◌, Bool, true, false, refl, if◌then◌else◌}
use Rattle.c_ast.specs.declared.int_type.IntType.{IntType}
use Rattle.c_ast.specs.declared.int_type.IntType.TheVariants as int
use Rattle.c_ast.specs.declared.operator.BinaryOperator.{BinaryOperator}
use Rattle.c_ast.specs.declared.operator.BinaryOperator.TheVariants as binary
use Rattle.c_ast.specs.declared.operator.UnaryOperator.{UnaryOperator}
use Rattle.c_ast.specs.declared.operator.UnaryOperator.TheVariants as unary
use Rattle.c_ast.specs.declared.token.Span.{Span}
use Rattle.c_type_base.specs.Conversions.{promoted, usual}
use Rattle.c_type_base.specs.Known.{converted}
use Rattle.c_type_base.specs.Types.{TyLayer, int_of_level, is_void}
use Rattle.c_type_base.specs.declared.known.Constancy.TheVariants.{Varies}
use Rattle.c_type_base.specs.declared.known.Known.{Known}
use Rattle.c_type_base.specs.declared.ty.Ty.{Ty, out-Ty}
use Rattle.c_type_base.specs.declared.ty.Ty.TheOpen.{Ty-F}
use Rattle.c_type_base.specs.declared.ty.Ty.TheVariants as ty
use Rattle.c_type_expr.specs.Operators.{Sort, Integer, Points, Neither, sort_of_level, sort_of, on_integers, compares, arithmetic, sum}
use Rattle.c_type_expr.specs.Operators.{difference, shifted, shift, ordering, equality, logical, converted_as}
use Rattle.c_type_expr.specs.Operators.{binary_judged, signed_row, not_row, arms_of_void, arms}
use Rattle.c_type_expr.specs.Operators.{cond_row, cond_judged}
use Rattle.block_meaning.specs.ExpressionsInOrder.{group_of, is_sign}
use Rattle.well_typed_order.specs.Laws.Binary.{sort-pointer}
use Rattle.code_follows.specs.Covered.{is_promoted, is_promoted_in, computes_in, operates_by}
use Rattle.well_typed_covered.specs.Always.{Always}
use Rattle.well_typed_covered.specs.Laws.Known.{KnownCovers, converted-covers, converted-type}
use Rattle.well_typed_covered.specs.Laws.Promoted.{promoted-is, usual-is, computes-int, operates-first, operates-second}
use Rattle.well_typed_covered.specs.Laws.Trees.{unary-covers, binary-covers, cond-covers}

level_computes : (l : TyLayer) (t : Ty) → sort_of_level l ≡ Points t → is_promoted_in (int_of_level l) ≡ true
level_computes (Ty-F.Pointer u) t is = refl
level_computes _ t is = absurd cc

-- operators compute with pointers
pub points-computes : (k : Known) (t : Ty) → sort_of k ≡ Points t → computes_in k.tree.ty ≡ true
points-computes k t is = level_computes (out-Ty k.tree.ty) t is

-- ---- two values

module _ (span : Span) (a b : Known) (of_a : KnownCovers a) (of_b : KnownCovers b) where
  -- two integers, the first in a promoted type
  integers : (o : BinaryOperator) (s t result : IntType) → is_promoted s ≡ true →
      KnownCovers (on_integers o span s result a b) × KnownCovers (shifted o span s t a b)
  integers o s t result promoted =
      let x = converted (ty.Int s) a in
      let first = computes-int s x.tree.ty promoted (converted-type (ty.Int s) a) in (
        binary-covers span (ty.Int result) o x.tree (converted (ty.Int s) b).tree
            (operates-first (group_of o) x.tree.ty (converted (ty.Int s) b).tree.ty first)
            (converted-covers (ty.Int s) a of_a) (converted-covers (ty.Int s) b of_b),
        binary-covers span (ty.Int s) o x.tree (converted (ty.Int t) b).tree
            (operates-first (group_of o) x.tree.ty (converted (ty.Int t) b).tree.ty first)
            (converted-covers (ty.Int s) a of_a) (converted-covers (ty.Int t) b of_b),
      )

  on_two : (o : BinaryOperator) (s result : IntType) → is_promoted s ≡ true → KnownCovers (on_integers o span s result a b)
  on_two o s result promoted = (integers o s s result promoted).0

  -- a pointer first
  first_points : (o : BinaryOperator) (t u : Ty) → sort_of a ≡ Points u → operates_by (group_of o) a.tree.ty t ≡ true
  first_points o t u is = operates-first (group_of o) a.tree.ty t (points-computes a u is)

  arithmetic_always : (o : BinaryOperator) (x y : Sort) → Always KnownCovers (arithmetic o span a b x y)
  arithmetic_always o (Integer s) (Integer t) = record { known = λ env. on_two o (usual s t) (usual s t) (usual-is s t) }
  arithmetic_always o _ _ = record { known = λ env. tt }

  sum_always : (x y : Sort) → sort_of a ≡ x → sort_of b ≡ y → Always KnownCovers (sum span a b x y)
  sum_always (Integer s) (Integer t) is its = record { known = λ env. on_two binary.Add (usual s t) (usual s t) (usual-is s t) }
  sum_always (Points u) (Integer t) is its = record {
    known = λ env. binary-covers span a.tree.ty binary.Add a.tree b.tree (first_points binary.Add b.tree.ty u is) of_a of_b;
  }
  sum_always (Integer s) (Points u) is its = record {
    known = λ env. binary-covers span b.tree.ty binary.Add a.tree b.tree
        (operates-second (group_of binary.Add) a.tree.ty b.tree.ty (sort-pointer b u its)) of_a of_b;
  }
  sum_always _ _ is its = record { known = λ env. tt }

  difference_always : (x y : Sort) → sort_of a ≡ x → Always KnownCovers (difference span a b x y)
  difference_always (Integer s) (Integer t) is =
      record { known = λ env. on_two binary.Subtract (usual s t) (usual s t) (usual-is s t) }
  difference_always (Points u) (Integer t) is = record {
    known = λ env. binary-covers span a.tree.ty binary.Subtract a.tree b.tree (first_points binary.Subtract b.tree.ty u is) of_a of_b;
  }
  difference_always (Points u) (Points w) is = record {
    known = λ env. binary-covers span (ty.Int int.Long) binary.Subtract a.tree b.tree
        (first_points binary.Subtract b.tree.ty u is) of_a of_b;
  }
  difference_always _ _ is = record { known = λ env. tt }

  shift_always : (o : BinaryOperator) (x y : Sort) → Always KnownCovers (shift o span a b x y)
  shift_always o (Integer s) (Integer t) =
      record { known = λ env. (integers o (promoted s) (promoted t) int.Int (promoted-is s)).1 }
  shift_always o _ _ = record { known = λ env. tt }

  -- a pointer and another value
  compared : (o : BinaryOperator) (u : Ty) → sort_of a ≡ Points u → KnownCovers (compares o span a b Varies)
  compared o u is = binary-covers span (ty.Int int.Int) o a.tree b.tree (first_points o b.tree.ty u is) of_a of_b

  ordering_always : (o : BinaryOperator) (x y : Sort) → sort_of a ≡ x → Always KnownCovers (ordering o span a b x y)
  ordering_always o (Integer s) (Integer t) is = record { known = λ env. on_two o (usual s t) int.Int (usual-is s t) }
  ordering_always o (Points u) (Points w) is = record { known = λ env. compared o u is }
  ordering_always o _ _ is = record { known = λ env. tt }

  equality_always : (o : BinaryOperator) (x y : Sort) → sort_of a ≡ x → sort_of b ≡ y → Always KnownCovers (equality o span a b x y)
  equality_always o (Integer s) (Integer t) is its = record { known = λ env. on_two o (usual s t) int.Int (usual-is s t) }
  equality_always o (Points u) (Points w) is its = record { known = λ env. compared o u is }
  equality_always o (Points u) (Integer t) is its = record {
    known = λ env. binary-covers span (ty.Int int.Int) o a.tree (converted_as a b).tree
        (first_points o (converted_as a b).tree.ty u is) of_a (converted-covers a.tree.ty b of_b);
  }
  equality_always o (Integer s) (Points w) is its = record {
    known = λ env. binary-covers span (ty.Int int.Int) o (converted_as b a).tree b.tree
        (operates-second (group_of o) (converted_as b a).tree.ty b.tree.ty (sort-pointer b w its))
        (converted-covers b.tree.ty a of_a) of_b;
  }
  equality_always o _ _ is its = record { known = λ env. tt }

  -- `&&` and `||`
  logical_compared : (o : BinaryOperator) → operates_by (group_of o) a.tree.ty b.tree.ty ≡ true →
      KnownCovers (compares o span a b Varies)
  logical_compared o operates = binary-covers span (ty.Int int.Int) o a.tree b.tree operates of_a of_b

  logical_always : (o : BinaryOperator) → operates_by (group_of o) a.tree.ty b.tree.ty ≡ true → (x y : Sort) →
      Always KnownCovers (logical o span a b x y)
  logical_always o operates (Integer s) (Integer t) = record { known = λ env. logical_compared o operates }
  logical_always o operates (Integer s) (Points w) = record { known = λ env. logical_compared o operates }
  logical_always o operates (Points u) (Integer t) = record { known = λ env. logical_compared o operates }
  logical_always o operates (Points u) (Points w) = record { known = λ env. logical_compared o operates }
  logical_always o operates Neither y = record { known = λ env. tt }
  logical_always o operates (Integer s) Neither = record { known = λ env. tt }
  logical_always o operates (Points u) Neither = record { known = λ env. tt }

  pub binary-always : (o : BinaryOperator) → Always KnownCovers (binary_judged o span a b)
  binary-always binary.Add = sum_always (sort_of a) (sort_of b) refl refl
  binary-always binary.Subtract = difference_always (sort_of a) (sort_of b) refl
  binary-always binary.ShiftLeft = shift_always binary.ShiftLeft (sort_of a) (sort_of b)
  binary-always binary.ShiftRight = shift_always binary.ShiftRight (sort_of a) (sort_of b)
  binary-always binary.Less = ordering_always binary.Less (sort_of a) (sort_of b) refl
  binary-always binary.Greater = ordering_always binary.Greater (sort_of a) (sort_of b) refl
  binary-always binary.LessEqual = ordering_always binary.LessEqual (sort_of a) (sort_of b) refl
  binary-always binary.GreaterEqual = ordering_always binary.GreaterEqual (sort_of a) (sort_of b) refl
  binary-always binary.Equal = equality_always binary.Equal (sort_of a) (sort_of b) refl refl
  binary-always binary.NotEqual = equality_always binary.NotEqual (sort_of a) (sort_of b) refl refl
  binary-always binary.And = logical_always binary.And refl (sort_of a) (sort_of b)
  binary-always binary.Or = logical_always binary.Or refl (sort_of a) (sort_of b)
  binary-always binary.Multiply = arithmetic_always binary.Multiply (sort_of a) (sort_of b)
  binary-always binary.Divide = arithmetic_always binary.Divide (sort_of a) (sort_of b)
  binary-always binary.Remainder = arithmetic_always binary.Remainder (sort_of a) (sort_of b)
  binary-always binary.BitAnd = arithmetic_always binary.BitAnd (sort_of a) (sort_of b)
  binary-always binary.BitXor = arithmetic_always binary.BitXor (sort_of a) (sort_of b)
  binary-always binary.BitOr = arithmetic_always binary.BitOr (sort_of a) (sort_of b)

  -- ---- `c ? a : b`

  void_always : (c : Known) → KnownCovers c → (x y : Bool) → Always KnownCovers (arms_of_void span c a b x y)
  void_always c of_c true true = record { known = λ env. cond-covers span ty.Void c.tree a.tree b.tree of_c of_a of_b }
  void_always c of_c _ _ = record { known = λ env. tt }

  arms_always : (c : Known) → KnownCovers c → (x y : Sort) → Always KnownCovers (arms span c a b x y)
  arms_always c of_c (Integer s) (Integer t) = record {
    known = λ env.
        let u = ty.Int (usual s t) in
        cond-covers span u c.tree (converted u a).tree (converted u b).tree of_c (converted-covers u a of_a) (converted-covers u b of_b);
  }
  arms_always c of_c (Points u) (Points w) =
      record { known = λ env. cond-covers span a.tree.ty c.tree a.tree b.tree of_c of_a of_b }
  arms_always c of_c (Points u) (Integer t) = record {
    known = λ env. cond-covers span a.tree.ty c.tree a.tree (converted_as a b).tree of_c of_a (converted-covers a.tree.ty b of_b);
  }
  arms_always c of_c (Integer s) (Points w) = record {
    known = λ env. cond-covers span b.tree.ty c.tree (converted_as b a).tree b.tree of_c (converted-covers b.tree.ty a of_a) of_b;
  }
  arms_always c of_c Neither y = void_always c of_c (is_void a.tree.ty) (is_void b.tree.ty)
  arms_always c of_c (Integer s) Neither = void_always c of_c (is_void a.tree.ty) (is_void b.tree.ty)
  arms_always c of_c (Points u) Neither = void_always c of_c (is_void a.tree.ty) (is_void b.tree.ty)

  cond_always : (c : Known) → KnownCovers c → (x : Sort) → Always KnownCovers (cond_row span c a b x)
  cond_always c of_c Neither = record { known = λ env. tt }
  cond_always c of_c (Integer s) = arms_always c of_c (sort_of a) (sort_of b)
  cond_always c of_c (Points u) = arms_always c of_c (sort_of a) (sort_of b)

  pub cond-always : (c : Known) → KnownCovers c → Always KnownCovers (cond_judged span c a b)
  cond-always c of_c = cond_always c of_c (sort_of c)

-- ---- one value

if_sign : (sign b : Bool) → b ≡ true → (if sign then b else true) ≡ true
if_sign true b is = is
if_sign false b is = refl

pub signed-always : (o : UnaryOperator) (span : Span) (k : Known) → KnownCovers k → (x : Sort) → Always KnownCovers (signed_row o span k x)
signed-always o span k known (Integer t) = record {
  known = λ env.
      let u = ty.Int (promoted t) in
      unary-covers span u o (converted u k).tree (if_sign (is_sign o) (computes_in u) (computes-int (promoted t) u (promoted-is t) refl))
      (converted-covers u k known);
}
signed-always o span k known _ = record { known = λ env. tt }

pub not-always : (span : Span) (k : Known) → KnownCovers k → (x : Sort) → Always KnownCovers (not_row span k x)
not-always span k known (Integer t) = record { known = λ env. unary-covers span (ty.Int int.Int) unary.Not k.tree refl known }
not-always span k known (Points u) = record { known = λ env. unary-covers span (ty.Int int.Int) unary.Not k.tree refl known }
not-always span k known Neither = record { known = λ env. tt }
