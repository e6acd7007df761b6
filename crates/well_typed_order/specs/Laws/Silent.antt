-- Rows on operands and types that are written add no name.
use Rattle.std.proofs.Common.{refl, ℕ, Bool, true, false, List, Option, Some, None}
use Rattle.c_ast.specs.declared.token.Span.{Span}
use Rattle.c_ast.specs.declared.operator.UnaryOperator.{UnaryOperator}
use Rattle.c_ast.specs.declared.operator.UnaryOperator.TheVariants as unary
use Rattle.c_ast.specs.declared.operator.BinaryOperator.{BinaryOperator}
use Rattle.c_ast.specs.declared.operator.BinaryOperator.TheVariants as binary
use Rattle.c_ast.specs.declared.operator.AssignOperator.{AssignOperator}
use Rattle.c_ast.specs.declared.operator.Step.{Step}
use Rattle.c_type_base.specs.declared.typed.MemberInfo.{MemberInfo}
use Rattle.c_type_base.specs.declared.known.Known.{Known}
use Rattle.c_type_base.specs.declared.known.Written.{Written}
use Rattle.c_type_base.specs.declared.known.Written.TheVariants.{Whole, Open}
use Rattle.c_type_base.specs.Known.{value}
use Rattle.c_type_base.specs.Types.{is_void}
use Rattle.c_type_expr.specs.declared.scopes.Meaning.{Meaning}
use Rattle.c_type_expr.specs.declared.scopes.Meaning.TheVariants as means
use Rattle.c_type_expr.specs.Expressions.{target_row, unary_row, compound_row, assign_row, step_row}
use Rattle.c_type_expr.specs.Operators.{Sort, Integer, Points, Neither, sort_of, arithmetic, sum, difference, shift, ordering, equality}
use Rattle.c_type_expr.specs.Operators.{logical}
use Rattle.c_type_expr.specs.Operators.{binary_judged, signed_row, not_row, arms_of_void, arms, cond_row, cond_judged}
use Rattle.c_type_expr.specs.Postfix.{index_row, member_found, member_in, member_row, arrow_found, arrow_in, arrow_row}
use Rattle.c_type_expr.specs.Said.{name_row, pointer_to, array_of, tag_of, whole}
use Rattle.well_typed_order.specs.Standing.{Silent}

module _ (span : Span) where
  arithmetic_silent : (o : BinaryOperator) (a b : Known) (x y : Sort) → Silent (arithmetic o span a b x y)
  arithmetic_silent o a b (Integer s) (Integer t) env = refl
  arithmetic_silent o a b _ _ env = refl

  sum_silent : (a b : Known) (x y : Sort) → Silent (sum span a b x y)
  sum_silent a b (Integer s) (Integer t) env = refl
  sum_silent a b (Points u) (Integer t) env = refl
  sum_silent a b (Integer s) (Points u) env = refl
  sum_silent a b _ _ env = refl

  difference_silent : (a b : Known) (x y : Sort) → Silent (difference span a b x y)
  difference_silent a b (Integer s) (Integer t) env = refl
  difference_silent a b (Points u) (Integer t) env = refl
  difference_silent a b (Points u) (Points w) env = refl
  difference_silent a b _ _ env = refl

  shift_silent : (o : BinaryOperator) (a b : Known) (x y : Sort) → Silent (shift o span a b x y)
  shift_silent o a b (Integer s) (Integer t) env = refl
  shift_silent o a b _ _ env = refl

  ordering_silent : (o : BinaryOperator) (a b : Known) (x y : Sort) → Silent (ordering o span a b x y)
  ordering_silent o a b (Integer s) (Integer t) env = refl
  ordering_silent o a b (Points u) (Points w) env = refl
  ordering_silent o a b _ _ env = refl

  equality_silent : (o : BinaryOperator) (a b : Known) (x y : Sort) → Silent (equality o span a b x y)
  equality_silent o a b (Integer s) (Integer t) env = refl
  equality_silent o a b (Points u) (Points w) env = refl
  equality_silent o a b (Points u) (Integer t) env = refl
  equality_silent o a b (Integer s) (Points w) env = refl
  equality_silent o a b _ _ env = refl

  logical_silent : (o : BinaryOperator) (a b : Known) (x y : Sort) → Silent (logical o span a b x y)
  logical_silent o a b (Integer s) (Integer t) env = refl
  logical_silent o a b (Integer s) (Points w) env = refl
  logical_silent o a b (Points u) (Integer t) env = refl
  logical_silent o a b (Points u) (Points w) env = refl
  logical_silent o a b _ _ env = refl

  pub binary-silent : (o : BinaryOperator) (a b : Known) → Silent (binary_judged o span a b)
  binary-silent binary.Add a b env = sum_silent a b (sort_of a) (sort_of b) env
  binary-silent binary.Subtract a b env = difference_silent a b (sort_of a) (sort_of b) env
  binary-silent binary.ShiftLeft a b env = shift_silent _ a b (sort_of a) (sort_of b) env
  binary-silent binary.ShiftRight a b env = shift_silent _ a b (sort_of a) (sort_of b) env
  binary-silent binary.Less a b env = ordering_silent _ a b (sort_of a) (sort_of b) env
  binary-silent binary.Greater a b env = ordering_silent _ a b (sort_of a) (sort_of b) env
  binary-silent binary.LessEqual a b env = ordering_silent _ a b (sort_of a) (sort_of b) env
  binary-silent binary.GreaterEqual a b env = ordering_silent _ a b (sort_of a) (sort_of b) env
  binary-silent binary.Equal a b env = equality_silent _ a b (sort_of a) (sort_of b) env
  binary-silent binary.NotEqual a b env = equality_silent _ a b (sort_of a) (sort_of b) env
  binary-silent binary.And a b env = logical_silent _ a b (sort_of a) (sort_of b) env
  binary-silent binary.Or a b env = logical_silent _ a b (sort_of a) (sort_of b) env
  binary-silent _ a b env = arithmetic_silent _ a b (sort_of a) (sort_of b) env

  target_silent : (e : Known) (x : Sort) → Silent (target_row span e x)
  target_silent e (Points t) env = refl
  target_silent e _ env = refl

  signed_silent : (o : UnaryOperator) (a : Known) (x : Sort) → Silent (signed_row o span a x)
  signed_silent o a (Integer t) env = refl
  signed_silent o a _ env = refl

  not_silent : (a : Known) (x : Sort) → Silent (not_row span a x)
  not_silent a (Integer t) env = refl
  not_silent a (Points u) env = refl
  not_silent a Neither env = refl

  pub unary-silent : (o : UnaryOperator) (e : Known) → Silent (unary_row o span e)
  unary-silent unary.AddressOf e env = refl
  unary-silent unary.Dereference e env = target_silent (value e) (sort_of (value e)) env
  unary-silent unary.Not e env = not_silent (value e) (sort_of (value e)) env
  unary-silent unary.Plus e env = signed_silent unary.Plus (value e) (sort_of (value e)) env
  unary-silent unary.Minus e env = signed_silent unary.Minus (value e) (sort_of (value e)) env
  unary-silent unary.Complement e env = signed_silent unary.Complement (value e) (sort_of (value e)) env

  compound_silent : (o : AssignOperator) (a b : Known) (x y : Sort) → Silent (compound_row o span a b x y)
  compound_silent o a b (Integer s) (Integer t) env = refl
  compound_silent o a b (Points u) (Integer t) env = refl
  compound_silent o a b _ _ env = refl

  pub assign-silent : (o : Option AssignOperator) (a b : Known) → Silent (assign_row o span a b)
  assign-silent None a b env = refl
  assign-silent (Some o) a b env = compound_silent o a (value b) (sort_of a) (sort_of (value b)) env

  pub step-silent : (s : Step) (e : Known) (x : Sort) → Silent (step_row s span e x)
  step-silent s e (Integer t) env = refl
  step-silent s e (Points t) env = refl
  step-silent s e Neither env = refl

  void_silent : (c a b : Known) (x y : Bool) → Silent (arms_of_void span c a b x y)
  void_silent c a b true true env = refl
  void_silent c a b _ _ env = refl

  arms_silent : (c a b : Known) (x y : Sort) → Silent (arms span c a b x y)
  arms_silent c a b (Integer s) (Integer t) env = refl
  arms_silent c a b (Points u) (Points w) env = refl
  arms_silent c a b (Points u) (Integer t) env = refl
  arms_silent c a b (Integer s) (Points w) env = refl
  arms_silent c a b _ _ env = void_silent c a b (is_void a.tree.ty) (is_void b.tree.ty) env

  cond_silent : (c a b : Known) (x : Sort) → Silent (cond_row span c a b x)
  cond_silent c a b Neither env = refl
  cond_silent c a b _ env = arms_silent c a b (sort_of a) (sort_of b) env

  pub cond-silent : (c a b : Known) → Silent (cond_judged span c a b)
  cond-silent c a b env = cond_silent c a b (sort_of c) env

  pub index-silent : (a i : Known) (x y : Sort) → Silent (index_row span a i x y)
  index-silent a i (Points t) (Integer s) env = refl
  index-silent a i (Integer s) (Points t) env = refl
  index-silent a i _ _ env = refl

  found_silent : (e : Known) (k : Option ℕ) (m : Option MemberInfo) → Silent (member_found span e k m)
  found_silent e (Some k) (Some m) env = refl
  found_silent e _ _ env = refl

  in_silent : (e : Known) (b : Bool) (ms : List MemberInfo) (name : List ℕ) → Silent (member_in span e b ms name)
  in_silent e false ms name env = refl
  in_silent e true ms name env = found_silent e _ _ env

  pub member-silent : (e : Known) (name : List ℕ) (o : Option ℕ) → Silent (member_row span e name o)
  member-silent e name None env = refl
  member-silent e name (Some number) env = in_silent e _ _ name env

  arrow_found_silent : (e : Known) (k : Option ℕ) (m : Option MemberInfo) → Silent (arrow_found span e k m)
  arrow_found_silent e (Some k) (Some m) env = refl
  arrow_found_silent e _ _ env = refl

  arrow_in_silent : (e : Known) (b : Bool) (ms : List MemberInfo) (name : List ℕ) → Silent (arrow_in span e b ms name)
  arrow_in_silent e false ms name env = refl
  arrow_in_silent e true ms name env = arrow_found_silent e _ _ env

  pub arrow-silent : (e : Known) (name : List ℕ) (o : Option ℕ) → Silent (arrow_row span e name o)
  arrow-silent e name None env = refl
  arrow-silent e name (Some number) env = arrow_in_silent e _ _ name env

  -- ---- names and types

  pub name-silent : (o : Option Meaning) → Silent (name_row span o)
  name-silent None env = refl
  name-silent (Some (means.Object place (Some t))) env = refl
  name-silent (Some (means.Object place None)) env = refl
  name-silent (Some (means.Function callee signature)) env = refl
  name-silent (Some means.Eof) env = refl

  pub pointer-silent : (w : Written) → Silent (pointer_to span w)
  pointer-silent (Open t) env = refl
  pointer-silent (Whole t) env = refl

  pub array-silent : (n : Option ℕ) (w : Written) → Silent (array_of span n w)
  array-silent n (Open t) env = refl
  array-silent None (Whole t) env = refl
  array-silent (Some n) (Whole t) env = refl

  pub tag-silent : (next : ℕ) (o : Option ℕ) → Silent (tag_of span next o)
  tag-silent next None env = refl
  tag-silent next (Some number) env = refl

  pub whole-silent : (w : Written) → Silent (whole span w)
  whole-silent (Whole t) env = refl
  whole-silent (Open t) env = refl
