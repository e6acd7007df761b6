-- What the other rows make is covered where it is plain, one law a row (this project's own).
use Rattle.std.specs.Prelude.{◌≡◌, ℕ, Bool, true, false, List, [], ◌∷◌, Option, Some, None, refl, ◌%◌, ◌^◌}
use Rattle.std.specs.List.{AllByRecursion}
use Rattle.c_ast.specs.declared.int_type.IntType.TheVariants as int
use Rattle.c_ast.specs.declared.operator.AssignOperator.{AssignOperator}
use Rattle.c_ast.specs.declared.operator.Step.{Step}
use Rattle.c_ast.specs.declared.operator.UnaryOperator.{UnaryOperator}
use Rattle.c_ast.specs.declared.operator.UnaryOperator.TheVariants as unary
use Rattle.c_ast.specs.declared.token.Span.{Span}
use Rattle.c_type_base.specs.Known.{value, converted}
use Rattle.c_type_base.specs.Sizes.{size}
use Rattle.c_type_base.specs.Types.{is_pointer}
use Rattle.c_type_base.specs.declared.expr.Callee.{Callee}
use Rattle.c_type_base.specs.declared.expr.TNode.TheVariants as node
use Rattle.c_type_base.specs.declared.known.Known.{Known}
use Rattle.c_type_base.specs.declared.typed.MemberInfo.{MemberInfo}
use Rattle.c_type_base.specs.declared.ty.Ty.{Ty}
use Rattle.c_type_base.specs.declared.ty.Ty.TheVariants as ty
use Rattle.c_type_expr.specs.Expressions as checked
use Rattle.c_type_expr.specs.Expressions.{unary_row, target_row, cast_row, sizeof_row, sizeof_type, size_known, compound_row, assign_row}
use Rattle.c_type_expr.specs.Expressions.{step_row, right_type, index_of, arrow_of}
use Rattle.c_type_expr.specs.Operators.{Sort, Integer, Points, Neither, sort_of, converted_as}
use Rattle.c_type_expr.specs.Postfix.{index_row, member_row, member_in, member_found, member_number, member_at, arrow_row, arrow_in}
use Rattle.c_type_expr.specs.Postfix.{arrow_found, passed, call_row}
use Rattle.c_type_expr.specs.declared.scopes.Signature.{Signature}
use Rattle.block_meaning.specs.Operators.{int_in, binary_of, computing_type}
use Rattle.well_typed_order.specs.Laws.Binary.{sort-pointer}
use Rattle.code_follows.specs.Covered.{is_promoted}
use Rattle.well_typed_covered.specs.Always.{Always}
use Rattle.well_typed_covered.specs.Laws.Always.{if-kept}
use Rattle.well_typed_covered.specs.Laws.Known.{KnownCovers, value-covers, converted-covers, converted-type}
use Rattle.well_typed_covered.specs.Laws.Operators.{signed-always, not-always}
use Rattle.well_typed_covered.specs.Laws.Promoted.{or-first, combines-integers}
use Rattle.well_typed_covered.specs.Laws.Trees.{Covers, converted_leaves, unary-covers, assign-covers, cast-covers, sizeof-covers}
use Rattle.well_typed_covered.specs.Laws.Trees.{sizeof-name-covers, call-covers, index-covers, member-covers, arrow-covers, step-covers}

-- ---- unary operators

target_always : (span : Span) (k : Known) → KnownCovers k → (x : Sort) → Always KnownCovers (target_row span k x)
target_always span k known (Points t) = record { known = λ env. unary-covers span t unary.Dereference k.tree refl known }
target_always span k known _ = record { known = λ env. tt }

pub unary-always : (o : UnaryOperator) (span : Span) (k : Known) → KnownCovers k → Always KnownCovers (unary_row o span k)
unary-always unary.AddressOf span k known =
    record { known = λ env. unary-covers span (ty.Pointer k.tree.ty) unary.AddressOf k.tree refl known }
unary-always unary.Dereference span k known = target_always span (value k) (value-covers k known) (sort_of (value k))
unary-always unary.Not span k known = not-always span (value k) (value-covers k known) (sort_of (value k))
unary-always unary.Plus span k known = signed-always unary.Plus span (value k) (value-covers k known) (sort_of (value k))
unary-always unary.Minus span k known = signed-always unary.Minus span (value k) (value-covers k known) (sort_of (value k))
unary-always unary.Complement span k known = signed-always unary.Complement span (value k) (value-covers k known) (sort_of (value k))

-- ---- casts and sizes

pub cast-always : (span : Span) (t : Ty) (k : Known) → KnownCovers k → Always KnownCovers (cast_row span t k)
cast-always span t k known = record { known = λ env. cast-covers span t t k.tree known }

pub sizeof-always : (span : Span) (k : Known) → Always KnownCovers (sizeof_row span k)
sizeof-always span k = record {
  known = λ env. if-kept KnownCovers _ (size_known span (node.SizeofExpr k.tree) (size env.structs k.tree.ty % 2 ^ 64))
      (sizeof-covers span (ty.Int int.ULong) k.tree);
}

pub sizeof-type-always : (span : Span) (t : Ty) → Always KnownCovers (sizeof_type span t)
sizeof-type-always span t = record {
  known = λ env. if-kept KnownCovers _ (size_known span (node.SizeofName t) (size env.structs t % 2 ^ 64))
      (sizeof-name-covers span (ty.Int int.ULong) t);
}

-- ---- assignments

compound_always : (o : AssignOperator) (span : Span) (a b : Known) → KnownCovers a → KnownCovers b → (x y : Sort) → sort_of a ≡ x →
    Always KnownCovers (compound_row o span a b x y)
compound_always o span a b of_a of_b (Integer s) (Integer t) is = record {
  known = λ env.
      let u = ty.Int (right_type (checked.binary_of o) s t) in
      assign-covers span a.tree.ty (Some o) a.tree (converted u b).tree
      (combines-integers o s t a.tree.ty (converted u b).tree.ty (converted-type u b)) of_a (converted-covers u b of_b);
}
compound_always o span a b of_a of_b (Points u) (Integer t) is = record {
  known = λ env. assign-covers span a.tree.ty (Some o) a.tree b.tree
      (or-first (is_pointer a.tree.ty) (is_promoted (computing_type (binary_of o) (int_in a.tree.ty) (int_in b.tree.ty)))
      (sort-pointer a u is)) of_a of_b;
}
compound_always o span a b of_a of_b _ _ is = record { known = λ env. tt }

pub assign-always : (o : Option AssignOperator) (span : Span) (a b : Known) → KnownCovers a → KnownCovers b →
    Always KnownCovers (assign_row o span a b)
assign-always None span a b of_a of_b = record {
  known = λ env. assign-covers span a.tree.ty None a.tree (converted_as a (value b)).tree refl of_a
      (converted-covers a.tree.ty (value b) (value-covers b of_b));
}
assign-always (Some o) span a b of_a of_b =
    compound_always o span a (value b) of_a (value-covers b of_b) (sort_of a) (sort_of (value b)) refl

pub step-always : (o : Step) (span : Span) (k : Known) → KnownCovers k → (x : Sort) → Always KnownCovers (step_row o span k x)
step-always o span k known (Integer t) = record { known = λ env. step-covers span k.tree.ty o k.tree known }
step-always o span k known (Points t) = record { known = λ env. step-covers span k.tree.ty o k.tree known }
step-always o span k known Neither = record { known = λ env. tt }

-- ---- elements and members

index_always : (span : Span) (a i : Known) → KnownCovers a → KnownCovers i → (x y : Sort) → Always KnownCovers (index_row span a i x y)
index_always span a i of_a of_i (Points t) (Integer s) = record { known = λ env. index-covers span t a.tree i.tree of_a of_i }
index_always span a i of_a of_i (Integer s) (Points t) = record { known = λ env. index-covers span t a.tree i.tree of_a of_i }
index_always span a i of_a of_i _ _ = record { known = λ env. tt }

pub index-always : (span : Span) (a i : Known) → KnownCovers a → KnownCovers i → Always KnownCovers (index_of span a i)
index-always span a i of_a of_i = index_always span (value a) (value i) (value-covers a of_a) (value-covers i of_i)
    (sort_of (value a)) (sort_of (value i))

member_found_always : (span : Span) (k : Known) (number : Option ℕ) (m : Option MemberInfo) →
    Always KnownCovers (member_found span k number m)
member_found_always span k (Some n) (Some m) = record { known = λ env. member-covers span m.ty k.tree n }
member_found_always span k _ _ = record { known = λ env. tt }

member_in_always : (span : Span) (k : Known) (complete : Bool) (ms : List MemberInfo) (name : List ℕ) →
    Always KnownCovers (member_in span k complete ms name)
member_in_always span k false ms name = record { known = λ env. tt }
member_in_always span k true ms name = member_found_always span k (member_number ms name) (member_at ms (member_number ms name))

pub member-always : (span : Span) (k : Known) (name : List ℕ) (o : Option ℕ) → Always KnownCovers (member_row span k name o)
member-always span k name None = record { known = λ env. tt }
member-always span k name (Some number) = record { known = λ env. (member_in_always span k _ _ name).known env }

arrow_found_always : (span : Span) (k : Known) (number : Option ℕ) (m : Option MemberInfo) →
    Always KnownCovers (arrow_found span k number m)
arrow_found_always span k (Some n) (Some m) = record { known = λ env. arrow-covers span m.ty k.tree n }
arrow_found_always span k _ _ = record { known = λ env. tt }

arrow_in_always : (span : Span) (k : Known) (complete : Bool) (ms : List MemberInfo) (name : List ℕ) →
    Always KnownCovers (arrow_in span k complete ms name)
arrow_in_always span k false ms name = record { known = λ env. tt }
arrow_in_always span k true ms name = arrow_found_always span k (member_number ms name) (member_at ms (member_number ms name))

pub arrow-always : (span : Span) (k : Known) (name : List ℕ) (o : Option ℕ) → Always KnownCovers (arrow_row span k name o)
arrow-always span k name None = record { known = λ env. tt }
arrow-always span k name (Some number) = record { known = λ env. (arrow_in_always span k _ _ name).known env }

-- ---- calls

passed_covers : (ts : List Ty) (ks : List Known) → AllByRecursion KnownCovers ks → AllByRecursion (Covers converted_leaves) (passed ts ks)
passed_covers [] ks all = tt
passed_covers (t ∷ ts) [] all = tt
passed_covers (t ∷ ts) (k ∷ ks) all = (converted-covers t k all.0, passed_covers ts ks all.1)

pub call-always : (span : Span) (f : Callee) (o : Option Signature) (ks : List Known) → AllByRecursion KnownCovers ks →
    Always KnownCovers (call_row span f o ks)
call-always span f None ks all = record { known = λ env. tt }
call-always span f (Some s) ks all =
    record { known = λ env. call-covers span s.result f (passed s.params ks) (passed_covers s.params ks all) }
