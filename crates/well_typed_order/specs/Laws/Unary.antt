-- Unary operators, casts, assignments, steps and choices keep expressions in order.
use Rattle.std.proofs.Common.{◌⊎◌, inl, inr, ◌≡◌, refl, sym, ◌∙◌, ap, subst, ℕ, Bool, true, false, ◌&&◌, ◌||◌, List, [], ◌∷◌, Option}
use Rattle.std.proofs.Common.{Some, None}
use Rattle.std.specs.Prelude.{if◌then◌else◌, ◌%◌, ◌^◌}
use Rattle.c_ast.specs.declared.token.Span.{Span}
use Rattle.c_ast.specs.declared.int_type.IntType.TheVariants as int
use Rattle.c_ast.specs.declared.operator.UnaryOperator.{UnaryOperator}
use Rattle.c_ast.specs.declared.operator.UnaryOperator.TheVariants as unary
use Rattle.c_ast.specs.declared.operator.AssignOperator.{AssignOperator}
use Rattle.c_ast.specs.declared.operator.AssignOperator.TheVariants as assign
use Rattle.c_ast.specs.declared.operator.Step.{Step}
use Rattle.c_type_base.specs.Laws.Opened.{given_types, given_typed}
use Rattle.c_type_base.specs.declared.ty.Ty.{Ty, out-Ty}
use Rattle.c_type_base.specs.declared.ty.Ty.TheVariants as ty
use Rattle.c_type_base.specs.declared.ty.Ty.TheOpen.{Ty-F}
use Rattle.c_type_base.specs.declared.expr.TNode.{out-TNode}
use Rattle.c_type_base.specs.declared.expr.TNode.TheVariants as node
use Rattle.c_type_base.specs.declared.expr.TNode.TheOpen.{TNode-F}
use Rattle.c_type_base.specs.declared.typed.StructInfo.{StructInfo}
use Rattle.c_type_base.specs.declared.known.Constancy.{Constancy}
use Rattle.c_type_base.specs.declared.known.Constancy.TheVariants.{Varies, Is}
use Rattle.c_type_base.specs.declared.known.Known.{Known}
use Rattle.c_type_base.specs.Conversions.{promoted, usual}
use Rattle.c_type_base.specs.Known.{converted, is_null, is_value, value, assignable, is_changeable}
use Rattle.c_type_base.specs.Laws.SizeLaws.{complete-void}
use Rattle.c_type_base.specs.Sizes.{size, is_complete}
use Rattle.c_type_base.specs.Types.{TyLayer, same_type, is_there, int_of, int_of_level, element_of_level, struct_of_level}
use Rattle.c_type_base.specs.Types.{is_void, is_void_level, is_integer, is_pointer, is_array, is_struct, is_scalar}
use Rattle.c_type_base.specs.declared.ty.Ty.{roll-Ty, roll-out-Ty}
use Rattle.c_type_expr.specs.Environment.{Env}
use Rattle.c_type_expr.specs.Expressions.{address_known, address_row, target_row, unary_row, castable, cast_fixed, cast_known, cast_row}
use Rattle.c_type_expr.specs.Expressions.{assigned}
use Rattle.c_type_expr.specs.Expressions.{simple_row}
use Rattle.c_type_expr.specs.Expressions.{binary_of, right_type, moves, compound_row, assign_row, stepped, step_row, size_known}
use Rattle.c_type_expr.specs.Expressions.{sizeof_row}
use Rattle.c_type_expr.specs.Expressions.{sizeof_type}
use Rattle.c_type_expr.specs.Faults.{Rule, rule, broken, all_kept}
use Rattle.c_type_expr.specs.Operators.{Sort, Integer, Points, Neither, sort_of, converted_as, complete_target, signed_known}
use Rattle.c_type_expr.specs.Operators.{signed_row, denied, not_row, with_arms, arms_of_void}
use Rattle.c_type_expr.specs.Operators.{arms, cond_row, cond_judged}
use Rattle.block_meaning.specs.ExpressionsInOrder as order
use Rattle.block_meaning.specs.ExpressionsInOrder.{Scope, HasValue, Designates, Converts, CompoundTypes, is_sign}
use Rattle.well_typed_order.specs.Standing.{There, FixedIn, KnownIn, ValueIn}
use Rattle.well_typed_order.specs.Laws.Binary.{Keeps, never-kept, kept-first, kept-rest, sort-integer, sort-pointer, sort-target}
use Rattle.well_typed_order.specs.Laws.Binary.{int-integer}
use Rattle.well_typed_order.specs.Laws.Binary.{one-pointer}
use Rattle.well_typed_order.specs.Laws.Binary.{integer-scalar, pointer-scalar}
use Rattle.well_typed_order.specs.Laws.Known.{known_by, valued, int-plain, pointer-plain, Into}
use Rattle.well_typed_order.specs.Laws.Known.{converted-in, value-in}
use Rattle.well_typed_order.specs.Laws.Known.{null-integer}
use Rattle.well_typed_order.specs.Laws.Known.{assignable-in, wrapped-integer}
use Rattle.well_typed_order.specs.Laws.Types.{and_first, and_second}

-- ---- what is complete is not void

void_level : (structs : List StructInfo) (l : TyLayer) → is_complete structs (roll-Ty l) ≡ true → is_void_level l ≡ false
unfolding given_types
void_level structs Ty-F.Void is = let no : false ≡ true = sym (complete-void structs) ∙ is in absurd cc
void_level structs (Ty-F.Int i) is = refl
void_level structs (Ty-F.Pointer t) is = refl
void_level structs (Ty-F.Array t n) is = refl
void_level structs (Ty-F.Struct n) is = refl

pub complete-object : (structs : List StructInfo) (t : Ty) → is_complete structs t ≡ true → is_void t ≡ false
complete-object structs t is =
    void_level structs (out-Ty t) (ap (is_complete structs) (roll-out-Ty t) ∙ is)

-- ---- what designates an object

or_first : (a b : Bool) → a ≡ true → (a || b) ≡ true
or_first true b is = refl
or_first false b is = absurd cc

lvalue_in : {s : Scope} (k : Known) → k.lvalue ≡ true → k.constant ≡ Varies → FixedIn s k.fixed →
    Designates s k.tree.ty (out-TNode k.tree.node) → is_void k.tree.ty ≡ false → KnownIn s k
lvalue_in k lvalue varies fixed place object = record {
  place = λ is. place;
  gives = λ is its. let no : true ≡ false = sym lvalue ∙ is in absurd cc;
  object = λ is. object;
  integer = λ n is. let no : ◌≡◌ {A = Constancy} Varies (Is n) = sym varies ∙ is in absurd cc;
  fixed = fixed;
}

pub lvalue-in : {s : Scope} (k : Known) → k.lvalue ≡ true → k.constant ≡ Varies → FixedIn s k.fixed →
    Designates s k.tree.ty (out-TNode k.tree.node) → is_void k.tree.ty ≡ false → KnownIn s k
lvalue-in = lvalue_in

place_of : {s : Scope} (k : Known) → KnownIn s k → k.lvalue ≡ true → Designates s k.tree.ty (out-TNode k.tree.node)
place_of k known lvalue = known.place (or_first k.lvalue (is_array k.tree.ty || is_struct k.tree.ty) lvalue)

pub place-of : {s : Scope} (k : Known) → KnownIn s k → k.lvalue ≡ true → Designates s k.tree.ty (out-TNode k.tree.node)
place-of = place_of

pointer_type_plain : (t : Ty) → (is_array (ty.Pointer t) || is_struct (ty.Pointer t)) ≡ false
unfolding given_types
pointer_type_plain t = refl

-- ---- unary operators

address_in : {s : Scope} (span : Span) (e : Known) (env : Env) → KnownIn s e → Keeps s (address_row span e env)
unfolding given_typed
address_in span e env known kept =
    valued (address_known span e) refl known.fixed (order.address (place_of e known (kept-first span 11 e.lvalue [] kept)))
    (pointer_type_plain e.tree.ty) (λ n is. absurd cc)

target_in : {s : Scope} (span : Span) (e : Known) (env : Env) → ValueIn s e → (x : Sort) → sort_of e ≡ x →
    Keeps s (target_row span e x env)
unfolding given_typed
target_in span e env of_e (Points t) is kept =
    lvalue_in _ refl refl tt (order.target of_e.has (sort-target e t is))
    (complete-object env.structs t (kept-first span 15 (is_complete env.structs t) [] kept))
target_in span e env of_e _ is kept = absurd cc

signed_in : {s : Scope} (o : UnaryOperator) → is_sign o ≡ true → (span : Span) (a : Known) (env : Env) → ValueIn s a → (x : Sort) →
    sort_of a ≡ x → Keeps s (signed_row o span a x env)
unfolding given_typed
signed_in {s = s} o sign span a env of_a (Integer i) is kept =
    let x = converted-in a (ty.Int (promoted i)) of_a (order.integers (sort-integer a i is) (int-integer (promoted i))) in
    let k = signed_known o span (promoted i) a in
    known_by k refl
    (subst (λ t. HasValue s t (TNode-F.Unary o (converted (ty.Int (promoted i)) a).tree)) x.is
    (order.signed sign x.value.has (ap is_integer x.is ∙ int-integer (promoted i))))
    (int-plain (promoted i)) (λ n c. int-integer (promoted i))
signed_in o sign span a env of_a _ is kept = absurd cc

denied_in : {s : Scope} (span : Span) (a : Known) (c : Constancy) → ValueIn s a → is_scalar a.tree.ty ≡ true → KnownIn s (denied span a c)
unfolding given_typed
denied_in span a c of_a is = known_by (denied span a c) refl (order.denied of_a.has is) (int-plain int.Int) (λ n c. int-integer int.Int)

not_in : {s : Scope} (span : Span) (a : Known) (env : Env) → ValueIn s a → (x : Sort) → sort_of a ≡ x → Keeps s (not_row span a x env)
not_in span a env of_a (Integer i) is kept = denied_in span a _ of_a (integer-scalar a.tree.ty (sort-integer a i is))
not_in span a env of_a (Points u) is kept = denied_in span a _ of_a (pointer-scalar a.tree.ty (sort-pointer a u is))
not_in span a env of_a Neither is kept = absurd cc

pub unary-in : {s : Scope} (o : UnaryOperator) (span : Span) (e : Known) (env : Env) → KnownIn s e → Keeps s (unary_row o span e env)
unary-in unary.AddressOf span e env known = address_in span e env known
unary-in unary.Dereference span e env known = target_in span (value e) env (value-in e known) _ refl
unary-in unary.Not span e env known = not_in span (value e) env (value-in e known) _ refl
unary-in unary.Plus span e env known = signed_in unary.Plus refl span (value e) env (value-in e known) _ refl
unary-in unary.Minus span e env known = signed_in unary.Minus refl span (value e) env (value-in e known) _ refl
unary-in unary.Complement span e env known = signed_in unary.Complement refl span (value e) env (value-in e known) _ refl

-- ---- casts

cast_types : (k : Known) (t : Ty) (a b c d e f : Bool) → is_void t ≡ a → is_integer t ≡ b → is_integer k.tree.ty ≡ c → is_pointer t ≡ d →
    is_pointer k.tree.ty ≡ e → is_null k ≡ f → (is_null k ≡ true → is_integer k.tree.ty ≡ true) →
    (a || (b && c) || (d && (e || f))) ≡ true →
    (is_void t ≡ true) ⊎ Converts k.tree.ty t
cast_types k t true b c d e f is_a is_b is_c is_d is_e is_f null cast = inl is_a
cast_types k t false true true d e f is_a is_b is_c is_d is_e is_f null cast = inr (order.integers is_c is_b)
cast_types k t false true false true true f is_a is_b is_c is_d is_e is_f null cast = inr (order.pointers is_e is_d)
cast_types k t false true false true false true is_a is_b is_c is_d is_e is_f null cast = inr (order.null_constant (null is_f) is_d)
cast_types k t false true false true false false is_a is_b is_c is_d is_e is_f null cast = absurd cc
cast_types k t false true false false e f is_a is_b is_c is_d is_e is_f null cast = absurd cc
cast_types k t false false c true true f is_a is_b is_c is_d is_e is_f null cast = inr (order.pointers is_e is_d)
cast_types k t false false c true false true is_a is_b is_c is_d is_e is_f null cast = inr (order.null_constant (null is_f) is_d)
cast_types k t false false c true false false is_a is_b is_c is_d is_e is_f null cast = absurd cc
cast_types k t false false c false e f is_a is_b is_c is_d is_e is_f null cast = absurd cc

void_plain : (l : TyLayer) → is_void_level l ≡ true → (is_there (element_of_level l) || is_there (struct_of_level l)) ≡ false
void_plain Ty-F.Void is = refl
void_plain _ is = absurd cc

converts_plain : {s t : Ty} → Converts s t → (is_array t || is_struct t) ≡ false
converts_plain {t = t} (order.integers is its) = integer_plain (out-Ty t) its
  where
    integer_plain : (l : TyLayer) → is_there (int_of_level l) ≡ true →
        (is_there (element_of_level l) || is_there (struct_of_level l)) ≡ false
    integer_plain (Ty-F.Int i) is = refl
    integer_plain _ is = absurd cc
converts_plain {t = t} (order.pointers is its) = pointer-plain t its
converts_plain {t = t} (order.null_constant is its) = pointer-plain t its

cast_fixed_in : (s : Scope) (t : Ty) (k : Known) → FixedIn s k.fixed → FixedIn s (cast_fixed t k)
cast_fixed_in s t k fixed = by_kind (is_pointer t) (is_null k)
  where
    by_kind : (a b : Bool) → FixedIn s (if a then (if b then Some (record { target = None; offset = 0 }) else k.fixed) else None)
    by_kind true true = tt
    by_kind true false = fixed
    by_kind false b = tt

cast_by : {s : Scope} (span : Span) (t : Ty) (k : Known) → ValueIn s k → (is_void t ≡ true) ⊎ Converts k.tree.ty t →
    KnownIn s (cast_known span t k)
unfolding given_typed
cast_by {s = s} span t k of_k (inl is) = valued (cast_known span t k) refl (cast_fixed_in s t k of_k.fixed) (order.cast_to_void
    of_k.has is) (void_plain (out-Ty t) is)
    (λ n c. wrapped-integer (int_of t) k.constant n c)
cast_by {s = s} span t k of_k (inr types) = valued (cast_known span t k) refl (cast_fixed_in s t k of_k.fixed) (order.cast of_k.has
    types) (converts_plain types)
    (λ n c. wrapped-integer (int_of t) k.constant n c)

pub cast-in : {s : Scope} (span : Span) (t : Ty) (k : Known) (env : Env) → ValueIn s k → Keeps s (cast_row span t k env)
cast-in span t k env of_k kept = cast_by span t k of_k
    (cast_types k t _ _ _ _ _ _ refl refl refl refl refl refl (null-integer k of_k) (kept-first span 12 (castable t k) [] kept))

-- ---- `sizeof`

size_in : {s : Scope} (span : Span) (e : Known) (n : ℕ) → KnownIn s (size_known span (node.SizeofExpr e.tree) n)
unfolding given_typed
size_in span e n =
    known_by (size_known span (node.SizeofExpr e.tree) n) refl order.size_of (int-plain int.ULong) (λ m c. int-integer int.ULong)

size_name_in : {s : Scope} (span : Span) (t : Ty) (n : ℕ) → KnownIn s (size_known span (node.SizeofName t) n)
unfolding given_typed
size_name_in span t n =
    known_by (size_known span (node.SizeofName t) n) refl order.size_of_type (int-plain int.ULong) (λ m c. int-integer int.ULong)

rule_kept : (span : Span) (n : ℕ) (b : Bool) (rules : List Rule) → (broken span rules ≡ [] → all_kept rules ≡ true) →
    broken span (rule n b ∷ rules) ≡ [] → (b && all_kept rules) ≡ true
rule_kept span n true rules rest kept = rest kept
rule_kept span n false rules rest kept = absurd cc

pub each-kept : (span : Span) (rules : List Rule) → broken span rules ≡ [] → all_kept rules ≡ true
each-kept span [] kept = refl
each-kept span (r ∷ rules) kept = rule_kept span r.number r.kept rules (each-kept span rules) kept

-- where its rules are kept
pub if-kept : {A : Type 0} (P : A → Type 0) (span : Span) (rules : List Rule) (k : A) → broken span rules ≡ [] → P k →
    There (if all_kept rules then Some k else None) P
if-kept P span rules k kept holds =
    subst (λ b. There (if b then Some k else None) P) (sym (each-kept span rules kept)) holds

pub sizeof-in : (s : Scope) (span : Span) (e : Known) (env : Env) → Keeps s (sizeof_row span e env)
sizeof-in s span e env kept =
    let bytes = size env.structs e.tree.ty % 2 ^ 64 in
    if-kept (KnownIn s) span (rule 12 (is_value e) ∷ rule 15 (is_complete env.structs e.tree.ty) ∷ [])
    (size_known span (node.SizeofExpr e.tree) bytes) kept (size_in span e bytes)

pub sizeof-name-in : (s : Scope) (span : Span) (t : Ty) (env : Env) → Keeps s (sizeof_type span t env)
sizeof-name-in s span t env kept =
    let bytes = size env.structs t % 2 ^ 64 in
    if-kept (KnownIn s) span (rule 15 (is_complete env.structs t) ∷ []) (size_known span (node.SizeofName t) bytes) kept
    (size_name_in span t bytes)

-- ---- assignments

changeable_lvalue : (k : Known) → is_changeable k ≡ true → k.lvalue ≡ true
changeable_lvalue k is = and_first k.lvalue (if is_array k.tree.ty then false else true) is

changeable_no_array : (k : Known) → is_changeable k ≡ true → is_array k.tree.ty ≡ false
changeable_no_array k is = by_array (is_array k.tree.ty) refl (and_second k.lvalue (if is_array k.tree.ty then false else true) is)
  where
    by_array : (b : Bool) → is_array k.tree.ty ≡ b → (if b then false else true) ≡ true → is_array k.tree.ty ≡ false
    by_array true is its = absurd cc
    by_array false is its = is

-- an assignment has the value of its left side; of a struct it is that struct
assigned_in : {s : Scope} (span : Span) (a b : Known) → KnownIn s a → is_changeable a ≡ true → Into s a.tree.ty b →
    KnownIn s (assigned None span a b)
unfolding given_typed
assigned_in {s = s} span a b of_a changeable of_b = record {
  place = λ is. order.struct_assigned place of_b.value.has of_b.is (struct_there (is_array a.tree.ty) (is_struct a.tree.ty) no_array is);
  gives = λ is its. order.assigned place of_b.value.has of_b.is;
  object = λ is. absurd cc;
  integer = λ n is. absurd cc;
  fixed = tt;
}
  where
    place : Designates s a.tree.ty (out-TNode a.tree.node)
    place = place_of a of_a (changeable_lvalue a changeable)

    no_array : is_array a.tree.ty ≡ false
    no_array = changeable_no_array a changeable

    struct_there : (a b : Bool) → a ≡ false → (false || (a || b)) ≡ true → b ≡ true
    struct_there true b is its = absurd cc
    struct_there false b is its = its

simple_in : {s : Scope} (span : Span) (a b : Known) (env : Env) → KnownIn s a → ValueIn s b → Keeps s (simple_row span a b env)
simple_in span a b env of_a of_b kept =
    let changeable = kept-first span 11 (is_changeable a) (rule 12 (assignable a.tree.ty b) ∷ []) kept in
    let assigns = kept-first span 12 (assignable a.tree.ty b) []
    (kept-rest span 11 (is_changeable a) (rule 12 (assignable a.tree.ty b) ∷ []) kept) in
    assigned_in span a (converted_as a b) of_a changeable (assignable-in b a.tree.ty of_b assigns)

compound_known : {s : Scope} (o : AssignOperator) (span : Span) (a b : Known) → KnownIn s a → a.lvalue ≡ true → ValueIn s b →
    CompoundTypes o a.tree.ty b.tree.ty → (is_array a.tree.ty || is_struct a.tree.ty) ≡ false → KnownIn s (assigned (Some o) span a b)
unfolding given_typed
compound_known o span a b of_a lvalue of_b types plain =
    known_by (assigned (Some o) span a b) refl (order.compound (place_of a of_a lvalue) of_b.has types) plain (λ n c. absurd cc)

integer_plain : (l : TyLayer) → is_there (int_of_level l) ≡ true → (is_there (element_of_level l) || is_there (struct_of_level l)) ≡ false
integer_plain (Ty-F.Int i) is = refl
integer_plain _ is = absurd cc

moved_types : (o : AssignOperator) (s t : Ty) → moves o ≡ true → is_pointer s ≡ true → is_integer t ≡ true → CompoundTypes o s t
moved_types assign.Add s t is pointer integer = order.adds pointer integer
moved_types assign.Subtract s t is pointer integer = order.takes pointer integer
moved_types _ s t is pointer integer = absurd cc

compound_in : {s : Scope} (o : AssignOperator) (span : Span) (a b : Known) (env : Env) → KnownIn s a → ValueIn s b → (x y : Sort) →
    sort_of a ≡ x → sort_of b ≡ y → Keeps s (compound_row o span a b x y env)
compound_in o span a b env of_a of_b (Integer i) (Integer j) is its kept =
    let t = ty.Int (right_type (binary_of o) i j) in
    let y = converted-in b t of_b (order.integers (sort-integer b j its) (int-integer (right_type (binary_of o) i j))) in
    compound_known o span a (converted t b) of_a (changeable_lvalue a (kept-first span 11 (is_changeable a) [] kept)) y.value
    (order.computes (sort-integer a i is) (ap is_integer y.is ∙ int-integer (right_type (binary_of o) i j)))
    (integer_plain (out-Ty a.tree.ty) (sort-integer a i is))
compound_in o span a b env of_a of_b (Points u) (Integer j) is its kept =
    let rules = rule 12 (moves o) ∷ complete_target env.structs u ∷ [] in
    let moved = kept-first span 12 (moves o) (complete_target env.structs u ∷ []) (kept-rest span 11 (is_changeable a) rules kept) in
    compound_known o span a b of_a (changeable_lvalue a (kept-first span 11 (is_changeable a) rules kept)) of_b
    (moved_types o a.tree.ty b.tree.ty moved (sort-pointer a u is) (sort-integer b j its)) (pointer-plain a.tree.ty (sort-pointer a u is))
compound_in o span a b env of_a of_b (Points u) (Points w) is its kept = absurd (never-kept span 11 12 (is_changeable a) kept)
compound_in o span a b env of_a of_b (Points u) Neither is its kept = absurd (never-kept span 11 12 (is_changeable a) kept)
compound_in o span a b env of_a of_b (Integer i) (Points w) is its kept = absurd (never-kept span 11 12 (is_changeable a) kept)
compound_in o span a b env of_a of_b (Integer i) Neither is its kept = absurd (never-kept span 11 12 (is_changeable a) kept)
compound_in o span a b env of_a of_b Neither y is its kept = absurd (never-kept span 11 12 (is_changeable a) kept)

pub assign-in : {s : Scope} (o : Option AssignOperator) (span : Span) (a b : Known) (env : Env) → KnownIn s a → KnownIn s b →
    Keeps s (assign_row o span a b env)
assign-in None span a b env of_a of_b = simple_in span a (value b) env of_a (value-in b of_b)
assign-in (Some o) span a b env of_a of_b = compound_in o span a (value b) env of_a (value-in b of_b) _ _ refl refl

-- ---- `++` and `--`

stepped_in : {s : Scope} (o : Step) (span : Span) (e : Known) → KnownIn s e → e.lvalue ≡ true → is_scalar e.tree.ty ≡ true →
    (is_array e.tree.ty || is_struct e.tree.ty) ≡ false → KnownIn s (stepped o span e)
unfolding given_typed
stepped_in o span e of_e lvalue scalar plain =
    known_by (stepped o span e) refl (order.step (place_of e of_e lvalue) scalar) plain (λ n c. absurd cc)

pub step-in : {s : Scope} (o : Step) (span : Span) (e : Known) (env : Env) → KnownIn s e → (x : Sort) → sort_of e ≡ x →
    Keeps s (step_row o span e x env)
step-in o span e env of_e (Integer i) is kept =
    stepped_in o span e of_e (changeable_lvalue e (kept-first span 11 (is_changeable e) [] kept))
    (integer-scalar e.tree.ty (sort-integer e i is)) (integer_plain (out-Ty e.tree.ty) (sort-integer e i is))
step-in o span e env of_e (Points t) is kept =
    stepped_in o span e of_e (changeable_lvalue e (kept-first span 11 (is_changeable e) (complete_target env.structs t ∷ []) kept))
    (pointer-scalar e.tree.ty (sort-pointer e t is)) (pointer-plain e.tree.ty (sort-pointer e t is))
step-in o span e env of_e Neither is kept = absurd (never-kept span 11 12 (is_changeable e) kept)

-- ---- `c ? a : b`

arms_in : {s : Scope} (span : Span) (t : Ty) (c a b : Known) (n : Constancy) → ValueIn s c → is_scalar c.tree.ty ≡ true → Into s t a →
    Into s t b → (is_array t || is_struct t) ≡ false → ((m : ℕ) → n ≡ Is m → is_integer t ≡ true) → KnownIn s (with_arms span t c a b n)
unfolding given_typed
arms_in span t c a b n of_c scalar of_a of_b plain integer =
    known_by (with_arms span t c a b n) refl (order.chosen of_c.has scalar of_a.value.has of_a.is of_b.value.has of_b.is) plain integer

void_type : (l : TyLayer) → is_void_level l ≡ true → roll-Ty l ≡ ty.Void
unfolding given_types
void_type Ty-F.Void is = refl
void_type _ is = absurd cc

one_void : (t : Ty) → is_void t ≡ true → t ≡ ty.Void
one_void t is = sym (roll-out-Ty t) ∙ void_type (out-Ty t) is

nothing_plain : (is_array ty.Void || is_struct ty.Void) ≡ false
unfolding given_types
nothing_plain = refl

void_arms : {s : Scope} (span : Span) (c a b : Known) (env : Env) → ValueIn s c → is_scalar c.tree.ty ≡ true → ValueIn s a → ValueIn s b →
    (x y : Bool) → is_void a.tree.ty ≡ x → is_void b.tree.ty ≡ y → Keeps s (arms_of_void span c a b x y env)
void_arms span c a b env of_c scalar of_a of_b true true is its kept =
    arms_in span ty.Void c a b Varies of_c scalar (record { value = of_a; is = one_void a.tree.ty is })
    (record { value = of_b; is = one_void b.tree.ty its }) nothing_plain (λ m n. absurd cc)
void_arms span c a b env of_c scalar of_a of_b true false is its kept = absurd cc
void_arms span c a b env of_c scalar of_a of_b false y is its kept = absurd cc

arms_by : {s : Scope} (span : Span) (c a b : Known) (env : Env) → ValueIn s c → is_scalar c.tree.ty ≡ true → ValueIn s a → ValueIn s b →
    (x y : Sort) → sort_of a ≡ x → sort_of b ≡ y → Keeps s (arms span c a b x y env)
arms_by span c a b env of_c scalar of_a of_b (Integer i) (Integer j) is its kept =
    let t = ty.Int (usual i j) in
    arms_in span t c (converted t a) (converted t b) _ of_c scalar
    (converted-in a t of_a (order.integers (sort-integer a i is) (int-integer (usual i j))))
    (converted-in b t of_b (order.integers (sort-integer b j its) (int-integer (usual i j)))) (int-plain (usual i j))
    (λ m n. int-integer (usual i j))
arms_by span c a b env of_c scalar of_a of_b (Points u) (Points w) is its kept =
    let same = one-pointer a b u w is its (kept-first span 12 (same_type u w) [] kept) in
    arms_in span a.tree.ty c a b Varies of_c scalar (record { value = of_a; is = refl }) (record { value = of_b; is = sym same })
    (pointer-plain a.tree.ty (sort-pointer a u is)) (λ m n. absurd cc)
arms_by span c a b env of_c scalar of_a of_b (Points u) (Integer j) is its kept =
    arms_in span a.tree.ty c a (converted_as a b) Varies of_c scalar (record { value = of_a; is = refl })
    (converted-in b a.tree.ty of_b (order.null_constant (sort-integer b j its) (sort-pointer a u is)))
    (pointer-plain a.tree.ty (sort-pointer a u is)) (λ m n. absurd cc)
arms_by span c a b env of_c scalar of_a of_b (Integer i) (Points w) is its kept =
    arms_in span b.tree.ty c (converted_as b a) b Varies of_c scalar
    (converted-in a b.tree.ty of_a (order.null_constant (sort-integer a i is) (sort-pointer b w its)))
    (record { value = of_b; is = refl }) (pointer-plain b.tree.ty (sort-pointer b w its)) (λ m n. absurd cc)
arms_by span c a b env of_c scalar of_a of_b (Points u) Neither is its kept =
    void_arms span c a b env of_c scalar of_a of_b _ _ refl refl kept
arms_by span c a b env of_c scalar of_a of_b (Integer i) Neither is its kept =
    void_arms span c a b env of_c scalar of_a of_b _ _ refl refl kept
arms_by span c a b env of_c scalar of_a of_b Neither y is its kept =
    void_arms span c a b env of_c scalar of_a of_b _ _ refl refl kept

cond_by : {s : Scope} (span : Span) (c a b : Known) (env : Env) → ValueIn s c → ValueIn s a → ValueIn s b → (x : Sort) → sort_of c ≡ x →
    Keeps s (cond_row span c a b x env)
cond_by span c a b env of_c of_a of_b Neither is kept = absurd cc
cond_by span c a b env of_c of_a of_b (Integer i) is kept =
    arms_by span c a b env of_c (integer-scalar c.tree.ty (sort-integer c i is)) of_a of_b _ _ refl refl kept
cond_by span c a b env of_c of_a of_b (Points u) is kept =
    arms_by span c a b env of_c (pointer-scalar c.tree.ty (sort-pointer c u is)) of_a of_b _ _ refl refl kept

pub cond-in : {s : Scope} (span : Span) (c a b : Known) (env : Env) → ValueIn s c → ValueIn s a → ValueIn s b →
    Keeps s (cond_judged span c a b env)
cond-in span c a b env of_c of_a of_b = cond_by span c a b env of_c of_a of_b _ refl
