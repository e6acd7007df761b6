-- Elements, members and calls keep expressions in order.
use Rattle.std.proofs.Common.{◌≡◌, refl, sym, ◌∙◌, ap, subst, ℕ, Bool, true, false, ◌&&◌, ◌||◌, List, [], ◌∷◌, length, Option, Some, None}
use Rattle.std.proofs.Common.{nat_eq, slice_get, arith}
use Rattle.std.specs.Prelude.{if◌then◌else◌}
use Rattle.std.specs.List.{AllByRecursion}
use Rattle.std.proofs.lemmas.Bool.{eqb-true}
use Rattle.c_ast.specs.declared.token.Span.{Span}
use Rattle.c_type_base.specs.Laws.Opened.{given_typed}
use Rattle.c_type_base.specs.Laws.SizeLaws.{complete-struct}
use Rattle.c_type_base.specs.declared.ty.Ty.{Ty, out-Ty}
use Rattle.c_type_base.specs.declared.ty.Ty.TheVariants as ty
use Rattle.c_type_base.specs.declared.expr.TNode.{TNode, out-TNode, out-roll-TNode}
use Rattle.c_type_base.specs.declared.expr.TNode.TheVariants as node
use Rattle.c_type_base.specs.declared.expr.TNode.TheOpen.{TNode-F}
use Rattle.c_type_base.specs.declared.expr.Callee.{Callee}
use Rattle.c_type_base.specs.declared.typed.MemberInfo.{MemberInfo}
use Rattle.c_type_base.specs.declared.known.Fixed.{Fixed}
use Rattle.c_type_base.specs.declared.known.Known.{Known}
use Rattle.c_type_base.specs.Constants.{forward, moved}
use Rattle.c_type_base.specs.Known.{converted, assignable}
use Rattle.c_type_base.specs.Layout.{members_of}
use Rattle.c_type_base.specs.Sizes.{size, is_complete}
use Rattle.c_type_base.specs.Types.{is_void, is_array, is_struct, target_of, struct_of}
use Rattle.c_type_base.specs.Types.{TyLayer, is_there, int_of_level, target_of_level, element_of_level, struct_of_level, is_void_level}
use Rattle.c_type_base.specs.declared.ty.Ty.TheOpen.{Ty-F}
use Rattle.c_type_expr.specs.declared.scopes.Signature.{Signature}
use Rattle.c_type_expr.specs.Environment.{Env}
use Rattle.c_type_expr.specs.Faults.{rule}
use Rattle.c_type_expr.specs.Operators.{Sort, Integer, Points, sort_of}
use Rattle.c_type_expr.specs.Postfix.{index_fixed_by, element, index_row, member_fixed, member_number, member_at, member_known}
use Rattle.c_type_expr.specs.Postfix.{member_found, member_in, member_row}
use Rattle.c_type_expr.specs.Postfix.{arrow_known, arrow_found, arrow_in, struct_pointed, arrow_row, passed, all_assignable, all_values}
use Rattle.c_type_expr.specs.Postfix.{call_made}
use Rattle.c_type_expr.specs.Postfix.{call_known}
use Rattle.block_meaning.specs.ExpressionsInOrder as order
use Rattle.block_meaning.specs.ExpressionsInOrder.{Scope, HasValue, Designates, HasMember, Arguments, Callable}
use Rattle.well_typed_order.specs.Standing.{FixedIn, KnownIn, ValueIn, TableIn}
use Rattle.well_typed_order.specs.Laws.Binary.{Keeps, moved-fixed, kept-first, kept-rest, sort-integer, sort-target}
use Rattle.well_typed_order.specs.Laws.Known.{known_by, assignable-in}
use Rattle.well_typed_order.specs.Laws.Types.{and_first, and_second}
use Rattle.well_typed_order.specs.Laws.Unary.{lvalue-in, complete-object}

-- ---- elements

index_fixed_in : (s : Scope) (bytes : ℕ) (p i : Known) → FixedIn s p.fixed → FixedIn s (index_fixed_by bytes p i)
index_fixed_in s bytes p i fixed = by_path p.path
  where
    by_path : (b : Bool) → FixedIn s (if b then moved forward bytes p.fixed i.constant else None)
    by_path true = moved-fixed s forward bytes p.fixed i.constant fixed
    by_path false = tt

element_in : {s : Scope} (span : Span) (n : TNode) (p i : Known) (t : Ty) (env : Env) → FixedIn s p.fixed → Designates s t (out-TNode n) →
    Keeps s (element span n p i t env)
element_in {s = s} span n p i t env fixed place kept =
    lvalue-in _ refl refl (index_fixed_in s (size env.structs t) p i fixed) place (complete-object env.structs t (kept-first span 15
    (is_complete env.structs t) [] kept))

pub index-in : {s : Scope} (span : Span) (a i : Known) (env : Env) → ValueIn s a → ValueIn s i → (x y : Sort) → sort_of a ≡ x →
    sort_of i ≡ y → Keeps s (index_row span a i x y env)
unfolding given_typed
index-in span a i env of_a of_i (Points t) (Integer j) is its kept = element_in span (node.Index a.tree i.tree) a i t env of_a.fixed
    (order.element of_a.has (sort-target a t is) of_i.has (sort-integer i j its)) kept
index-in span a i env of_a of_i (Integer j) (Points t) is its kept = element_in span (node.Index a.tree i.tree) i a t env of_i.fixed
    (order.element_of_second of_a.has (sort-integer a j is) of_i.has (sort-target i t its)) kept
index-in span a i env of_a of_i _ _ is its kept = absurd cc

-- ---- members

has_member : {env : Env} {s : Scope} → TableIn env s → (t : Ty) (number k : ℕ) (m : MemberInfo) → struct_of t ≡ Some number →
    is_complete env.structs (ty.Struct number) ≡ true → slice_get (members_of (slice_get env.structs number)) k ≡ Some m → HasMember s t k m
has_member {env = env} table t number k m is complete there = record {
  number = number;
  is_struct = is;
  member = ap (λ o. slice_get (members_of o) k) (table.extends number (sym (complete-struct env.structs number) ∙ complete)) ∙ there;
}

readable_level : (l : TyLayer) → is_void_level l ≡ false → is_there (element_of_level l) ≡ false →
    ((is_there (int_of_level l) || is_there (target_of_level l)) || is_there (struct_of_level l)) ≡ true
readable_level Ty-F.Void is its = absurd cc
readable_level (Ty-F.Array t n) is its = absurd cc
readable_level (Ty-F.Int t) is its = refl
readable_level (Ty-F.Pointer t) is its = refl
readable_level (Ty-F.Struct n) is its = refl

struct_no_integer : (l : TyLayer) → is_there (struct_of_level l) ≡ true → is_there (int_of_level l) ≡ true → ⊥
struct_no_integer (Ty-F.Struct n) is its = absurd cc
struct_no_integer _ is its = absurd cc

or_third : (a b c : Bool) → c ≡ true → (a || (b || c)) ≡ true
or_third true b c is = refl
or_third false true c is = refl
or_third false false c is = is

struct_level : (l : TyLayer) (number : ℕ) → struct_of_level l ≡ Some number → is_there (struct_of_level l) ≡ true
struct_level (Ty-F.Struct n) number is = refl
struct_level _ number is = absurd cc

member_fixed_in : (s : Scope) (m : MemberInfo) (b : Bool) (o : Option Fixed) → FixedIn s o →
    FixedIn s (if b then member_fixed m o else None)
member_fixed_in s m true None fixed = tt
member_fixed_in s m true (Some f) fixed = fixed
member_fixed_in s m false o fixed = tt

member_of : {s : Scope} (span : Span) (e : Known) (k : ℕ) (m : MemberInfo) → KnownIn s e → is_struct e.tree.ty ≡ true →
    HasMember s e.tree.ty k m → is_void m.ty ≡ false → KnownIn s (member_known span e k m)
unfolding given_typed
member_of {s = s} span e k m of_e a_struct has object =
    let place = of_e.place (or_third e.lvalue (is_array e.tree.ty) (is_struct e.tree.ty) a_struct) in record {
      place = λ is. order.member place has;
      gives = λ is plain. order.member_value place has (readable_level (out-Ty m.ty) object plain);
      object = λ is. object;
      integer = λ n is. absurd (struct_no_integer (out-Ty e.tree.ty) a_struct (of_e.integer n is));
      fixed = member_fixed_in s m e.path e.fixed of_e.fixed;
    }

found_in : {env : Env} {s : Scope} (table : TableIn env s) (span : Span) (e : Known) (number : ℕ) → KnownIn s e →
    struct_of e.tree.ty ≡ Some number → is_complete env.structs (ty.Struct number) ≡ true → (k : ℕ) (o : Option MemberInfo) →
    slice_get (members_of (slice_get env.structs number)) k ≡ o → Keeps s (member_found span e (Some k) o env)
found_in table span e number of_e is complete k None there kept = absurd cc
found_in table span e number of_e is complete k (Some m) there kept =
    let has = has_member table e.tree.ty number k m is complete there in
    member_of span e k m of_e (struct_level (out-Ty e.tree.ty) number is) has (table.objects has.number k m has.member)

named_in : {env : Env} {s : Scope} (table : TableIn env s) (span : Span) (e : Known) (number : ℕ) → KnownIn s e →
    struct_of e.tree.ty ≡ Some number → is_complete env.structs (ty.Struct number) ≡ true → (o : Option ℕ) →
    Keeps s (member_found span e o (member_at (members_of (slice_get env.structs number)) o) env)
named_in table span e number of_e is complete None kept = absurd cc
named_in table span e number of_e is complete (Some k) kept = found_in table span e number of_e is complete k _ refl kept

complete_in : {env : Env} {s : Scope} (table : TableIn env s) (span : Span) (e : Known) (name : List ℕ) (number : ℕ) → KnownIn s e →
    struct_of e.tree.ty ≡ Some number → (b : Bool) → is_complete env.structs (ty.Struct number) ≡ b →
    Keeps s (member_in span e b (members_of (slice_get env.structs number)) name env)
complete_in table span e name number of_e is false complete kept = absurd cc
complete_in {env = env} table span e name number of_e is true complete kept =
    named_in table span e number of_e is complete (member_number (members_of (slice_get env.structs number)) name) kept

pub member-in : {env : Env} {s : Scope} (table : TableIn env s) (span : Span) (e : Known) (name : List ℕ) → KnownIn s e → (o : Option ℕ) →
    struct_of e.tree.ty ≡ o → Keeps s (member_row span e name o env)
member-in table span e name of_e None is kept = absurd cc
member-in table span e name of_e (Some number) is kept = complete_in table span e name number of_e is _ refl kept

-- ---- members of what is pointed to

arrow_of : {s : Scope} (span : Span) (e : Known) (k : ℕ) (m : MemberInfo) (t : Ty) → ValueIn s e → target_of e.tree.ty ≡ Some t →
    HasMember s t k m → is_void m.ty ≡ false → KnownIn s (arrow_known span e k m)
unfolding given_typed
arrow_of span e k m t of_e is has object = lvalue-in (arrow_known span e k m) refl refl tt (order.arrow of_e.has is has) object

arrow_found_in : {env : Env} {s : Scope} (table : TableIn env s) (span : Span) (e : Known) (t : Ty) (number : ℕ) → ValueIn s e →
    target_of e.tree.ty ≡ Some t → struct_of t ≡ Some number → is_complete env.structs (ty.Struct number) ≡ true → (k : ℕ)
    (o : Option MemberInfo) → slice_get (members_of (slice_get env.structs number)) k ≡ o → Keeps s (arrow_found span e (Some k) o env)
arrow_found_in table span e t number of_e is its complete k None there kept = absurd cc
arrow_found_in table span e t number of_e is its complete k (Some m) there kept =
    let has = has_member table t number k m its complete there in
    arrow_of span e k m t of_e is has (table.objects has.number k m has.member)

arrow_named : {env : Env} {s : Scope} (table : TableIn env s) (span : Span) (e : Known) (t : Ty) (number : ℕ) → ValueIn s e →
    target_of e.tree.ty ≡ Some t → struct_of t ≡ Some number → is_complete env.structs (ty.Struct number) ≡ true → (o : Option ℕ) →
    Keeps s (arrow_found span e o (member_at (members_of (slice_get env.structs number)) o) env)
arrow_named table span e t number of_e is its complete None kept = absurd cc
arrow_named table span e t number of_e is its complete (Some k) kept =
    arrow_found_in table span e t number of_e is its complete k _ refl kept

arrow_complete : {env : Env} {s : Scope} (table : TableIn env s) (span : Span) (e : Known) (name : List ℕ) (t : Ty) (number : ℕ) →
    ValueIn s e → target_of e.tree.ty ≡ Some t → struct_of t ≡ Some number → (b : Bool) →
    is_complete env.structs (ty.Struct number) ≡ b → Keeps s (arrow_in span e b (members_of (slice_get env.structs number)) name env)
arrow_complete table span e name t number of_e is its false complete kept = absurd cc
arrow_complete {env = env} table span e name t number of_e is its true complete kept =
    arrow_named table span e t number of_e is its complete (member_number (members_of (slice_get env.structs number)) name) kept

arrow_struct : {env : Env} {s : Scope} (table : TableIn env s) (span : Span) (e : Known) (name : List ℕ) (t : Ty) → ValueIn s e →
    target_of e.tree.ty ≡ Some t → (o : Option ℕ) → struct_of t ≡ o → Keeps s (arrow_row span e name o env)
arrow_struct table span e name t of_e is None its kept = absurd cc
arrow_struct table span e name t of_e is (Some number) its kept = arrow_complete table span e name t number of_e is its _ refl kept

pub arrow-in : {env : Env} {s : Scope} (table : TableIn env s) (span : Span) (e : Known) (name : List ℕ) → ValueIn s e → (o : Option Ty) →
    target_of e.tree.ty ≡ o → Keeps s (arrow_row span e name (struct_pointed o) env)
arrow-in table span e name of_e None is kept = absurd cc
arrow-in table span e name of_e (Some t) is kept = arrow_struct table span e name t of_e is _ refl kept

-- ---- calls

arguments_in : {s : Scope} (ts : List Ty) (ks : List Known) → AllByRecursion (ValueIn s) ks → all_assignable ts ks ≡ true →
    length ks ≡ length ts → Arguments s (passed ts ks) ts
arguments_in [] [] all fit same = order.no_argument
arguments_in [] (k ∷ ks) all fit same = absurd (omega (arith, same))
arguments_in (t ∷ ts) [] all fit same = absurd (omega (arith, same))
arguments_in {s = s} (t ∷ ts) (k ∷ ks) all fit same =
    let one = assignable-in k t all.0 (and_first (assignable t k) (all_assignable ts ks) fit) in
    let rest = arguments_in ts ks all.1 (and_second (assignable t k) (all_assignable ts ks) fit) (omega (arith, same)) in
    subst (λ u. Arguments s ((converted t k).tree ∷ passed ts ks) (u ∷ ts)) one.is (order.argument one.value.has rest)

made_in : {s : Scope} (span : Span) (f : Callee) (sig : Signature) (ks : List Known) → Callable s f sig.params sig.result →
    (is_array sig.result || is_struct sig.result) ≡ false → Arguments s (passed sig.params ks) sig.params →
    KnownIn s (call_made span f sig ks)
unfolding given_typed
made_in {s = s} span f sig ks callable plain arguments =
    known_by (call_made span f sig ks) refl
    (subst (HasValue s sig.result) (sym (out-roll-TNode (TNode-F.Call f (passed sig.params ks)))) (order.call callable arguments)) plain
    (λ n is. absurd cc)

pub call-in : {s : Scope} (span : Span) (f : Callee) (sig : Signature) (ks : List Known) (env : Env) → Callable s f sig.params sig.result →
    (is_array sig.result || is_struct sig.result) ≡ false → AllByRecursion (ValueIn s) ks → Keeps s (call_known span f sig ks env)
call-in span f sig ks env callable plain all kept =
    let fit = all_values ks && all_assignable sig.params ks in
    let counts = nat_eq (length ks) (length sig.params) in
    let fits = kept-first span 12 fit (rule 14 counts ∷ []) kept in
    let same = kept-first span 14 counts [] (kept-rest span 12 fit (rule 14 counts ∷ []) kept) in
    made_in span f sig ks callable plain (arguments_in sig.params ks all (and_second (all_values ks) (all_assignable sig.params ks) fits)
    (eqb-true (length ks) (length sig.params) same))
