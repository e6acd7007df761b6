-- What a covered expression in order gives is of its type (this project's own).
use Rattle.std.specs.Prelude.{◌≡◌, ◌≢◌, ℕ, zero, suc, ◌%◌, ◌^◌, Bool, true, false, ◌&&◌, ◌||◌, not, List, Some, refl}
use Rattle.std.specs.Prelude.{if◌then◌else◌, nat_lt}
use Rattle.std.proofs.Common.{arith, sym, subst, ◌∙◌}
use Rattle.std.proofs.lemmas.Bool.{eqb-true}
use Rattle.c_ast.specs.declared.int_type.IntType.{IntType}
use Rattle.c_ast.specs.declared.int_type.IntType.TheVariants as int
use Rattle.c_ast.specs.declared.operator.BinaryOperator.{BinaryOperator}
use Rattle.c_ast.specs.declared.operator.BinaryOperator.TheVariants as binary
use Rattle.c_ast.specs.declared.operator.UnaryOperator.{UnaryOperator}
use Rattle.c_ast.specs.declared.operator.UnaryOperator.TheVariants as unary
use Rattle.c_ast.specs.declared.token.Span.{Span}
use Rattle.c_type_base.specs.Laws.Opened.{given_types}
use Rattle.c_type_base.specs.Types.{TyLayer, is_integer, is_scalar, is_struct, struct_of_level, int_of_level, target_of_level, is_there}
use Rattle.c_type_base.specs.declared.expr.TExpr.{TExpr}
use Rattle.c_type_base.specs.declared.expr.TNode.{out-TNode}
use Rattle.c_type_base.specs.declared.ty.Ty.{Ty, out-Ty}
use Rattle.c_type_base.specs.declared.ty.Ty.TheOpen.{Ty-F}
use Rattle.c_type_base.specs.declared.ty.Ty.TheVariants as ty
use Rattle.c_type_base.specs.declared.typed.StructInfo.{StructInfo}
use Rattle.block_meaning.specs.Expressions.{NodeLayer, ExprParts, Calls, Site, site, value_of, unary_node, binary_node, logical_node}
use Rattle.block_meaning.specs.Expressions.{same_truth, written, assigned, value_node, parts_at}
use Rattle.block_meaning.specs.ExpressionsInOrder as order
use Rattle.block_meaning.specs.ExpressionsInOrder.{Scope, HasValue, BinaryTypes, Logical, group_of, is_sign, int_type}
use Rattle.block_meaning.specs.Linkage.{structs_of}
use Rattle.block_meaning.specs.Memory.{object}
use Rattle.block_meaning.specs.Operators.{is_true, gives_old, stepped}
use Rattle.block_meaning.specs.Running.{Run, Context}
use Rattle.block_meaning.specs.Values.{converted_to}
use Rattle.block_meaning.specs.declared.value.Pointer.{Pointer}
use Rattle.block_meaning.specs.declared.value.Value.{Value}
use Rattle.block_meaning.specs.declared.value.Value.TheVariants.{Number, Address, Struct, NoValue}
use Rattle.gen_laws.specs.Computes.{IsOf}
use Rattle.code_follows.specs.Covered.{covering, covered, layer_covered, operates_in, operates_by, combines_by, computes_in}
use Rattle.code_follows.specs.Giving.{Gives}
use Rattle.code_follows.specs.Leaves.{bare_leaves}
use Rattle.code_follows.specs.Values.{IsOfLevel, IsOfType}
use Rattle.code_follows.specs.Laws.Giving.Calls.{CallsGiving, IsHere, call_gives}
use Rattle.code_follows.specs.Laws.Giving.Operators.{signed_gives, operated_gives, combined_gives}
use Rattle.code_follows.specs.Laws.Giving.Values.{of_truth, of_converted, of_void, scalar_gives, read_gives, of_stepped}
use Rattle.code_follows.specs.Laws.Giving.Words.{Any, gives-gives, gives-stops, gives-any, gives-then, gives-unit, gives-choice}
use Rattle.code_follows.specs.Laws.Lasting.Expressions.{LastingParts, LastingCalls, parts_lasts}
use Rattle.code_follows.specs.Laws.Lasting.Values.{write_lasts, truth_lasts}
use Rattle.code_follows.specs.Laws.Lasting.Words.{lasts-all}
use Rattle.code_follows.specs.Laws.Layers.{covered-is}
use Rattle.code_follows.specs.Laws.Nodes.Operated.{plain_run}
use Rattle.code_follows.specs.Laws.Whole.{operates_of, first_of, second_of, is_false, operated_types}

scalar_no_struct : (l : TyLayer) → (is_there (int_of_level l) || is_there (target_of_level l)) ≡ true →
    is_there (struct_of_level l) ≡ false
scalar_no_struct (Ty-F.Struct n) scalar = absurd (cc)
scalar_no_struct _ scalar = refl

abbrev structs_in : Scope → List StructInfo
structs_in s = structs_of s.program.units s.unit

-- so it is of the parts of an expression
pub record PartsGive (s : Scope) (p : ExprParts) : Type 0 where
  pub value : (around : Span) (e : TExpr) → HasValue s e.ty (out-TNode e.node) → covered e ≡ true →
      Gives (p.value_in around e) (IsOfType e.ty)

gives-same : {A : Type 0} {m n : Run A} {P : A → Type 0} → ((now : _) → m now ≡ n now) → Gives n P → Gives m P
gives-same same given = record {
  gives = λ now later a bytes ran. given.gives now later a bytes (record { is = sym (same now) ∙ ran.is });
}

-- ---- types

constant_of : (i : IntType) (n : ℕ) → IsOf i n → IsOfType (ty.Int i) (Number n)
unfolding given_types
constant_of i n of = of

address_of : (t : Ty) (p : Pointer) → IsOfType (ty.Pointer t) (Address p)
unfolding given_types
address_of t p = tt

size_of : (n : ℕ) → IsOfType (ty.Int int.ULong) (Number (n % 2 ^ 64))
unfolding given_types
size_of n = omega arith

not_logical : {o : BinaryOperator} {s t u : Ty} → BinaryTypes o s t u → group_of o ≢ Logical
not_logical (order.arithmetic group is) = λ same. cc
not_logical (order.shift group is other) = λ same. cc
not_logical (order.comparison group is) = λ same. cc
not_logical (order.added is other) = λ same. cc
not_logical (order.added_to is other) = λ same. cc
not_logical (order.taken is other) = λ same. cc
not_logical (order.distance is) = λ same. cc

no_struct : (l : TyLayer) (p : Pointer) → is_there (struct_of_level l) ≡ false → IsOfLevel l (Struct p) → ⊥
no_struct (Ty-F.Struct n) p is of = absurd (cc)
no_struct _ p is of = absurd of

module _ (s : Scope) (at : Site) (is_here : IsHere s at.here) (calls : CallsGiving s.program at.calls) (parts : PartsGive s at.parts)
    (lasting : LastingParts at.parts) where
  any_value : (e : TExpr) → Gives (value_of at.parts e) Any
  any_value e = gives-any (lasting.value e.span e)

  any_truth : (span : Span) (v : Value) → Gives (is_true at.here span v) Any
  any_truth span v = gives-any (truth_lasts at.here span v)

  signs : (o : UnaryOperator) (e : TExpr) → is_sign o ≡ true → HasValue s e.ty (out-TNode e.node) → is_integer e.ty ≡ true →
      covered e ≡ true → Gives (unary_node at o e) (IsOfType e.ty)
  signs unary.Plus e sign d is cov =
      gives-then (parts.value e.span e d cov) (λ v of. gives-unit (signed_gives unary.Plus e.ty v refl is of))
  signs unary.Minus e sign d is cov =
      gives-then (parts.value e.span e d cov) (λ v of. gives-unit (signed_gives unary.Minus e.ty v refl is of))
  signs unary.Complement e sign d is cov =
      gives-then (parts.value e.span e d cov) (λ v of. gives-unit (signed_gives unary.Complement e.ty v refl is of))
  signs _ e sign d is cov = absurd (cc)

  truths : (decides : Bool) (a b : TExpr) → Gives (logical_node at decides a b) (IsOfType int_type)
  truths decides a b =
      gives-then (any_value a) (λ v any. gives-unit (gives-then (any_truth a.span v) (λ first any.
      gives-choice (same_truth first decides) (gives-gives _ (of_truth decides))
      (gives-then (any_value b) (λ w any. gives-then (any_truth b.span w) (λ second any. gives-gives _ (of_truth second)))))))

  logicals : (o : BinaryOperator) (a b : TExpr) → group_of o ≡ Logical → Gives (binary_node at o a b) (IsOfType int_type)
  logicals binary.And a b group = truths false a b
  logicals binary.Or a b group = truths true a b
  logicals _ a b group = absurd (cc)

  written_gives : (t : Ty) (span : Span) (p : Pointer) (v : Value) → IsOfType t v →
      Gives (written at span (object t p) v) (IsOfType t)
  written_gives t span p v of = gives-then (gives-any (write_lasts at.here span (object t p) v)) (λ w any. gives-gives v of)

  assigns : (a b : TExpr) (p : Pointer) (v : Value) → is_struct a.ty ≡ false → IsOfType a.ty v →
      Gives (assigned at a b p v) (IsOfType a.ty)
  assigns a b p (Struct q) other of = absurd (no_struct (out-Ty a.ty) q other of)
  assigns a b p (Number n) other of = written_gives a.ty a.span p (Number n) of
  assigns a b p (Address q) other of = written_gives a.ty a.span p (Address q) of
  assigns a b p NoValue other of = written_gives a.ty a.span p NoValue of

  old_or_new : (b : Bool) (t : Ty) (v w : Value) → IsOfType t v → IsOfType t w → IsOfType t (if b then v else w)
  old_or_new true t v w one other = one
  old_or_new false t v w one other = other

  node_gives : (t : Ty) (l : NodeLayer) → HasValue s t l → layer_covered l t ≡ true → at.ty ≡ t →
      Gives (value_node at l) (IsOfType t)
  node_gives t l (order.constant {n} {i}) cov is = gives-unit (gives-gives (Number n) (constant_of i n (eqb-true _ _ cov)))
  node_gives t l (order.paren {e} d) cov is = parts.value at.around e d cov
  node_gives t l (order.address {e} d) cov is =
      gives-then (gives-any (lasting.place e)) (λ p any. gives-unit (gives-gives (Address p) (address_of e.ty p)))
  node_gives t l (order.denied {e} d scalar) cov is =
      gives-then (any_value e) (λ v any. gives-unit (gives-then (any_truth e.span v) (λ b any. gives-gives _ (of_truth (not b)))))
  node_gives t l (order.signed {o} {e} sign d integer) cov is =
      signs o e sign d integer (second_of (if is_sign o then computes_in t else true) (covered e) cov)
  node_gives t l (order.logical {o} {a} {b} group d scalar x other) cov is = logicals o a b group
  node_gives t l (order.operated {o} {a} {b} d x types) cov is =
      let test : Bool = operates_by (group_of o) (covering a).ty (covering b).ty in
      let both : (covered a && covered b) ≡ true = second_of test (covered a && covered b) cov in
      let operates : operates_in a.ty b.ty ≡ true =
      operates_of types (group_of o) refl (operated_types (group_of o) a b (first_of test (covered a && covered b) cov)) in
      gives-same (λ now. plain_run at o a b (not_logical types) now)
      (gives-then (parts.value a.span a d (first_of (covered a) (covered b) both)) (λ v of.
      gives-then (parts.value b.span b x (second_of (covered a) (covered b) both)) (λ w its.
      gives-unit (operated_gives at.here at.span o a.ty b.ty t v w types operates of its))))
  node_gives t l (order.assigned {a} {b} d x same) cov is =
      let both = second_of (is_scalar a.ty && true) (covered a && covered b) cov in
      let other : is_struct a.ty ≡ false = scalar_no_struct (out-Ty a.ty) (first_of (is_scalar a.ty) true
      (first_of (is_scalar a.ty && true) (covered a && covered b) cov)) in
      gives-then (gives-any (lasting.place a)) (λ p any.
      gives-then (parts.value b.span b x (second_of (covered a) (covered b) both)) (λ v of.
      gives-unit (assigns a b p v other (subst (λ u. IsOfType u v) same of))))
  node_gives t l (order.compound {o} {a} {b} d x types) cov is =
      let test : Bool = is_scalar a.ty && combines_by (Some o) (covering a).ty (covering b).ty in
      let both = second_of test (covered a && covered b) cov in
      gives-then (gives-any (lasting.place a)) (λ p any.
      gives-then (parts.value b.span b x (second_of (covered a) (covered b) both)) (λ w its.
      gives-unit (gives-then (scalar_gives at.here a.span (object a.ty p)) (λ v of.
      gives-then (combined_gives at.here at.span o a.ty b.ty v w types of its) (λ r result. written_gives a.ty a.span p r result)))))
  node_gives t l (order.chosen {c} {a} {b} d scalar x a_is y b_is) cov is =
      let both = second_of (covered c) (covered a && covered b) cov in
      gives-then (any_value c) (λ v any. gives-unit (gives-then (any_truth c.span v) (λ holds any.
      gives-choice holds
      (subst (λ u. Gives (value_of at.parts a) (IsOfType u)) a_is
      (parts.value a.span a x (first_of (covered a) (covered b) both)))
      (subst (λ u. Gives (value_of at.parts b) (IsOfType u)) b_is
      (parts.value b.span b y (second_of (covered a) (covered b) both))))))
  node_gives t l (order.cast {e = e} d types) cov is =
      gives-then (parts.value e.span e d cov) (λ v of. gives-unit (gives-gives _ (of_converted v types of)))
  node_gives t l (order.cast_to_void {e = e} d void) cov is =
      gives-then (any_value e) (λ v any. gives-unit (gives-gives _ (of_void t v void)))
  node_gives t l (order.size_of {e}) cov is = gives-unit (gives-gives _ (size_of _))
  node_gives t l (order.size_of_type {t = other}) cov is = gives-unit (gives-gives _ (size_of _))
  node_gives t l (order.call {f} {es} {ts} callable ds) cov is =
      gives-then (gives-any (lasts-all (λ e. lasting.value e.span e) es)) (λ vs any.
      gives-unit (call_gives s at is_here calls f ts t vs callable))
  node_gives t l (order.step {o} {e} d scalar) cov is =
      gives-then (gives-any (lasting.place e)) (λ p any. gives-unit (
      gives-then (scalar_gives at.here e.span (object e.ty p)) (λ v of.
      gives-then (gives-any (write_lasts at.here e.span (object e.ty p) (stepped at.here o e.ty v))) (λ w any.
      gives-gives _ (old_or_new (gives_old o) e.ty v (stepped at.here o e.ty v) of (of_stepped at.here o e.ty v scalar of))))))
  node_gives t l (order.read {e} d scalar) cov is =
      gives-then (gives-any (lasting.place e)) (λ p any. read_gives at.here e.span (object e.ty p))
  node_gives t l (order.decay {e} {t = element} d of_array) cov is =
      gives-then (gives-any (lasting.place e)) (λ p any. gives-gives (Address p) (address_of element p))
  node_gives t l (order.convert {e} d types) cov is =
      gives-then (parts.value e.span e d (second_of (nat_lt bare_leaves _) (covered e) cov)) (λ v of.
      gives-gives _ (subst (λ u. IsOfType t (converted_to u v)) (sym is) (of_converted v types of)))
  node_gives t l (order.member_value d has scalar) cov is = absurd (cc)

-- with any number of levels below
pub parts_give : {s : Scope} {c : Calls} → CallsGiving s.program c → LastingCalls c → (here : Context) → IsHere s here → (depth : ℕ) →
    PartsGive s (parts_at c here depth)
unfolding out-TNode
parts_give calls lasts here is_here zero = record { value = λ around e d cov. gives-stops _ }
parts_give {s} {c} calls lasts here is_here (suc depth) =
    let below = parts_give {s = s} {c = c} calls lasts here is_here depth in
    record {
      value = λ around e d cov. node_gives s (site c here (parts_at c here depth) around e) is_here calls below
          (parts_lasts {c = c} lasts here depth) e.ty (out-TNode e.node) d (sym (covered-is e) ∙ cov) refl;
    }
