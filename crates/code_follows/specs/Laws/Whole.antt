-- The code of each expression that is covered does what it means, where that of each node does (this project's own). By the number of
-- levels, and the derivation that the expression is in order.
use Rattle.std.specs.Prelude.{◌≡◌, ℕ, zero, suc, Bool, true, false, not, nat_le, nat_lt, ◌<◌, ◌≤◌, ◌&&◌, ◌||◌, if◌then◌else◌}
use Rattle.std.specs.Prelude.{List, [], ◌∷◌, length, map, refl}
use Rattle.std.proofs.Common.{arith, ap, sym, subst, ◌∙◌}
use Rattle.std.proofs.lemmas.Bool.{eqb-true}
use Rattle.std.proofs.lemmas.Bool.Decides.{nat_tests}
use Rattle.c_ast.specs.declared.operator.AssignOperator.{AssignOperator}
use Rattle.c_ast.specs.declared.operator.BinaryOperator.{BinaryOperator}
use Rattle.c_ast.specs.declared.operator.UnaryOperator.{UnaryOperator}
use Rattle.c_type_base.specs.Types.{TyLayer, int_of_level, target_of_level, struct_of_level, is_there, is_scalar}
use Rattle.c_type_base.specs.declared.expr.TExpr.{TExpr}
use Rattle.c_type_base.specs.declared.expr.TNode.{out-TNode}
use Rattle.c_type_base.specs.declared.ty.Ty.{Ty, out-Ty}
use Rattle.c_type_base.specs.declared.ty.Ty.TheOpen.{Ty-F}
use Rattle.frame_layout.specs.Needs.{need}
use Rattle.block_meaning.specs.Running.{stuck}
use Rattle.gen_expr.specs.Coded.{Emits}
use Rattle.block_meaning.specs.Expressions.{NodeLayer, parts_at}
use Rattle.block_meaning.specs.ExpressionsInOrder as order
use Rattle.block_meaning.specs.ExpressionsInOrder.{Scope, HasValue, Designates, Arguments, BinaryTypes, Group, Arithmetic, Shift}
use Rattle.block_meaning.specs.ExpressionsInOrder.{Comparison}
use Rattle.block_meaning.specs.ExpressionsInOrder.{Logical, group_of, is_sign}
use Rattle.code_follows.specs.Covered.{computes_in, operates_in, operates_by, combines_in, all_covered, covering, covered, layer_covered}
use Rattle.code_follows.specs.Covered.{layer_leaves, leaves}
use Rattle.code_follows.specs.Nodes.{AllFollow, Nodes}
use Rattle.code_follows.specs.Layers.{layer_code, layer_need}
use Rattle.code_follows.specs.Leaves.{bare_leaves}
use Rattle.code_follows.specs.Parts.{Result, Part, ValuePart, too_deep, PlacePart, ValueFollows, PlaceFollows, ValueNode, PlaceNode}
use Rattle.code_follows.specs.Scene.{Scene, calls_in, structs_in, frame_in}
use Rattle.code_follows.specs.Laws.Going.{Goes-stuck, Part-by}
use Rattle.code_follows.specs.Laws.Layers.{coded-is, need-is, covered-is, covering-ty, leaves-is}

pub operated_types : (g : Group) (a b : TExpr) → operates_by g (covering a).ty (covering b).ty ≡ true → operates_by g a.ty b.ty ≡ true
operated_types g a b is =
    sym (ap (λ s. operates_by g s (covering b).ty) (covering-ty a) ∙ ap (λ t. operates_by g a.ty t) (covering-ty b)) ∙ is

combined_types : (o : AssignOperator) (a b : TExpr) → combines_in o (covering a).ty (covering b).ty ≡ true → combines_in o a.ty b.ty ≡ true
combined_types o a b is =
    sym (ap (λ s. combines_in o s (covering b).ty) (covering-ty a) ∙ ap (λ t. combines_in o a.ty t) (covering-ty b)) ∙ is

-- an operator that takes two values is not `&&` or `||`
pub operates_of : {o : BinaryOperator} {s t u : Ty} → BinaryTypes o s t u → (g : Group) → group_of o ≡ g → operates_by g s t ≡ true →
    operates_in s t ≡ true
operates_of types Arithmetic group is = is
operates_of types Shift group is = is
operates_of types Comparison group is = is
operates_of (order.arithmetic is_one integer) Logical group is = absurd cc
operates_of (order.shift is_one integer its) Logical group is = absurd cc
operates_of (order.comparison is_one scalar) Logical group is = absurd cc
operates_of (order.added pointer integer) Logical group is = absurd cc
operates_of (order.added_to integer pointer) Logical group is = absurd cc
operates_of (order.taken pointer integer) Logical group is = absurd cc
operates_of (order.distance pointer) Logical group is = absurd cc

pub first_of : (a b : Bool) → (a && b) ≡ true → a ≡ true
first_of true b both = refl
first_of false b both = absurd (cc)

pub second_of : (a b : Bool) → (a && b) ≡ true → b ≡ true
second_of true b both = both
second_of false b both = absurd (cc)

-- a scalar is no struct
no_struct : {X : Type 0} (l : TyLayer) → is_there (struct_of_level l) ≡ true →
    (is_there (int_of_level l) || is_there (target_of_level l)) ≡ true → X
no_struct (Ty-F.Struct n) is scalar = absurd (cc)
no_struct _ is scalar = absurd (cc)

pub is_false : (b : Bool) → not b ≡ true → b ≡ false
is_false true is = absurd (cc)
is_false false is = refl

sign_computes : (o : UnaryOperator) (t : Ty) → is_sign o ≡ true → (if is_sign o then computes_in t else true) ≡ true → computes_in t ≡ true
sign_computes o t sign is = sym (ap (λ b. (if b then computes_in t else true)) sign) ∙ is

lt_of : {n m : ℕ} → nat_lt n m ≡ true → n < m
lt_of {n} {m} is = grind (arith, nat_tests)

le_of : {n m : ℕ} → nat_le n m ≡ true → n ≤ m
le_of {n} {m} is = grind (arith, nat_tests)

covering_length : (es : List TExpr) → length (map covering es) ≡ length es
covering_length [] = refl
covering_length (e ∷ es) = ap suc (covering_length es)

few_arguments : (es : List TExpr) → nat_le (length (map covering es)) 8 ≡ true → length es ≤ 8
few_arguments es is = let few : length (map covering es) ≤ 8 = le_of is in omega (arith, few, covering_length es)

-- ---- what is left of the bound

least_by : {s : Scope} (t : Ty) (l : NodeLayer) → HasValue s t l → layer_covered l t ≡ true → bare_leaves ≤ layer_leaves l
least_by t l (order.paren {e} d) cov =
    subst (λ n. bare_leaves ≤ n) (sym (leaves-is e)) (least_by t (out-TNode e.node) d (sym (covered-is e) ∙ cov))
least_by t l (order.convert {e} d types) cov =
    let under : bare_leaves < leaves e = lt_of (first_of (nat_lt bare_leaves (leaves e)) (covered e) cov) in omega (arith, under)
least_by t l d cov = omega arith

least_of : {s : Scope} (e : TExpr) → HasValue s e.ty (out-TNode e.node) → covered e ≡ true → bare_leaves ≤ leaves e
least_of e d cov =
    subst (λ n. bare_leaves ≤ n) (sym (leaves-is e)) (least_by e.ty (out-TNode e.node) d (sym (covered-is e) ∙ cov))

-- what is shown with so many levels below
pub record Below (k : Scene) (depth : ℕ) : Type 0 where
  pub value : (e : TExpr) → HasValue k.scope e.ty (out-TNode e.node) → covered e ≡ true → ValueFollows k depth e
  pub place : (e : TExpr) → Designates k.scope e.ty (out-TNode e.node) → covered e ≡ true → PlaceFollows k depth e

module _ {k : Scene} {depth : ℕ} (nodes : Nodes k) (below : Below k depth) where
  all_value : (es : List TExpr) (ts : List Ty) → Arguments k.scope es ts → all_covered (map covering es) ≡ true → AllFollow k depth es
  all_value es ts order.no_argument cov = tt
  all_value es ts (order.argument {e} {es = more} {ts = types} d ds) cov = (
    below.value e d (first_of (covered e) (all_covered (map covering more)) cov),
    all_value more types ds (second_of (covered e) (all_covered (map covering more)) cov),
  )

  value_by : (t : Ty) (l : NodeLayer) → HasValue k.scope t l → layer_covered l t ≡ true → ValueNode k depth t l
  value_by t l (order.constant {n} {i}) cov = (nodes.values depth).constant n i (eqb-true _ _ cov)
  value_by t l (order.paren {e} d) cov = (nodes.values depth).paren e (below.value e d cov)
  value_by t l (order.address {e} d) cov = (nodes.values depth).address e (below.place e d cov)
  value_by t l (order.denied {e} d is) cov = (nodes.values depth).denied e (below.value e d cov) is
  value_by t l (order.signed {o} {e} sign d is) cov =
      (nodes.values depth).signed o e sign (below.value e d (second_of _ (covered e) cov)) is
      (sign_computes o t sign (first_of (if is_sign o then computes_in t else true) (covered e) cov))
  value_by t l (order.logical {o} {a} {b} group d is x its) cov =
      let operates : Bool = operates_by (group_of o) (covering a).ty (covering b).ty in
      let both : (covered a && covered b) ≡ true = second_of operates (covered a && covered b) cov in
      (nodes.values depth).logical o a b group (below.value a d (first_of (covered a) (covered b) both)) is
      (below.value b x (second_of (covered a) (covered b) both)) its
  value_by t l (order.operated {o} {a} {b} d x types) cov =
      let operates : Bool = operates_by (group_of o) (covering a).ty (covering b).ty in
      let both : (covered a && covered b) ≡ true = second_of operates (covered a && covered b) cov in
      (nodes.values depth).operated o a b t (below.value a d (first_of (covered a) (covered b) both))
      (below.value b x (second_of (covered a) (covered b) both)) types
      (operates_of types (group_of o) refl (operated_types (group_of o) a b (first_of operates (covered a && covered b) cov)))
  value_by t l (order.assigned {a} {b} d x same) cov =
      let both : (covered a && covered b) ≡ true = second_of (is_scalar a.ty && true) (covered a && covered b) cov in
      (nodes.values depth).assigned a b (below.place a d (first_of (covered a) (covered b) both))
      (below.value b x (second_of (covered a) (covered b) both)) same
      (first_of (is_scalar a.ty) true (first_of (is_scalar a.ty && true) (covered a && covered b) cov))
  value_by t l (order.compound {o} {a} {b} d x types) cov =
      let combines : Bool = combines_in o (covering a).ty (covering b).ty in
      let both : (covered a && covered b) ≡ true = second_of (is_scalar a.ty && combines) (covered a && covered b) cov in
      (nodes.values depth).compound o a b (below.place a d (first_of (covered a) (covered b) both))
      (below.value b x (second_of (covered a) (covered b) both)) types
      (combined_types o a b (second_of (is_scalar a.ty) combines
      (first_of (is_scalar a.ty && combines) (covered a && covered b) cov)))
  value_by t l (order.chosen {c} {a} {b} d is x a_is y b_is) cov =
      let both : (covered a && covered b) ≡ true = second_of (covered c) (covered a && covered b) cov in
      (nodes.values depth).chosen c a b t (below.value c d (first_of (covered c) (covered a && covered b) cov)) is
      (below.value a x (first_of (covered a) (covered b) both)) a_is (below.value b y (second_of (covered a) (covered b) both)) b_is
  value_by t l (order.cast {e = e} d types) cov = (nodes.values depth).cast t e (below.value e d cov) types
  value_by t l (order.cast_to_void {e = e} d is) cov = (nodes.values depth).cast_to_void t e (below.value e d cov) is
  value_by t l (order.size_of {e}) cov = (nodes.values depth).size_of e
  value_by t l (order.size_of_type {t = other}) cov = (nodes.values depth).size_of_type other
  value_by t l (order.call {f} {es} {ts} callable ds) cov =
      (nodes.values depth).call f es ts t callable ds
      (few_arguments es (first_of (nat_le (length (map covering es)) 8) (all_covered (map covering es)) cov))
      (all_value es ts ds (second_of (nat_le (length (map covering es)) 8) (all_covered (map covering es)) cov))
  value_by t l (order.step {o} {e} d is) cov = (nodes.values depth).step o e (below.place e d cov) is
  value_by t l (order.read {e} d is) cov = (nodes.values depth).read e (below.place e d cov) is
  value_by t l (order.decay {e} {t = element} d is) cov = (nodes.values depth).decay e element (below.place e d cov) is
  value_by t l (order.convert {e} d types) cov =
      (nodes.values depth).convert e t (below.value e d (second_of (nat_lt bare_leaves (leaves e)) (covered e) cov)) types
      (lt_of (first_of (nat_lt bare_leaves (leaves e)) (covered e) cov))
  value_by t l (order.member_value d has is) cov = absurd (cc)

  place_by : (t : Ty) (l : NodeLayer) → Designates k.scope t l → layer_covered l t ≡ true → PlaceNode k depth t l
  place_by t l (order.text {k = n} {bytes} is) cov = (nodes.places depth).text n bytes is
  place_by t l (order.local {k = n} {l = info} among is) cov = (nodes.places depth).local n info among is
  place_by t l (order.global {k = n} {g} is) cov = (nodes.places depth).global n g is
  place_by t l (order.extern_object {k = n} {e} is its defines) cov = (nodes.places depth).extern_object n e t is its defines
  place_by t l (order.paren_place {e} d) cov = (nodes.places depth).paren e (below.place e d cov)
  place_by t l (order.target {e} d is) cov = (nodes.places depth).target e t (below.value e d cov) is
  place_by t l (order.element {a} {i} d is x its) cov =
      (nodes.places depth).element a i t (below.value a d (first_of (covered a) (covered i) cov)) is
      (below.value i x (second_of (covered a) (covered i) cov)) its
  place_by t l (order.element_of_second {i} {a} x its d is) cov =
      (nodes.places depth).element_of_second i a t (below.value i x (first_of (covered i) (covered a) cov)) its
      (below.value a d (second_of (covered i) (covered a) cov)) is
  place_by t l (order.member d has) cov = absurd (cc)
  place_by t l (order.arrow d is has) cov = absurd (cc)
  place_by t l (order.struct_assigned {a} {b} d x same is) cov =
      no_struct (out-Ty a.ty) is (first_of (is_scalar a.ty) true (first_of (is_scalar a.ty && true) (covered a && covered b) cov))

  -- one level more
  one_more : Below k (suc depth)
  unfolding out-TNode
  one_more = record {
    value = λ e d cov. value_of e (least_of e d cov) (value_by e.ty (out-TNode e.node) d (sym (covered-is e) ∙ cov));
    place = λ e d cov. place_of e (place_by e.ty (out-TNode e.node) d (sym (covered-is e) ∙ cov));
  }
    where
      value_of : (e : TExpr) → bare_leaves ≤ leaves e → ValueNode k depth e.ty (out-TNode e.node) → ValueFollows k (suc depth) e
      value_of e least node = record {
        least = least;
        around = λ span.
            subst (λ code. ValuePart k code (need e) (leaves e) e.ty ((parts_at (calls_in k) k.here (suc depth)).value_in span e))
            (sym (coded-is (structs_in k) (frame_in k) e))
            (subst (λ n. ValuePart k (layer_code (structs_in k) (frame_in k) (out-TNode e.node) e.ty) n (leaves e) e.ty
            ((parts_at (calls_in k) k.here (suc depth)).value_in span e)) (sym (need-is e))
            (subst (λ n. ValuePart k (layer_code (structs_in k) (frame_in k) (out-TNode e.node) e.ty) (layer_need (out-TNode e.node)) n e.ty
            ((parts_at (calls_in k) k.here (suc depth)).value_in span e)) (sym (leaves-is e)) (node.at e.span span)));
      }

      place_of : (e : TExpr) → PlaceNode k depth e.ty (out-TNode e.node) → PlaceFollows k (suc depth) e
      place_of e node = record {
        part = subst (λ code. PlacePart k code (need e) e.ty ((parts_at (calls_in k) k.here (suc depth)).place e))
            (sym (coded-is (structs_in k) (frame_in k) e))
            (subst (λ n. PlacePart k (layer_code (structs_in k) (frame_in k) (out-TNode e.node) e.ty) n e.ty
            ((parts_at (calls_in k) k.here (suc depth)).place e)) (sym (need-is e)) (node.at e.span));
      }

-- ---- no level, of which nothing is said

Part-stuck : {A : Type 0} {k : Scene} {emits : Emits} {needs left : ℕ} {alone : Bool} {result : Result A} →
    Part k emits needs left alone result stuck
Part-stuck = Part-by (λ first reg from to free lies a now s on. Goes-stuck)

none : (k : Scene) → Below k zero
none k = record {
  value = λ e d cov. record { least = least_of e d cov; around = λ span. record { part = Part-stuck } };
  place = λ e d cov. record {
    part = record {
      place = Part-stuck;
      pointer = record { owes = false; first = stuck; run_is = λ now. refl; part = Part-stuck };
      slot = λ start is now. too_deep refl;
    };
  };
}

-- ---- all levels

pub all_below : {k : Scene} → Nodes k → (depth : ℕ) → Below k depth
all_below {k} nodes zero = none k
all_below nodes (suc depth) = one_more nodes (all_below nodes depth)
