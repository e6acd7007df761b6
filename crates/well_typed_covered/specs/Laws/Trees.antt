-- Typed expressions that are covered where they are plain, by their nodes (this project's own).
use Rattle.std.specs.Prelude.{◌≡◌, ℕ, Bool, true, false, ◌&&◌, not, ◌≤◌, nat_le, nat_lt, suc, List, [], ◌∷◌, length, map, Option, refl}
use Rattle.std.specs.Prelude.{if◌then◌else◌}
use Rattle.std.specs.List.{AllByRecursion}
use Rattle.std.proofs.Common.{arith, ap, sym, subst, ◌∙◌}
use Rattle.std.proofs.lemmas.Bool.Decides.{nat_tests}
use Rattle.c_ast.specs.declared.int_type.IntType.{IntType}
use Rattle.c_ast.specs.declared.token.Span.{Span}
use Rattle.c_ast.specs.declared.operator.AssignOperator.{AssignOperator}
use Rattle.c_ast.specs.declared.operator.BinaryOperator.{BinaryOperator}
use Rattle.c_ast.specs.declared.operator.Step.{Step}
use Rattle.c_ast.specs.declared.operator.UnaryOperator.{UnaryOperator}
use Rattle.c_type_base.specs.Known.{texpr}
use Rattle.c_type_base.specs.Laws.Opened.{given_typed}
use Rattle.c_type_base.specs.Types.{is_scalar}
use Rattle.c_type_base.specs.declared.expr.Callee.{Callee}
use Rattle.c_type_base.specs.declared.expr.TExpr.{TExpr}
use Rattle.c_type_base.specs.declared.expr.TNode.{out-TNode, roll-TNode, out-roll-TNode}
use Rattle.c_type_base.specs.declared.expr.TNode.TheFolds.{fold_out-TNode, fold_out-TExpr}
use Rattle.c_type_base.specs.declared.expr.TNode.TheOpen.{TNode-F}
use Rattle.c_type_base.specs.declared.expr.TNode.TheVariants as node
use Rattle.c_type_base.specs.declared.ty.Ty.{Ty}
use Rattle.block_meaning.specs.Expressions.{NodeLayer}
use Rattle.block_meaning.specs.ExpressionsInOrder.{group_of, is_sign}
use Rattle.code_follows.specs.Covered.{computes_in, operates_by, combines_by, all_covered, covering, covered, layer_covered}
use Rattle.code_follows.specs.Covered.{layer_leaves, leaves}
use Rattle.code_follows.specs.Leaves.{bare_leaves, value_leaves}
use Rattle.code_follows.specs.Laws.Layers.{covered-is, covering-ty, leaves-is}
use Rattle.well_typed_covered.specs.Plain.{NodePlain, all_plain, node_plain, expr_plain, is_plain, layer_plain}

-- it is covered where it is plain, and its code leaves so many steps at least
pub record Covers (n : ℕ) (e : TExpr) : Type 0 where
  pub covers : is_plain e ≡ true → covered e ≡ true
  pub least : n ≤ leaves e

plain_is : (e : TExpr) → is_plain e ≡ layer_plain (out-TNode e.node) e.ty
unfolding given_typed
plain_is e =
    fold_out-TExpr NodePlain Bool node_plain expr_plain e
    ∙ ap (λ (n : NodePlain). n e.ty) (fold_out-TNode NodePlain Bool node_plain expr_plain e.node)

-- the least that the code of a value leaves behind one conversion
abbrev pub converted_leaves : ℕ
converted_leaves = 6

-- ---- tests

pub and-true : (a b : Bool) → a ≡ true → b ≡ true → (a && b) ≡ true
and-true true b is its = its
and-true false b is its = absurd cc

pub first-of : (a b : Bool) → (a && b) ≡ true → a ≡ true
first-of true b both = refl
first-of false b both = absurd cc

pub second-of : (a b : Bool) → (a && b) ≡ true → b ≡ true
second-of true b both = both
second-of false b both = absurd cc

-- both are, where each is
each_covers : (a b x y : Bool) → (a ≡ true → x ≡ true) → (b ≡ true → y ≡ true) → (a && b) ≡ true → (x && y) ≡ true
each_covers a b x y first second both = and-true x y (first (first-of a b both)) (second (second-of a b both))

-- ---- nodes

made : (n : ℕ) (span : Span) (t : Ty) (l : NodeLayer) → (layer_plain l t ≡ true → layer_covered l t ≡ true) → n ≤ layer_leaves l →
    Covers n (texpr span t (roll-TNode l))
made n span t l covers least =
    let e = texpr span t (roll-TNode l) in
    let same : out-TNode (roll-TNode l) ≡ l = out-roll-TNode l in
    record {
      covers = λ plain. covered-is e ∙ ap (λ l. layer_covered l t) same
          ∙ covers (sym (ap (λ l. layer_plain l t) same) ∙ sym (plain_is e) ∙ plain);
      least = subst (λ k. n ≤ k) (sym (leaves-is e ∙ ap layer_leaves same)) least;
    }

pub constant-covers : (span : Span) (t : Ty) (n : ℕ) (i : IntType) → layer_covered (TNode-F.Constant n i) t ≡ true →
    Covers value_leaves (texpr span t (node.Constant n i))
unfolding given_typed
constant-covers span t n i is = made value_leaves span t (TNode-F.Constant n i) (λ plain. is) (omega arith)

pub text-covers : (span : Span) (t : Ty) (n : ℕ) → Covers value_leaves (texpr span t (node.Text n))
unfolding given_typed
text-covers span t n = made value_leaves span t (TNode-F.Text n) (λ plain. refl) (omega arith)

pub local-covers : (span : Span) (t : Ty) (n : ℕ) → Covers value_leaves (texpr span t (node.Local n))
unfolding given_typed
local-covers span t n = made value_leaves span t (TNode-F.Local n) (λ plain. refl) (omega arith)

pub global-covers : (span : Span) (t : Ty) (n : ℕ) → Covers value_leaves (texpr span t (node.Global n))
unfolding given_typed
global-covers span t n = made value_leaves span t (TNode-F.Global n) (λ plain. refl) (omega arith)

pub extern-covers : (span : Span) (t : Ty) (n : ℕ) → Covers value_leaves (texpr span t (node.Extern n))
unfolding given_typed
extern-covers span t n = made value_leaves span t (TNode-F.Extern n) (λ plain. refl) (omega arith)

pub paren-covers : (span : Span) (t : Ty) (e : TExpr) → Covers value_leaves e → Covers value_leaves (texpr span t (node.Paren e))
unfolding given_typed
paren-covers span t e of_e = made value_leaves span t (TNode-F.Paren e) of_e.covers of_e.least

pub unary-covers : {n : ℕ} (span : Span) (t : Ty) (o : UnaryOperator) (e : TExpr) →
    (if is_sign o then computes_in t else true) ≡ true → Covers n e → Covers value_leaves (texpr span t (node.Unary o e))
unfolding given_typed
unary-covers span t o e computes of_e = made value_leaves span t (TNode-F.Unary o e)
    (λ plain. and-true (if is_sign o then computes_in t else true) (covered e) computes (of_e.covers plain)) (omega arith)

pub binary-covers : {n m : ℕ} (span : Span) (t : Ty) (o : BinaryOperator) (a b : TExpr) → operates_by (group_of o) a.ty b.ty ≡ true →
    Covers n a → Covers m b → Covers value_leaves (texpr span t (node.Binary o a b))
unfolding given_typed
binary-covers span t o a b operates of_a of_b = made value_leaves span t (TNode-F.Binary o a b)
    (λ plain. and-true (operates_by (group_of o) (covering a).ty (covering b).ty) (covered a && covered b)
    (ap (λ s. operates_by (group_of o) s (covering b).ty) (covering-ty a) ∙ ap (λ t. operates_by (group_of o) a.ty t) (covering-ty b)
    ∙ operates)
    (each_covers (is_plain a) (is_plain b) (covered a) (covered b) of_a.covers of_b.covers plain)) (omega arith)

pub assign-covers : {n m : ℕ} (span : Span) (t : Ty) (o : Option AssignOperator) (a b : TExpr) → combines_by o a.ty b.ty ≡ true →
    Covers n a → Covers m b → Covers value_leaves (texpr span t (node.Assign o a b))
unfolding given_typed
assign-covers span t o a b combines of_a of_b = made value_leaves span t (TNode-F.Assign o a b)
    (λ plain. and-true (is_scalar t && combines_by o (covering a).ty (covering b).ty) (covered a && covered b)
    (and-true (is_scalar t) (combines_by o (covering a).ty (covering b).ty)
    (first-of (is_scalar t) (is_plain a && is_plain b) plain)
    (ap (λ s. combines_by o s (covering b).ty) (covering-ty a) ∙ ap (λ t. combines_by o a.ty t) (covering-ty b) ∙ combines))
    (each_covers (is_plain a) (is_plain b) (covered a) (covered b) of_a.covers of_b.covers
    (second-of (is_scalar t) (is_plain a && is_plain b) plain))) (omega arith)

pub cond-covers : {n m k : ℕ} (span : Span) (t : Ty) (c a b : TExpr) → Covers n c → Covers m a → Covers k b →
    Covers value_leaves (texpr span t (node.Cond c a b))
unfolding given_typed
cond-covers span t c a b of_c of_a of_b = made value_leaves span t (TNode-F.Cond c a b)
    (λ plain. each_covers (is_plain c) (is_plain a && is_plain b) (covered c) (covered a && covered b) of_c.covers
    (each_covers (is_plain a) (is_plain b) (covered a) (covered b) of_a.covers of_b.covers) plain) (omega arith)

pub cast-covers : {n : ℕ} (span : Span) (t s : Ty) (e : TExpr) → Covers n e → Covers value_leaves (texpr span t (node.Cast s e))
unfolding given_typed
cast-covers span t s e of_e = made value_leaves span t (TNode-F.Cast s e) of_e.covers (omega arith)

pub sizeof-covers : (span : Span) (t : Ty) (e : TExpr) → Covers value_leaves (texpr span t (node.SizeofExpr e))
unfolding given_typed
sizeof-covers span t e = made value_leaves span t (TNode-F.SizeofExpr e) (λ plain. refl) (omega arith)

pub sizeof-name-covers : (span : Span) (t s : Ty) → Covers value_leaves (texpr span t (node.SizeofName s))
unfolding given_typed
sizeof-name-covers span t s = made value_leaves span t (TNode-F.SizeofName s) (λ plain. refl) (omega arith)

all_cover : (es : List TExpr) → AllByRecursion (Covers converted_leaves) es → all_plain (map is_plain es) ≡ true →
    all_covered (map covering es) ≡ true
all_cover [] all plain = refl
all_cover (e ∷ es) all plain =
    each_covers (is_plain e) (all_plain (map is_plain es)) (covered e) (all_covered (map covering es)) all.0.covers (all_cover es all.1)
    plain

as_many : (es : List TExpr) → length (map covering es) ≡ length (map is_plain es)
as_many [] = refl
as_many (e ∷ es) = ap suc (as_many es)

pub call-covers : (span : Span) (t : Ty) (f : Callee) (es : List TExpr) → AllByRecursion (Covers converted_leaves) es →
    Covers value_leaves (texpr span t (node.Call f es))
unfolding given_typed
call-covers span t f es all = made value_leaves span t (TNode-F.Call f es)
    (λ plain. and-true (nat_le (length (map covering es)) 8) (all_covered (map covering es))
    (ap (λ n. nat_le n 8) (as_many es) ∙ first-of (nat_le (length (map is_plain es)) 8) (all_plain (map is_plain es)) plain)
    (all_cover es all (second-of (nat_le (length (map is_plain es)) 8) (all_plain (map is_plain es)) plain))) (omega arith)

pub index-covers : {n m : ℕ} (span : Span) (t : Ty) (a i : TExpr) → Covers n a → Covers m i →
    Covers value_leaves (texpr span t (node.Index a i))
unfolding given_typed
index-covers span t a i of_a of_i = made value_leaves span t (TNode-F.Index a i)
    (each_covers (is_plain a) (is_plain i) (covered a) (covered i) of_a.covers of_i.covers) (omega arith)

pub member-covers : (span : Span) (t : Ty) (e : TExpr) (k : ℕ) → Covers value_leaves (texpr span t (node.Member e k))
unfolding given_typed
member-covers span t e k = made value_leaves span t (TNode-F.Member e k) (λ plain. plain) (omega arith)

pub arrow-covers : (span : Span) (t : Ty) (e : TExpr) (k : ℕ) → Covers value_leaves (texpr span t (node.Arrow e k))
unfolding given_typed
arrow-covers span t e k = made value_leaves span t (TNode-F.Arrow e k) (λ plain. plain) (omega arith)

pub step-covers : {n : ℕ} (span : Span) (t : Ty) (o : Step) (e : TExpr) → Covers n e → Covers value_leaves (texpr span t (node.Step o e))
unfolding given_typed
step-covers span t o e of_e = made value_leaves span t (TNode-F.Step o e) of_e.covers (omega arith)

pub read-covers : {n : ℕ} (span : Span) (t : Ty) (e : TExpr) → Covers n e → Covers value_leaves (texpr span t (node.Read e))
unfolding given_typed
read-covers span t e of_e = made value_leaves span t (TNode-F.Read e) of_e.covers (omega arith)

pub decay-covers : {n : ℕ} (span : Span) (t : Ty) (e : TExpr) → Covers n e → Covers value_leaves (texpr span t (node.Decay e))
unfolding given_typed
decay-covers span t e of_e = made value_leaves span t (TNode-F.Decay e) of_e.covers (omega arith)

under : (n : ℕ) → value_leaves ≤ n → nat_lt bare_leaves n ≡ true
under n most = grind (arith, nat_tests)

pub convert-covers : (span : Span) (t : Ty) (e : TExpr) → Covers value_leaves e → Covers converted_leaves (texpr span t (node.Convert e))
unfolding given_typed
convert-covers span t e of_e = made converted_leaves span t (TNode-F.Convert e)
    (λ plain. and-true (nat_lt bare_leaves (leaves e)) (covered e) (under (leaves e) of_e.least) (of_e.covers plain))
    (let most : 7 ≤ leaves e = of_e.least in omega (arith, most))
