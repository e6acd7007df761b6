-- What is judged of an expression, one equation a construct with parts.
use Rattle.std.proofs.Common.{◌≡◌, refl, sym, ◌∙◌, ap, subst, ℕ, List, map, Option, Some, None}
use Rattle.c_ast.specs.Tree.{expr}
use Rattle.c_ast.specs.declared.token.Span.{Span}
use Rattle.c_ast.specs.declared.operator.UnaryOperator.{UnaryOperator}
use Rattle.c_ast.specs.declared.operator.BinaryOperator.{BinaryOperator}
use Rattle.c_ast.specs.declared.operator.AssignOperator.{AssignOperator}
use Rattle.c_ast.specs.declared.operator.Step.{Step}
use Rattle.c_ast.specs.declared.expr.CType.{CType}
use Rattle.c_ast.specs.declared.expr.Expr.{Expr}
use Rattle.c_ast.specs.declared.expr.Node.TheVariants as node
use Rattle.c_type_base.specs.declared.known.Known.{Known}
use Rattle.c_type_expr.specs.declared.walk.Walk.{Walk}
use Rattle.c_type_expr.specs.Outcomes.{Judged, both, pair, sure, on, either}
use Rattle.c_type_base.specs.Known.{value}
use Rattle.c_type_expr.specs.Operators.{binary_judged, sort_of}
use Rattle.c_type_expr.specs.Said.{Said, whole}
use Rattle.c_type_base.specs.Types.{struct_of}
use Rattle.c_type_expr.specs.Postfix.{member_row, call}
use Rattle.c_type_expr.specs.Expressions.{expression, written, in_parentheses, unary_row, assign_row, conditional, cast_judged}
use Rattle.c_type_expr.specs.Expressions.{sizeof_row, sizeof_type, index_of, arrow_of, step_row}
use Rattle.c_type_expr.specs.Laws.SaidLaws.{said-paren, said-unary, said-binary, said-assign, said-cond, said-cast, said-sizeof}
use Rattle.c_type_expr.specs.Laws.SaidLaws.{said-sizeof_name, said-call, said-index, said-member, said-arrow, said-step}
use Rattle.c_type_expr.specs.Walked.{Walked}
use Rattle.c_type_expr.specs.Laws.WalkedLaws.{walked_on, walked_on_none, walked_either, walked_either_none}

abbrev judged_in : Said → Judged Known
judged_in s = s.judged

pub walked_as : {A : Type 0} (p q : Judged A) (w w' : Walk) (k : Option A) → p ≡ q → Walked q w w' k → Walked p w w' k
walked_as p q w w' k same walked = subst (λ (x : Judged _). Walked x w w' k) (sym same) walked

known_as : {A : Type 0} (p : Judged A) (w w' : Walk) (a b : Option A) → a ≡ b → Walked p w w' a → Walked p w w' b
known_as p w w' a b same walked = record { after_is = walked.after_is; known_is = sym same ∙ walked.known_is }

-- a part, and then what is said of it where it is known
pub on_none : {A B : Type 0} (p : Judged A) (f : A → Judged B) (w w1 : Walk) (k : Option A) → k ≡ None → Walked p w w1 k →
    Walked (on p f) w w1 None
on_none p f w w1 k none walked = walked_on_none p f w w1 (known_as p w w1 k None none walked)

pub on_some : {A B : Type 0} (p : Judged A) (f : A → Judged B) (w w1 w2 : Walk) (k : Option A) (v : A) (b : Option B) → k ≡ Some v →
    Walked p w w1 k → Walked (f v) w1 w2 b → Walked (on p f) w w2 b
on_some p f w w1 w2 k v b some walked next = walked_on p f w w1 w2 v b (known_as p w w1 k (Some v) some walked) next

pub either_none : {A B : Type 0} (p : Judged A) (q : Judged B) (f : A → Judged B) (w w1 w2 : Walk) (k : Option A) (b : Option B) →
    k ≡ None → Walked p w w1 k → Walked q w1 w2 b → Walked (either p q f) w w2 b
either_none p q f w w1 w2 k b none walked next = walked_either_none p q f w w1 w2 b (known_as p w w1 k None none walked) next

pub either_some : {A B : Type 0} (p : Judged A) (q : Judged B) (f : A → Judged B) (w w1 w2 : Walk) (k : Option A) (v : A) (b : Option B) →
    k ≡ Some v → Walked p w w1 k → Walked (f v) w1 w2 b → Walked (either p q f) w w2 b
either_some p q f w w1 w2 k v b some walked next = walked_either p q f w w1 w2 v b (known_as p w w1 k (Some v) some walked) next

-- two parts
pub no_first : {A B : Type 0} (a : Option A) (b : Option B) → a ≡ None → pair a b ≡ None
no_first None b none = refl
no_first (Some a) b none = absurd (cc)

pub no_second : {A B : Type 0} (a : Option A) (b : Option B) → b ≡ None → pair a b ≡ None
no_second None b none = refl
no_second (Some a) None none = refl
no_second (Some a) (Some b) none = absurd (cc)

pub with_both : {A B : Type 0} (a : Option A) (b : Option B) (x : A) (y : B) → a ≡ Some x → b ≡ Some y → pair a b ≡ Some (x, y)
with_both a b x y some other = ap (λ k. pair k b) some ∙ ap (pair (Some x)) other

pub judged-paren : (span : Span) (e : Expr) → (expression (expr span (node.Paren e))).judged ≡
    on (expression e).judged (λ k. sure (in_parentheses span k))
judged-paren span e = ap judged_in (said-paren span e)

pub judged-unary : (span : Span) (o : UnaryOperator) (e : Expr) → (expression (expr span (node.Unary o e))).judged ≡
    on (expression e).judged (unary_row o span)
judged-unary span o e = ap judged_in (said-unary span o e)

pub judged-binary : (span : Span) (o : BinaryOperator) (a b : Expr) → (expression (expr span (node.Binary o a b))).judged ≡
    on (both (expression a).judged (expression b).judged) (λ (x, y). binary_judged o span (value x) (value y))
judged-binary span o a b = ap judged_in (said-binary span o a b)

pub judged-assign : (span : Span) (o : Option AssignOperator) (a b : Expr) → (expression (expr span (node.Assign o a b))).judged ≡
    on (both (expression a).judged (expression b).judged) (λ (x, y). assign_row o span x y)
judged-assign span o a b = ap judged_in (said-assign span o a b)

pub judged-cond : (span : Span) (c a b : Expr) → (expression (expr span (node.Cond c a b))).judged ≡
    conditional (expression c) (expression a) (expression b) span
judged-cond span c a b = ap judged_in (said-cond span c a b)

pub judged-cast : (span : Span) (t : CType) (e : Expr) → (expression (expr span (node.Cast t e))).judged ≡
    cast_judged (written t) (expression e) span
judged-cast span t e = ap judged_in (said-cast span t e)

pub judged-sizeof : (span : Span) (e : Expr) → (expression (expr span (node.SizeofExpr e))).judged ≡
    on (expression e).judged (sizeof_row span)
judged-sizeof span e = ap judged_in (said-sizeof span e)

pub judged-sizeof_name : (span : Span) (t : CType) → (expression (expr span (node.SizeofName t))).judged ≡
    on (on (written t span) (whole span)) (sizeof_type span)
judged-sizeof_name span t = ap judged_in (said-sizeof_name span t)

pub judged-call : (span : Span) (f : Expr) (es : List Expr) → (expression (expr span (node.Call f es))).judged ≡
    call (expression f) (map expression es) span
judged-call span f es = ap judged_in (said-call span f es)

pub judged-index : (span : Span) (a i : Expr) → (expression (expr span (node.Index a i))).judged ≡
    on (both (expression a).judged (expression i).judged) (λ (x, y). index_of span x y)
judged-index span a i = ap judged_in (said-index span a i)

pub judged-member : (span : Span) (e : Expr) (name : List ℕ) → (expression (expr span (node.Member e name))).judged ≡
    on (expression e).judged (λ k. member_row span k name (struct_of k.tree.ty))
judged-member span e name = ap judged_in (said-member span e name)

pub judged-arrow : (span : Span) (e : Expr) (name : List ℕ) → (expression (expr span (node.Arrow e name))).judged ≡
    on (expression e).judged (λ k. arrow_of span k name)
judged-arrow span e name = ap judged_in (said-arrow span e name)

pub judged-step : (span : Span) (s : Step) (e : Expr) → (expression (expr span (node.Step s e))).judged ≡
    on (expression e).judged (λ k. step_row s span k (sort_of k))
judged-step span s e = ap judged_in (said-step span s e)
