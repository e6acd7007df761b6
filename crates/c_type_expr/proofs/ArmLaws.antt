-- A walk that passes the parts of a construct and then does what follows them passes the construct: one law a construct.
use Rattle.std.proofs.Common.{◌≡◌, refl, sym, ◌∙◌, ap, subst, ℕ, ◌+◌, ◌<◌, ◌≤◌, List, [], ◌∷◌, ◌++◌, map, take, get_or, length, Option}
use Rattle.std.proofs.Common.{Some, None}
use Rattle.std.proofs.lemmas.List.{take_all}
use Rattle.std.proofs.lemmas.Result.{IfOk-weaker}
use Rattle.std.specs.Prelude.{IfOk, Result}
use Rattle.c_ast.specs.Tree.{expr}
use Rattle.c_ast.specs.declared.token.Span.{Span}
use Rattle.c_ast.specs.declared.int_type.IntType.{IntType}
use Rattle.c_ast.specs.declared.operator.UnaryOperator.{UnaryOperator}
use Rattle.c_ast.specs.declared.operator.BinaryOperator.{BinaryOperator}
use Rattle.c_ast.specs.declared.operator.AssignOperator.{AssignOperator}
use Rattle.c_ast.specs.declared.operator.Step.{Step}
use Rattle.c_ast.specs.declared.expr.CType.{CType}
use Rattle.c_ast.specs.declared.expr.CType.TheVariants as ctype
use Rattle.c_ast.specs.declared.expr.Expr.{Expr}
use Rattle.c_ast.specs.declared.expr.Node.{Node}
use Rattle.c_ast.specs.declared.expr.Node.TheVariants as node
use Rattle.c_type_base.specs.declared.known.Known.{Known}
use Rattle.c_type_base.specs.declared.known.Written.{Written}
use Rattle.c_type_base.specs.declared.known.Written.TheVariants.{Whole}
use Rattle.c_type_base.specs.declared.ty.Ty.{Ty}
use Rattle.c_type_base.specs.declared.ty.Ty.TheVariants as ty
use Rattle.c_type_base.specs.Known.{value}
use Rattle.c_type_base.specs.Types.{struct_of}
use Rattle.c_type_expr.specs.declared.walk.Walk.{Walk}
use Rattle.c_type_expr.specs.declared.scopes.Called.{Called}
use Rattle.c_type_expr.specs.Faults.{rule}
use Rattle.c_type_expr.specs.Outcomes.{option_map, Judged, both, pair, sure, on, each, asked, either}
use Rattle.c_type_expr.specs.Operators.{sort_of}
use Rattle.c_type_expr.specs.Parts.{binary_values, cond_values, call_by, not_called_by}
use Rattle.c_type_expr.specs.Said.{whole, pointer_to, array_of, struct_tag, judged_length, length_known, constant_known, text, variable}
use Rattle.c_type_expr.specs.Sorted.{with_known}
use Rattle.c_type_expr.specs.Postfix.{member_row, argument, function_in, meaning_by}
use Rattle.c_type_expr.specs.Expressions.{expression, written, judged_value, in_parentheses, unary_row, assign_row, cast_row, sizeof_row}
use Rattle.c_type_expr.specs.Expressions.{sizeof_type, index_of, arrow_of, step_row}
use Rattle.c_type_expr.specs.Laws.SaidLaws.{said-span, said-constant, said-text, said-variable, written-void, written-int, written-struct}
use Rattle.c_type_expr.specs.Laws.SaidLaws.{written-pointer, written-array, written-open}
use Rattle.c_type_expr.specs.Walked.{env_of, Walked, Followed, Met}
use Rattle.c_type_expr.proofs.CallLaws.{argument_of, arguments_are, argument_walked, call_named, call_other}
use Rattle.c_type_expr.specs.Laws.EachLaws.{as_known, walked_next}
use Rattle.c_type_expr.specs.Laws.NodeLaws.{walked_as, judged-paren, judged-unary, judged-binary, judged-assign, judged-cond, judged-cast}
use Rattle.c_type_expr.specs.Laws.NodeLaws.{judged-sizeof, judged-sizeof_name, judged-call, judged-index, judged-member, judged-arrow}
use Rattle.c_type_expr.specs.Laws.NodeLaws.{judged-step}
use Rattle.c_type_expr.specs.Laws.WalkedLaws.{walked_sure, walked_on, walked_on_none, walked_both, walked_followed, walked_met}

-- ---- one part, and two

by_row : {A B : Type 0} (all : Judged B) (p : Judged A) (f : A → Judged B) (w w1 w2 : Walk) (a : Option A) (b : Option B) →
    all ≡ on p f → Walked p w w1 a → Followed f a w1 w2 b → Walked all w w2 b
by_row all p f w w1 w2 a b is first next = walked_as all (on p f) w w2 b is (walked_followed p f w w1 w2 a b first next)

by_two : {A B C : Type 0} (all : Judged C) (p : Judged A) (q : Judged B) (f : A × B → Judged C) (w w1 w2 w3 : Walk) (a : Option A)
    (b : Option B)
    (c : Option C) → all ≡ on (both p q) f → Walked p w w1 a → Walked q w1 w2 b → Followed f (pair a b) w2 w3 c → Walked all w w3 c
by_two all p q f w w1 w2 w3 a b c is first second next =
    by_row all (both p q) f w w2 w3 (pair a b) c is (walked_both p q w w1 w2 a b first second) next

-- ---- answers that are no want of memory

pub then_ok : {A E : Type 0} {P Q : A → Type 0} (r : Result A E) → IfOk r P → ((a : A) → P a → Q a) → IfOk r Q
then_ok {A} {E} {P} {Q} r ok next = IfOk-weaker r P Q next ok

pub node_ok : {E : Type 0} {P : Option Known → Type 0} (span : Span) (n m : Node) (w w' : Walk) (r : Result (Option Known) E) → n ≡ m →
    IfOk r P → ((k : Option Known) → P k → Walked (expression (expr span m)).judged w w' k) →
    IfOk r (λ k. Walked (expression (expr span n)).judged w w' k)
node_ok span n m w w' r is ok next =
    subst (λ (x : Node). IfOk r (λ k. Walked (expression (expr span x)).judged w w' k)) (sym is) (then_ok r ok next)

pub node_at : (span : Span) (n m : Node) (w w' : Walk) (k : Option Known) → n ≡ m → Walked (expression (expr span m)).judged w w' k →
    Walked (expression (expr span n)).judged w w' k
node_at span n m w w' k is walked = subst (λ (x : Node). Walked (expression (expr span x)).judged w w' k) (sym is) walked

pub type_ok : {E : Type 0} {P : Option Written → Type 0} (span : Span) (t u : CType) (w w' : Walk) (r : Result (Option Written) E) → t ≡ u →
    IfOk r P → ((k : Option Written) → P k → Walked (written u span) w w' k) → IfOk r (λ k. Walked (written t span) w w' k)
type_ok span t u w w' r is ok next =
    subst (λ (x : CType). IfOk r (λ k. Walked (written x span) w w' k)) (sym is) (then_ok r ok next)

-- ---- expressions without parts

known_sure : {A : Type 0} (all : Judged A) (a k : A) (w : Walk) → all ≡ sure a → k ≡ a → Walked all w w (Some k)
known_sure all a k w is same =
    walked_as all (sure a) w w (Some k) is (as_known (sure a) w w (Some a) (Some k) (ap Some (sym same)) (walked_sure w a))

pub arm_constant : (span : Span) (n : ℕ) (t : IntType) (w : Walk) (k : Known) → k ≡ constant_known span n t →
    Walked (expression (expr span (node.Constant n t))).judged w w (Some k)
arm_constant span n t w k same = known_sure _ (constant_known span n t) k w (ap (λ s. s.judged) (said-constant span n t)) same

pub arm_text : (span : Span) (bytes : List ℕ) (w w1 : Walk) (k : Option Known) → Walked (text (bytes ++ 0 ∷ []) span) w w1 k →
    Walked (expression (expr span (node.Text bytes))).judged w w1 k
arm_text span bytes w w1 k walked = walked_as _ (text (bytes ++ 0 ∷ []) span) w w1 k (ap (λ s. s.judged) (said-text span bytes)) walked

pub arm_variable : (span : Span) (name : List ℕ) (w w1 : Walk) (k : Option Known) → Walked (variable name span) w w1 k →
    Walked (expression (expr span (node.Variable name))).judged w w1 k
arm_variable span name w w1 k walked = walked_as _ (variable name span) w w1 k (ap (λ s. s.judged) (said-variable span name)) walked

-- ---- expressions of one part

parens : (span : Span) (e : Expr) (w w1 : Walk) (a : Option Known) → Walked (expression e).judged w w1 a →
    Walked (expression (expr span (node.Paren e))).judged w w1 (option_map (in_parentheses span) a)
parens span e w w1 None first =
    walked_as _ _ w w1 None (judged-paren span e) (walked_on_none (expression e).judged (λ k. sure (in_parentheses span k)) w w1 first)
parens span e w w1 (Some k) first =
    walked_as _ _ w w1 (Some (in_parentheses span k)) (judged-paren span e)
    (walked_on (expression e).judged (λ k. sure (in_parentheses span k)) w w1 w1 k (Some (in_parentheses span k)) first
    (walked_sure w1 (in_parentheses span k)))

pub arm_paren : (span : Span) (e : Expr) (w w1 : Walk) (a k : Option Known) → Walked (expression e).judged w w1 a →
    k ≡ option_map (in_parentheses span) a → Walked (expression (expr span (node.Paren e))).judged w w1 k
arm_paren span e w w1 a k first same = as_known _ w w1 (option_map (in_parentheses span) a) k (sym same) (parens span e w w1 a first)

pub arm_unary : (span : Span) (o : UnaryOperator) (e : Expr) (w w1 w2 : Walk) (a k : Option Known) → Walked (expression e).judged w w1 a →
    Followed (unary_row o span) a w1 w2 k → Walked (expression (expr span (node.Unary o e))).judged w w2 k
arm_unary span o e w w1 w2 a k first next =
    by_row _ (expression e).judged (unary_row o span) w w1 w2 a k (judged-unary span o e) first next

pub arm_sizeof : (span : Span) (e : Expr) (w w1 w2 : Walk) (a k : Option Known) → Walked (expression e).judged w w1 a →
    Followed (sizeof_row span) a w1 w2 k → Walked (expression (expr span (node.SizeofExpr e))).judged w w2 k
arm_sizeof span e w w1 w2 a k first next =
    by_row _ (expression e).judged (sizeof_row span) w w1 w2 a k (judged-sizeof span e) first next

pub arm_step : (span : Span) (s : Step) (e : Expr) (w w1 w2 : Walk) (a k : Option Known) → Walked (expression e).judged w w1 a →
    Followed (λ e. step_row s span e (sort_of e)) a w1 w2 k → Walked (expression (expr span (node.Step s e))).judged w w2 k
arm_step span s e w w1 w2 a k first next =
    by_row _ (expression e).judged (λ e. step_row s span e (sort_of e)) w w1 w2 a k (judged-step span s e) first next

pub arm_member : (span : Span) (e : Expr) (name : List ℕ) (w w1 w2 : Walk) (a k : Option Known) → Walked (expression e).judged w w1 a →
    Followed (λ e. member_row span e name (struct_of e.tree.ty)) a w1 w2 k →
    Walked (expression (expr span (node.Member e name))).judged w w2 k
arm_member span e name w w1 w2 a k first next =
    by_row _ (expression e).judged (λ e. member_row span e name (struct_of e.tree.ty)) w w1 w2 a k (judged-member span e name) first next

pub arm_arrow : (span : Span) (e : Expr) (name : List ℕ) (w w1 w2 : Walk) (a k : Option Known) → Walked (expression e).judged w w1 a →
    Followed (λ e. arrow_of span e name) a w1 w2 k → Walked (expression (expr span (node.Arrow e name))).judged w w2 k
arm_arrow span e name w w1 w2 a k first next =
    by_row _ (expression e).judged (λ e. arrow_of span e name) w w1 w2 a k (judged-arrow span e name) first next

-- ---- expressions of several parts

pub arm_binary : (span : Span) (o : BinaryOperator) (x y : Expr) (w w1 w2 w3 : Walk) (a b k : Option Known) →
    Walked (expression x).judged w w1 a → Walked (expression y).judged w1 w2 b → Followed (binary_values o span) (pair a b) w2 w3 k →
    Walked (expression (expr span (node.Binary o x y))).judged w w3 k
arm_binary span o x y w w1 w2 w3 a b k first second next =
    by_two _ (expression x).judged (expression y).judged (binary_values o span) w w1 w2 w3 a b k (judged-binary span o x y) first second
    next

pub arm_assign : (span : Span) (o : Option AssignOperator) (x y : Expr) (w w1 w2 w3 : Walk) (a b k : Option Known) →
    Walked (expression x).judged w w1 a → Walked (expression y).judged w1 w2 b →
    Followed (λ (x, y). assign_row o span x y) (pair a b) w2 w3 k → Walked (expression (expr span (node.Assign o x y))).judged w w3 k
arm_assign span o x y w w1 w2 w3 a b k first second next =
    by_two _ (expression x).judged (expression y).judged (λ (x, y). assign_row o span x y) w w1 w2 w3 a b k (judged-assign span o x y)
    first second next

pub arm_index : (span : Span) (x i : Expr) (w w1 w2 w3 : Walk) (a b k : Option Known) →
    Walked (expression x).judged w w1 a → Walked (expression i).judged w1 w2 b →
    Followed (λ (x, y). index_of span x y) (pair a b) w2 w3 k → Walked (expression (expr span (node.Index x i))).judged w w3 k
arm_index span x i w w1 w2 w3 a b k first second next =
    by_two _ (expression x).judged (expression i).judged (λ (x, y). index_of span x y) w w1 w2 w3 a b k (judged-index span x i)
    first second next

pub arm_cond : (span : Span) (c x y : Expr) (w w1 w2 w3 w4 : Walk) (d a b k : Option Known) → Walked (expression c).judged w w1 d →
    Walked (expression x).judged w1 w2 a → Walked (expression y).judged w2 w3 b → Followed (cond_values span) (pair d (pair a b)) w3 w4 k →
    Walked (expression (expr span (node.Cond c x y))).judged w w4 k
arm_cond span c x y w w1 w2 w3 w4 d a b k first second third next =
    by_two _ (expression c).judged (both (expression x).judged (expression y).judged) (cond_values span) w w1 w3 w4 d (pair a b) k
    (judged-cond span c x y) first (walked_both (expression x).judged (expression y).judged w1 w2 w3 a b second third) next

pub arm_cast : (span : Span) (t : CType) (e : Expr) (w w1 w2 w3 : Walk) (a : Option Ty) (b k : Option Known) →
    Walked (on (written t span) (whole span)) w w1 a → Walked (expression e).judged w1 w2 b →
    Followed (λ (t, k). cast_row span t (value k)) (pair a b) w2 w3 k → Walked (expression (expr span (node.Cast t e))).judged w w3 k
arm_cast span t e w w1 w2 w3 a b k first second next =
    by_two _ (on (written t span) (whole span)) (expression e).judged (λ (t, k). cast_row span t (value k)) w w1 w2 w3 a b k
    (judged-cast span t e) first second next

pub arm_sizeof_name : (span : Span) (t : CType) (w w1 w2 : Walk) (a : Option Ty) (k : Option Known) →
    Walked (on (written t span) (whole span)) w w1 a → Followed (sizeof_type span) a w1 w2 k →
    Walked (expression (expr span (node.SizeofName t))).judged w w2 k
arm_sizeof_name span t w w1 w2 a k first next =
    by_row _ (on (written t span) (whole span)) (sizeof_type span) w w1 w2 a k (judged-sizeof_name span t) first next

-- ---- calls

pub arm_call : (span : Span) (f : Expr) (es fs : List Expr) (w w1 w2 : Walk) (ks : Option (List Known)) (k : Option Known)
    (c : Option Called) (called : Called) → fs ≡ es → c ≡ function_in (meaning_by (expression f).name (env_of w)) → c ≡ Some called →
    Walked (each (map argument (map expression fs))) w w1 ks → Followed (call_by span called) ks w1 w2 k →
    Walked (expression (expr span (node.Call f es))).judged w w2 k
arm_call span f es fs w w1 w2 ks k c called same is some first next =
    let listed = subst (λ (xs : List Expr). Walked (each (map argument (map expression xs))) w w1 ks) same first in
    walked_as _ _ w w2 k (judged-call span f es)
    (call_named (expression f) (map expression es) span w w2 k called (sym is ∙ some)
    (walked_followed (each (map argument (map expression es))) (call_by span called) w w1 w2 ks k listed next))

pub arm_not_called : (span : Span) (f : Expr) (es fs : List Expr) (w w1 w2 w3 : Walk) (a : Option Known) (ks : Option (List Known))
    (k : Option Known) (c : Option Called) → fs ≡ es → c ≡ function_in (meaning_by (expression f).name (env_of w)) → c ≡ None →
    Walked (expression f).judged w w1 a → Walked (each (map argument (map expression fs))) w1 w2 ks →
    Followed (not_called_by span) (pair a ks) w2 w3 k → Walked (expression (expr span (node.Call f es))).judged w w3 k
arm_not_called span f es fs w w1 w2 w3 a ks k c same is none first second next =
    let listed = subst (λ (xs : List Expr). Walked (each (map argument (map expression xs))) w1 w2 ks) same second in
    walked_as _ _ w w3 k (judged-call span f es)
    (call_other (expression f) (map expression es) span w w3 k (sym is ∙ none)
    (by_two _ (expression f).judged (each (map argument (map expression es))) (not_called_by span) w w1 w2 w3 a ks k refl first listed
    next))

-- ---- values

pub arm_value_none : (e : Expr) (w w1 : Walk) (a : Option Known) → a ≡ None → Walked (expression e).judged w w1 a →
    Walked (judged_value e) w w1 None
arm_value_none e w w1 a none first =
    walked_on_none (expression e).judged (λ k. sure (value k)) w w1 (as_known (expression e).judged w w1 a None none first)

pub arm_value : (e : Expr) (w w1 : Walk) (a : Option Known) (k v : Known) → a ≡ Some k → v ≡ value k → Walked (expression e).judged w w1 a →
    Walked (judged_value e) w w1 (Some v)
arm_value e w w1 a k v some same first =
    as_known (judged_value e) w w1 (Some (value k)) (Some v) (ap Some (sym same))
    (walked_on (expression e).judged (λ k. sure (value k)) w w1 w1 k (Some (value k))
    (as_known (expression e).judged w w1 a (Some k) some first) (walked_sure w1 (value k)))

-- ---- types

pub arm_void : (span : Span) (w : Walk) → Walked (written ctype.Void span) w w (Some (Whole ty.Void))
arm_void span w = known_sure (written ctype.Void span) (Whole ty.Void) (Whole ty.Void) w (ap (λ f. f span) written-void) refl

pub arm_int : (span : Span) (t : IntType) (w : Walk) → Walked (written (ctype.Int t) span) w w (Some (Whole (ty.Int t)))
arm_int span t w = known_sure (written (ctype.Int t) span) (Whole (ty.Int t)) (Whole (ty.Int t)) w (ap (λ f. f span) (written-int t)) refl

pub arm_struct : (span : Span) (tag : List ℕ) (w w1 : Walk) (k : Option Written) → Walked (struct_tag span tag) w w1 k →
    Walked (written (ctype.Struct tag) span) w w1 k
arm_struct span tag w w1 k walked = walked_as _ (struct_tag span tag) w w1 k (ap (λ f. f span) (written-struct tag)) walked

pub arm_whole : (span : Span) (t : CType) (w w1 w2 : Walk) (a : Option Written) (k : Option Ty) → Walked (written t span) w w1 a →
    Followed (whole span) a w1 w2 k → Walked (on (written t span) (whole span)) w w2 k
arm_whole span t w w1 w2 a k first next = walked_followed (written t span) (whole span) w w1 w2 a k first next

pub arm_pointer : (span : Span) (t : CType) (w w1 w2 : Walk) (a k : Option Written) → Walked (written t span) w w1 a →
    Followed (pointer_to span) a w1 w2 k → Walked (written (ctype.Pointer t) span) w w2 k
arm_pointer span t w w1 w2 a k first next =
    by_row _ (written t span) (pointer_to span) w w1 w2 a k (ap (λ f. f span) (written-pointer t)) first next

pub arm_open : (span : Span) (t : CType) (w w1 w2 : Walk) (a k : Option Written) → Walked (written t span) w w1 a →
    Followed (array_of span None) a w1 w2 k → Walked (written (ctype.Array t None) span) w w2 k
arm_open span t w w1 w2 a k first next =
    by_row _ (written t span) (array_of span None) w w1 w2 a k (ap (λ f. f span) (written-open t)) first next

pub arm_array : (span : Span) (t : CType) (e : Expr) (w w1 w2 w3 : Walk) (a : Option ℕ) (b k : Option Written) →
    Walked (judged_length (expression e)) w w1 a → Walked (written t span) w1 w2 b →
    Followed (λ (n, element). array_of span (Some n) element) (pair a b) w2 w3 k →
    Walked (written (ctype.Array t (Some e)) span) w w3 k
arm_array span t e w w1 w2 w3 a b k first second next =
    by_two _ (judged_length (expression e)) (written t span) (λ (n, element). array_of span (Some n) element) w w1 w2 w3 a b k
    (ap (λ f. f span) (written-array t e)) first second next

pub arm_length : (e : Expr) (w w1 w2 : Walk) (a : Option Known) (n : Option ℕ) → Walked (expression e).judged w w1 a →
    Met (asked e.span (rule 12 (expression e).computes ∷ [])) (length_known e.span) a w1 w2 n →
    Walked (judged_length (expression e)) w w2 n
arm_length e w w1 w2 a n first next =
    walked_as (judged_length (expression e)) _ w w2 n
    (ap (λ (s : Span). either (expression e).judged (asked s (rule 12 (expression e).computes ∷ [])) (length_known s)) (said-span e))
    (walked_met (expression e).judged (asked e.span (rule 12 (expression e).computes ∷ [])) (length_known e.span) w w1 w2 a n first next)

-- ---- arguments

pub arm_no_argument : (es : List Expr) (w : Walk) (ks : Option (List Known)) → ks ≡ Some [] →
    Walked (each (map argument_of (take 0 es))) w w ks
arm_no_argument es w ks none = as_known (sure []) w w (Some []) ks (sym none) (walked_sure {A = List Known} w [])

pub arm_next_argument : (es : List Expr) (i : ℕ) (d : Expr) (w w1 w2 : Walk) (ks more : Option (List Known)) (k : Option Known) →
    i < length es → Walked (each (map argument_of (take i es))) w w1 ks → Walked (expression (get_or es i d)).judged w1 w2 k →
    more ≡ with_known ks (option_map value k) → Walked (each (map argument_of (take (i + 1) es))) w w2 more
arm_next_argument es i d w w1 w2 ks more k below first second is =
    as_known _ w w2 (with_known ks (option_map value k)) more (sym is)
    (walked_next argument_of es i d w w1 w2 ks (option_map value k) below first
    (argument_walked (expression (get_or es i d)) w1 w2 k second))

pub arm_arguments : (es : List Expr) (n : ℕ) (w w' : Walk) (ks : Option (List Known)) → length es ≤ n →
    Walked (each (map argument_of (take n es))) w w' ks → Walked (each (map argument (map expression es))) w w' ks
arm_arguments es n w w' ks over walked =
    subst (λ (ps : List (Judged Known)). Walked (each ps) w w' ks) (ap (map argument_of) (take_all n es over) ∙ arguments_are es) walked
