-- An expression as an initialiser is walked as an expression, and then by its row.
use Rattle.std.proofs.Common.{◌≡◌, refl, sym, ◌∙◌, ap, subst, ℕ, ◌+◌, arith, Bool, false, List, [], ◌∷◌, ◌++◌, length, length-append}
use Rattle.std.proofs.Common.{Option, Some, None}
use Rattle.std.specs.Prelude.{leb}
use Rattle.std.proofs.lemmas.Bool.Decides.{nat_tests}
use Rattle.c_ast.specs.declared.expr.Expr.{Expr}
use Rattle.c_ast.specs.declared.token.Span.{Span}
use Rattle.c_type_stmt.specs.declared.fitted.Fitted.{Fitted}
use Rattle.c_type_base.specs.declared.known.Known.{Known}
use Rattle.c_type_base.specs.declared.ty.Ty.{Ty, out-Ty}
use Rattle.c_type_expr.specs.declared.walk.Walk.{Walk}
use Rattle.c_type_expr.specs.Expressions.{expression}
use Rattle.c_type_expr.specs.Faults.{rule, broken}
use Rattle.c_type_stmt.specs.Initials.{spelled, may_fit, assigned, array_by}
use Rattle.c_type_base.specs.Known.{value, is_value}
use Rattle.c_type_expr.specs.Operators.{breaks}
use Rattle.c_type_expr.specs.Outcomes.{Judged, asked}
use Rattle.c_type_stmt.specs.Slots.{text_row, no_text_row, scalar_row}
use Rattle.c_type_expr.specs.Walked.{blamed, Walked}
use Rattle.c_type_expr.specs.Laws.SaidLaws.{said-span}
use Rattle.c_type_expr.specs.Laws.NodeLaws.{on_none, on_some, either_none, either_some}
use Rattle.c_type_expr.specs.Laws.WalkedLaws.{walked_asked, walked_breaks}

-- a text fits where it does without the final zero
pub text_fits : (bytes : List ℕ) (n : ℕ) → leb (length (bytes ++ 0 ∷ [])) (n + 1) ≡ leb (length bytes) n
text_fits bytes n = ap (λ m. leb m (n + 1)) (length-append bytes (0 ∷ [])) ∙ grind (arith, nat_tests)

pub text_unknown : (e : Expr) (n : ℕ) (bytes : List ℕ) (w w' : Walk) (k : Option Known) → k ≡ None → Walked (expression e).judged w w' k →
    Walked (text_row (expression e) n bytes) w w' None
text_unknown e n bytes w w' k is first = on_none (expression e).judged (spelled (expression e).span n bytes) w w' k is first

pub text_known : (e : Expr) (n : ℕ) (bytes : List ℕ) (w w1 w2 : Walk) (k : Option Known) (v : Known) (f : Fitted) → k ≡ Some v →
    Walked (expression e).judged w w1 k → Walked (spelled e.span n bytes v) w1 w2 (Some f) →
    Walked (text_row (expression e) n bytes) w w2 (Some f)
text_known e n bytes w w1 w2 k v f is first next =
    on_some (expression e).judged (spelled (expression e).span n bytes) w w1 w2 k v (Some f) is first
    (subst (λ (span : Span). Walked (spelled span n bytes v) w1 w2 (Some f)) (sym (said-span e)) next)

pub no_text_unknown : (e : Expr) (w w1 w2 : Walk) (k : Option Known) → k ≡ None → Walked (expression e).judged w w1 k →
    w2 ≡ blamed w1 (broken e.span (rule 16 false ∷ [])) → Walked (no_text_row (expression e)) w w2 None
no_text_unknown e w w1 w2 k is first next =
    let span = (expression e).span in
    either_none (expression e).judged (breaks 16 span) (λ k. asked span (rule 12 (is_value k) ∷ rule 16 false ∷ [])) w w1 w2 k None is first
    (subst (λ (span : Span). Walked {A = Fitted} (breaks 16 span) w1 w2 None) (sym (said-span e))
    (walked_breaks {A = Fitted} 16 e.span w1 w2 next))

pub no_text_known : (e : Expr) (w w1 w2 : Walk) (k : Option Known) (v : Known) → k ≡ Some v → Walked (expression e).judged w w1 k →
    w2 ≡ blamed w1 (broken e.span (rule 12 (is_value v) ∷ rule 16 false ∷ [])) → Walked (no_text_row (expression e)) w w2 None
no_text_known e w w1 w2 k v is first next =
    let span = (expression e).span in
    either_some (expression e).judged (breaks 16 span)
    (λ k. asked span (rule 12 (is_value k) ∷ rule 16 false ∷ [])) w w1 w2 k v None is first
    (subst (λ (span : Span). Walked {A = Fitted} (asked span (rule 12 (is_value v) ∷ rule 16 false ∷ [])) w1 w2 None) (sym (said-span e))
    (walked_asked {A = Fitted} e.span (rule 12 (is_value v) ∷ rule 16 false ∷ []) w1 w2 next))

pub scalar_unfit : (e : Expr) (from_start : Bool) (t : Ty) (w w1 w2 : Walk) (k : Option Known) → k ≡ None →
    Walked (expression e).judged w w1 k →
    w2 ≡ blamed w1 (broken e.span (rule 16 (may_fit from_start (expression e).computes (out-Ty t)) ∷ [])) →
    Walked (scalar_row (expression e) from_start t) w w2 None
scalar_unfit e from_start t w w1 w2 k is first next =
    let s = expression e in
    let rules = rule 16 (may_fit from_start s.computes (out-Ty t)) ∷ [] in
    either_none s.judged (asked s.span rules) (λ k. assigned s.span from_start t (value k)) w w1 w2 k None is first
    (subst (λ (span : Span). Walked {A = Fitted} (asked span rules) w1 w2 None) (sym (said-span e))
    (walked_asked {A = Fitted} e.span rules w1 w2 next))

pub scalar_fit : (e : Expr) (from_start : Bool) (t : Ty) (w w1 w2 : Walk) (k : Option Known) (v u : Known) (f : Fitted) → k ≡ Some v →
    Walked (expression e).judged w w1 k → u ≡ value v → Walked (assigned e.span from_start t u) w1 w2 (Some f) →
    Walked (scalar_row (expression e) from_start t) w w2 (Some f)
scalar_fit e from_start t w w1 w2 k v u f is first valued next =
    let s = expression e in
    let rules = rule 16 (may_fit from_start s.computes (out-Ty t)) ∷ [] in
    either_some s.judged (asked s.span rules) (λ k. assigned s.span from_start t (value k)) w w1 w2 k v (Some f) is first
    (subst (λ (span : Span). Walked (assigned span from_start t (value v)) w1 w2 (Some f)) (sym (said-span e))
    (subst (λ (x : Known). Walked (assigned e.span from_start t x) w1 w2 (Some f)) valued next))

-- all is the same for an array of others, whether or not it is a text
array_of_others : (span : Span) (p : Judged Known) (text : Option (List ℕ)) (n : ℕ) →
    array_by span p text false n ≡ array_by span p None false 0
array_of_others span p None n = refl
array_of_others span p (Some bytes) n = refl

pub array_false : (e : Expr) (chars : Bool) (n : ℕ) (w w' : Walk) (k : Option Fitted) → chars ≡ false →
    Walked (no_text_row (expression e)) w w' k → Walked (array_by e.span (expression e).judged (expression e).text chars n) w w' k
array_false e chars n w w' k is walked =
    subst (λ (p : Judged Fitted). Walked p w w' k)
    (sym (ap (λ b. array_by e.span (expression e).judged (expression e).text b n) is
    ∙ array_of_others e.span (expression e).judged (expression e).text n))
    (subst (λ (span : Span). Walked (array_by span (expression e).judged None false 0) w w' k) (said-span e) walked)
