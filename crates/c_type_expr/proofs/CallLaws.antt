-- Arguments: each is judged as an expression, and is known as its value.
use Rattle.std.proofs.Common.{◌≡◌, refl, sym, ◌∙◌, ap, List, [], ◌∷◌, ◌++◌, map, Option, Some, None, true, append-nil, ℕ, ◌≤◌, drop, length}
use Rattle.std.proofs.lemmas.List.{drop_all}
use Rattle.c_ast.specs.declared.expr.Expr.{Expr}
use Rattle.c_type_base.specs.declared.known.Known.{Known}
use Rattle.c_type_expr.specs.declared.walk.Walk.{Walk}
use Rattle.c_type_expr.specs.Outcomes.{Judged, sure, on}
use Rattle.c_type_base.specs.Known.{value}
use Rattle.c_type_expr.specs.Said.{Said}
use Rattle.c_ast.specs.declared.token.Span.{Span}
use Rattle.c_type_expr.specs.declared.scopes.Called.{Called}
use Rattle.c_type_expr.specs.Outcomes.{Outcome, each, both}
use Rattle.c_type_base.specs.declared.ty.Ty.{Ty}
use Rattle.c_type_base.specs.declared.expr.TExpr.{TExpr}
use Rattle.c_type_expr.specs.Postfix.{all_assignable, passed, argument, call, call_by, call_row, function_in, meaning_by, not_called_row}
use Rattle.c_type_expr.specs.Expressions.{expression}
use Rattle.c_type_expr.specs.Outcomes.{option_map}
use Rattle.c_type_expr.specs.Walked.{Walked, env_of, passed_by}
use Rattle.c_type_expr.specs.Laws.WalkedLaws.{walked_sure, walked_on, walked_on_none}

abbrev pub argument_of : Expr → Judged Known
argument_of e = argument (expression e)

pub arguments_are : (es : List Expr) → map argument_of es ≡ map argument (map expression es)
arguments_are [] = refl
arguments_are (e ∷ es) = ap (λ l. argument_of e ∷ l) (arguments_are es)

pub argument_walked : (said : Said) (w w' : Walk) (k : Option Known) → Walked said.judged w w' k →
    Walked (argument said) w w' (option_map value k)
argument_walked said w w' None walked = walked_on_none said.judged (λ k. sure (value k)) w w' walked
argument_walked said w w' (Some k) walked =
    walked_on said.judged (λ k. sure (value k)) w w' w' k (Some (value k)) walked (walked_sure w' (value k))

-- the call of a function's name
pub call_named : (f : Said) (es : List Said) (span : Span) (w w' : Walk) (k : Option Known) (called : Called) →
    function_in (meaning_by f.name (env_of w)) ≡ Some called →
    Walked (on (each (map argument es)) (call_row span called.callee called.signature)) w w' k → Walked (call f es span) w w' k
call_named f es span w w' k called is walked =
    let same = ap (λ (c : Option Called). call_by span c f.judged (each (map argument es)) (env_of w)) is in
    record {
      after_is = walked.after_is ∙ ap (passed_by w) (sym same);
      known_is = walked.known_is ∙ ap (λ (o : Outcome Known). o.known) (sym same);
    }

-- and of anything else
pub call_other : (f : Said) (es : List Said) (span : Span) (w w' : Walk) (k : Option Known) →
    function_in (meaning_by f.name (env_of w)) ≡ None →
    Walked (on (both f.judged (each (map argument es))) (λ (k, ks). not_called_row span k ks)) w w' k → Walked (call f es span) w w' k
call_other f es span w w' k is walked =
    let same = ap (λ (c : Option Called). call_by span c f.judged (each (map argument es)) (env_of w)) is in
    record {
      after_is = walked.after_is ∙ ap (passed_by w) (sym same);
      known_is = walked.known_is ∙ ap (λ (o : Outcome Known). o.known) (sym same);
    }

-- where no argument is left
assignable_none : (ts : List Ty) → all_assignable ts [] ≡ true
assignable_none [] = refl
assignable_none (t ∷ ts) = refl

pub assignable_over : (n : ℕ) (ts us : List Ty) (all : List Known) → all_assignable us all ≡ all_assignable ts (drop n all) →
    length all ≤ n → true ≡ all_assignable us all
assignable_over n ts us all is over = sym (is ∙ ap (all_assignable ts) (drop_all n all over) ∙ assignable_none ts)

passed_none : (ts : List Ty) → passed ts [] ≡ []
passed_none [] = refl
passed_none (t ∷ ts) = refl

nothing_in : {A : Type 0} (xs : List A) → length xs ≡ 0 → xs ≡ []
nothing_in [] none = refl
nothing_in (x ∷ xs) none = absurd (cc)

pub passed_over : (all done : List TExpr) (ts : List Ty) (ks : List Known) (n : ℕ) → all ≡ done ++ passed ts ks → length ks ≡ n → n ≡ 0 →
    done ≡ all
passed_over all done ts ks n is count none =
    sym (is ∙ ap (λ x. done ++ passed ts x) (nothing_in ks (count ∙ none)) ∙ ap (λ x. done ++ x) (passed_none ts) ∙ append-nil done)
