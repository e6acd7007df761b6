-- A row of a table is walked: its operands are as the code found them, and its rules are asked where the walk stands.
use Rattle.std.proofs.Common.{◌≡◌, sym, ap, subst, List, Option, Some}
use Rattle.c_ast.specs.declared.token.Span.{Span}
use Rattle.c_type_expr.specs.declared.walk.Walk.{Walk}
use Rattle.c_type_expr.specs.Faults.{Rule, broken}
use Rattle.c_type_expr.specs.Environment.{Env}
use Rattle.c_type_expr.specs.Outcomes.{Judged, ruled}
use Rattle.c_type_expr.specs.Operators.{Sort}
use Rattle.c_type_expr.specs.Walked.{env_of, blamed, Walked}
use Rattle.c_type_expr.specs.Laws.WalkedLaws.{walked_ruled}

pub row_by : {A : Type 0} (f : Sort → Judged A) (s t : Sort) (w w' : Walk) (k : Option A) → s ≡ t → Walked (f t) w w' k →
    Walked (f s) w w' k
row_by f s t w w' k same walked = subst (λ (x : Sort). Walked (f x) w w' k) (sym same) walked

pub row_two : {A : Type 0} (f : Sort → Sort → Judged A) (s s' t t' : Sort) (w w' : Walk) (k : Option A) → s ≡ s' → t ≡ t' →
    Walked (f s' t') w w' k → Walked (f s t) w w' k
row_two f s s' t t' w w' k same other walked =
    row_by (λ (x : Sort). f x t) s s' w w' k same (row_by (f s') t t' w w' k other walked)

-- rules that ask where the walk stands
pub ruled_at : {A : Type 0} (span : Span) (rs : Env → List Rule) (a : Env → A) (w w' : Walk) (k : A) →
    w' ≡ blamed w (broken span (rs (env_of w))) → k ≡ a (env_of w) → Walked (λ env. ruled span (rs env) (a env) env) w w' (Some k)
ruled_at span rs a w w' k is known =
    let here = walked_ruled span (rs (env_of w)) (a (env_of w)) w w' is in
    record { after_is = here.after_is; known_is = ap Some known }
