-- Declarations of locals are walked part by part.
use Rattle.std.proofs.Common.{◌≡◌, refl, sym, ◌∙◌, ap, ℕ, Bool, false, List, [], ◌∷◌, ◌++◌, length, Option, Some, None}
use Rattle.std.specs.Prelude.{leb, if◌then◌else◌}
use Rattle.c_ast.specs.declared.declaration.Decl.{Decl}
use Rattle.c_ast.specs.declared.token.Span.{Span}
use Rattle.c_type_stmt.specs.declared.fitted.Fitted.{Fitted}
use Rattle.c_type_base.specs.declared.known.Written.{Written}
use Rattle.c_type_expr.specs.declared.scopes.Meaning.TheVariants as means
use Rattle.c_type_expr.specs.declared.scopes.Place.TheVariants as place
use Rattle.c_type_base.specs.declared.statement.TDecl.{TDecl}
use Rattle.c_type_base.specs.declared.ty.Ty.{Ty}
use Rattle.c_type_expr.specs.declared.walk.Walk.{Walk}
use Rattle.c_type_stmt.specs.Declarations.{object_type, init_of, declared_type, is_new, object_rules, local_info, initialised, tdecl, local}
use Rattle.c_type_expr.specs.Environment.{binds}
use Rattle.c_type_expr.specs.Expressions.{written}
use Rattle.c_type_expr.specs.Faults.{Rule, rule, broken, all_kept}
use Rattle.c_type_stmt.specs.Locals.{declares_object}
use Rattle.c_type_expr.specs.Outcomes.{Judged, behind, joined}
use Rattle.c_type_expr.specs.Scoping.{with_binding}
use Rattle.c_type_base.specs.Sizes.{is_complete, size, largest}
use Rattle.c_type_expr.specs.Walked.{env_of, blamed, Walked}
use Rattle.c_type_expr.specs.Laws.EachLaws.{as_known}
use Rattle.c_type_stmt.specs.Laws.LocalLaws.{local_declared}
use Rattle.c_type_stmt.specs.Laws.PartLaws.{walked_made, walked_given}
use Rattle.c_type_expr.specs.Laws.WalkedLaws.{judged_next, after_two}
use Rattle.c_type_expr.specs.Laws.WalkedLaws as walked

-- ---- two lists of rules

pub blamed_twice : (w : Walk) (span : Span) (number : ℕ) (kept : Bool) (rs : List Rule) →
    blamed (blamed w (broken span (rule number kept ∷ []))) (broken span rs) ≡ blamed w (broken span (rule number kept ∷ rs))
blamed_twice = walked.blamed_twice

-- ---- the type of an object

pub type_unknown : (d : Decl) (w w' : Walk) (k : Option Written) → k ≡ None → Walked (written d.ty d.span) w w' k →
    Walked (declared_type d) w w' None
type_unknown d w w' k is first =
    walked_made (written d.ty d.span) (λ t. object_type (init_of d) t) w w' None None (as_known _ w w' k None is first) refl

pub type_walked : (d : Decl) (w w' : Walk) (k : Option Written) (written_as : Written) (t : Ty) → k ≡ Some written_as →
    Walked (written d.ty d.span) w w' k → t ≡ object_type (init_of d) written_as → Walked (declared_type d) w w' (Some t)
type_walked d w w' k written_as t is first made =
    walked_made (written d.ty d.span) (λ t. object_type (init_of d) t) w w' (Some written_as) (Some t)
    (as_known _ w w' k (Some written_as) is first) (ap Some made)

-- ---- a local

pub typed_asked : (w w1 w2 : Walk) (span : Span) (new complete small : Bool) (t : Ty) → w1 ≡ blamed w (broken span (rule 10 new ∷ [])) →
    w2 ≡ blamed w1 (broken span (rule 15 complete ∷ rule 17 small ∷ [])) → complete ≡ is_complete w.structs t →
    small ≡ leb (size w.structs t) largest → w2 ≡ blamed w (broken span (rule 10 new ∷ object_rules w.structs (Some t)))
typed_asked w w1 w2 span new complete small t first second whole fits =
    second ∙ ap (λ (x : Walk). blamed x (broken span (rule 15 complete ∷ rule 17 small ∷ []))) first
    ∙ blamed_twice w span 10 new (rule 15 complete ∷ rule 17 small ∷ [])
    ∙ (λ i. blamed w (broken span (rule 10 new ∷ rule 15 (whole i) ∷ rule 17 (fits i) ∷ [])))

-- the rules on an object in a block
abbrev rules_at : Walk → Decl → Option Ty → List Rule
rules_at w d t = rule 10 (is_new (env_of w) d.name) ∷ object_rules w.structs t

pub object_walked : (d : Decl) (t : Option Ty) (number : ℕ) (kept : Bool) (w w1 w2 : Walk) → number ≡ length w.locals →
    kept ≡ all_kept (rules_at w d t) → w1 ≡ blamed w (broken d.span (rules_at w d t)) →
    w2 ≡ record w1 {
      scopes = with_binding w1.scopes (binds d.name (means.Object (place.Local number) t));
      locals = w1.locals ++ local_info d.name d.span t;
    } →
    Walked (declares_object d t) w w2 (if kept then t else None)
object_walked d t number kept w w1 w2 count kept_is asked bound =
    local_declared d.name d.span (λ env. rule 10 (is_new env d.name) ∷ object_rules env.structs t) t number kept w w1 w2 count kept_is
    asked bound

-- a local of a type, with its initialiser
abbrev initialised_local : Decl → Option Ty → Judged TDecl
initialised_local d t env =
    let b = declares_object d t env in
    let i = initialised false t (init_of d) (behind b env) in
    joined b i (tdecl env.locals d.span b.known i.known)

initialised_walked : (d : Decl) (t b : Option Ty) (i : Option (Option Fitted)) (number : ℕ) (w w1 w2 : Walk) →
    Walked (declares_object d t) w w1 b → number ≡ length w.locals → Walked (initialised false t (init_of d)) w1 w2 i →
    Walked (initialised_local d t) w w2 (tdecl number d.span b i)
initialised_walked d t b i number w w1 w2 first count second =
    let o = declares_object d t (env_of w) in
    let q = initialised false t (init_of d) in
    let next = judged_next w w1 o q first.after_is in
    record {
      after_is = after_two w w1 w2 o q (tdecl (length w.locals) d.span o.known (q (behind o (env_of w))).known)
          first.after_is second.after_is;
      known_is = ap (λ n. tdecl n d.span b i) count ∙ ap (λ k. tdecl (length w.locals) d.span k i) first.known_is
          ∙ ap (tdecl (length w.locals) d.span o.known) (second.known_is ∙ ap (λ r. r.known) next);
    }

pub local_walked : (d : Decl) (t b : Option Ty) (i : Option (Option Fitted)) (number : ℕ) (k : Option TDecl) (w w1 w2 w3 : Walk) →
    Walked (declared_type d) w w1 t → number ≡ length w1.locals → Walked (declares_object d t) w1 w2 b →
    Walked (initialised false t (init_of d)) w2 w3 i → k ≡ tdecl number d.span b i → Walked (local d) w w3 k
local_walked d t b i number k w w1 w2 w3 first count second third made =
    as_known (local d) w w3 (tdecl number d.span b i) k (sym made)
    (walked_given (declared_type d) (initialised_local d) w w1 w3 t (tdecl number d.span b i) first
    (initialised_walked d t b i number w1 w2 w3 second count third))
