-- Parameters are walked one by one, and rules in several lists are one list.
use Rattle.std.proofs.Common.{◌≡◌, refl, sym, ◌∙◌, ap, ℕ, Bool, true, false, List, [], ◌∷◌, ◌++◌, length, Option, Some, None}
use Rattle.std.specs.Prelude.{leb, if◌then◌else◌}
use Rattle.c_ast.specs.declared.declaration.Decl.{Decl}
use Rattle.c_ast.specs.declared.token.Span.{Span}
use Rattle.c_type_base.specs.declared.known.Written.{Written}
use Rattle.c_type_base.specs.declared.ty.Ty.{Ty}
use Rattle.c_type_base.specs.Sizes.{size, is_complete, largest}
use Rattle.c_type_base.specs.Types.{is_scalar}
use Rattle.c_type_expr.specs.declared.fault.Fault.{Fault}
use Rattle.c_type_expr.specs.declared.scopes.Meaning.TheVariants as means
use Rattle.c_type_expr.specs.declared.scopes.Place.TheVariants as place
use Rattle.c_type_expr.specs.declared.walk.Walk.{Walk}
use Rattle.c_type_expr.specs.Environment.{Env, binds}
use Rattle.c_type_expr.specs.Expressions.{written}
use Rattle.c_type_expr.specs.Faults.{Rule, rule, fault, broken, all_kept}
use Rattle.c_type_expr.specs.Scoping.{with_binding}
use Rattle.c_type_expr.specs.Walked.{env_of, blamed, Walked}
use Rattle.c_type_expr.specs.Laws.EachLaws.{as_known}
use Rattle.c_type_expr.specs.Laws.WalkedLaws.{first_with-append}
use Rattle.c_type_stmt.specs.Declarations.{local_info}
use Rattle.c_type_stmt.specs.Laws.LocalLaws.{local_declared}
use Rattle.c_type_stmt.specs.Laws.PartLaws.{walked_given}
use Rattle.c_types.specs.Inside.{rules_on}
use Rattle.c_types.specs.Functions.{adjusted, counted, parameter_rules, is_new_parameter, declares_parameter, parameter}

-- ---- rules in two lists

broken_step : (b : Bool) (f : Fault) (xs ys zs : List Fault) → xs ≡ ys ++ zs →
    (if b then xs else f ∷ xs) ≡ (if b then ys else f ∷ ys) ++ zs
broken_step true f xs ys zs is = is
broken_step false f xs ys zs is = ap (λ l. f ∷ l) is

broken-append : (span : Span) (rs ss : List Rule) → broken span (rs ++ ss) ≡ broken span rs ++ broken span ss
broken-append span [] ss = refl
broken-append span (r ∷ rs) ss =
    broken_step r.kept (fault r.number span) (broken span (rs ++ ss)) (broken span rs) (broken span ss) (broken-append span rs ss)

-- the one after the other
pub blamed_then : (w w1 w2 : Walk) (span : Span) (rs ss : List Rule) → w1 ≡ blamed w (broken span rs) → w2 ≡ blamed w1 (broken span ss) →
    w2 ≡ blamed w (broken span (rs ++ ss))
blamed_then w w1 w2 span rs ss first second =
    second ∙ ap (λ (x : Walk). blamed x (broken span ss)) first
    ∙ (λ i. record w { first = sym (first_with-append w.first (broken span rs) (broken span ss)) i })
    ∙ ap (blamed w) (sym (broken-append span rs ss))

pub asked_four : (w w1 w2 : Walk) (span : Span) (new scalar complete small : Bool) (t : Ty) →
    w1 ≡ blamed w (broken span (rule 10 new ∷ rule 12 scalar ∷ [])) → w2 ≡ blamed w1 (broken span (rule 15 complete ∷ rule 17 small ∷ [])) →
    scalar ≡ is_scalar t → complete ≡ is_complete w.structs t → w2 ≡ blamed w (broken span (rules_on w.structs new t small))
asked_four w w1 w2 span new scalar complete small t first second plain whole =
    blamed_then w w1 w2 span (rule 10 new ∷ rule 12 scalar ∷ []) (rule 15 complete ∷ rule 17 small ∷ []) first second
    ∙ (λ i. blamed w (broken span (rule 10 new ∷ rule 12 (plain i) ∷ rule 15 (whole i) ∷ rule 17 small ∷ [])))

-- ---- a parameter

abbrev rules_of : Bool → Decl → Option Written → Env → List Rule
rules_of defines d t env = rule 10 (is_new_parameter defines env d.name) ∷ parameter_rules env.structs t

-- where its type is known
pub parameter_known : (defines : Bool) (d : Decl) (t : Written) (made : Ty) (number : ℕ) (new small kept : Bool) (w w1 w2 : Walk)
    (known : Option Ty) → made ≡ adjusted t → number ≡ length w.locals → new ≡ is_new_parameter defines (env_of w) d.name →
    small ≡ leb (size w.structs (counted t)) largest →
    kept ≡ all_kept (rules_on w.structs new made small) →
    w1 ≡ blamed w (broken d.span (rules_on w.structs new made small)) →
    w2 ≡ record w1 {
      scopes = with_binding w1.scopes (binds d.name (means.Object (place.Local number) (Some made)));
      locals = w1.locals ++ local_info d.name d.span (Some made);
    } →
    known ≡ (if kept then Some made else None) → Walked (declares_parameter defines d (Some t)) w w2 known
parameter_known defines d t made number new small kept w w1 w2 known made_is count fresh fits kept_is asked bound known_is =
    let rules : rules_on w.structs new made small ≡
    rules_of defines d (Some t) (env_of w) =
    λ i. rule 10 (fresh i) ∷ rule 12 (is_scalar (made_is i)) ∷ rule 15 (is_complete w.structs (made_is i)) ∷ rule 17 (fits i) ∷ [] in
    as_known (declares_parameter defines d (Some t)) w w2 (if kept then Some (adjusted t) else None) known
    (sym (known_is ∙ ap (λ (x : Ty). if kept then Some x else None) made_is))
    (local_declared d.name d.span (rules_of defines d (Some t)) (Some (adjusted t)) number kept w w1 w2 count (kept_is ∙ ap all_kept rules)
    (asked ∙ ap (λ rs. blamed w (broken d.span rs)) rules)
    (bound ∙ ap (λ (x : Ty). record w1 {
      scopes = with_binding w1.scopes (binds d.name (means.Object (place.Local number) (Some x)));
      locals = w1.locals ++ local_info d.name d.span (Some x);
    }) made_is))

-- its type, and then its name
pub parameter_walked : (defines : Bool) (d : Decl) (w w1 w2 : Walk) (t : Option Written) (k : Option Ty) →
    Walked (written d.ty d.span) w w1 t → Walked (declares_parameter defines d t) w1 w2 k → Walked (parameter defines d) w w2 k
parameter_walked defines d w w1 w2 t k first second =
    walked_given (written d.ty d.span) (declares_parameter defines d) w w1 w2 t k first second
