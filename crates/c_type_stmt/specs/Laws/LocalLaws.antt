-- A local, or a parameter, is declared by a walk that asks its rules and adds it.
use Rattle.std.proofs.Common.{◌≡◌, refl, sym, ◌∙◌, ap, ℕ, Bool, List, ◌++◌, length, Option, Some, None, append-nil}
use Rattle.std.specs.Prelude.{if◌then◌else◌}
use Rattle.c_ast.specs.declared.token.Span.{Span}
use Rattle.c_type_base.specs.declared.ty.Ty.{Ty}
use Rattle.c_type_expr.specs.declared.scopes.Meaning.TheVariants as means
use Rattle.c_type_expr.specs.declared.scopes.Place.TheVariants as place
use Rattle.c_type_expr.specs.declared.walk.Walk.{Walk}
use Rattle.c_type_expr.specs.Environment.{Env, binds}
use Rattle.c_type_expr.specs.Faults.{Rule, broken, all_kept}
use Rattle.c_type_expr.specs.Outcomes.{Judged}
use Rattle.c_type_expr.specs.Scoping.{with_binding}
use Rattle.c_type_expr.specs.Walked.{env_of, blamed, Walked}
use Rattle.c_type_stmt.specs.Declarations.{local_info, declares_local}

-- a local of a name whose rules are those of where it stands
abbrev pub declares_by : List ℕ → Span → (Env → List Rule) → Option Ty → Judged Ty
declares_by name span rules t env = declares_local name span (rules env) t env

pub local_declared : (name : List ℕ) (span : Span) (rules : Env → List Rule) (t : Option Ty) (number : ℕ) (kept : Bool) (w w1 w2 : Walk) →
    number ≡ length w.locals → kept ≡ all_kept (rules (env_of w)) → w1 ≡ blamed w (broken span (rules (env_of w))) →
    w2 ≡ record w1 {
      scopes = with_binding w1.scopes (binds name (means.Object (place.Local number) t));
      locals = w1.locals ++ local_info name span t;
    } →
    Walked (declares_by name span rules t) w w2 (if kept then t else None)
local_declared name span rules t number kept w w1 w2 count kept_is asked bound = record {
  after_is = bound
      ∙ ap (λ (x : Walk). record x {
        scopes = with_binding x.scopes (binds name (means.Object (place.Local number) t));
        locals = x.locals ++ local_info name span t;
      }) asked
      ∙ (λ i. record (blamed w (broken span (rules (env_of w)))) {
        scopes = with_binding w.scopes (binds name (means.Object (place.Local (count i)) t));
        locals = w.locals ++ local_info name span t;
        texts = sym (append-nil w.texts) i;
      });
  known_is = ap (λ (b : Bool). if b then t else None) kept_is;
}
