-- What is kept of the declarations of a name, so that the next one is judged by it alone.
use Rattle.std.specs.Prelude.{◌≡◌, ℕ, Bool, true, false, not, ◌&&◌, ◌||◌, List, [], ◌∷◌, Option, Some, None, if◌then◌else◌}
use Rattle.std.specs.Str.{bytes_eq}
use Rattle.std.specs.HashMap.{get_by}
use Rattle.c_type_base.specs.declared.ty.Ty.{Ty}
use Rattle.c_type_base.specs.declared.ty.Ty.TheVariants as ty
use Rattle.c_type_base.specs.declared.typed.ExternInfo.{ExternInfo}
pub use Rattle.c_type_base.specs.Types.{same_type}
use Rattle.c_type_expr.specs.declared.scopes.Signature.{Signature}
use Rattle.c_types.specs.declared.redeclared.Earlier.{Earlier}
use Rattle.c_types.specs.declared.redeclared.Redeclared.{Redeclared}
use Rattle.c_types.specs.declared.redeclared.Told.TheVariants as told
use Rattle.c_types.specs.Redeclarations.{Kind, AnObject, AFunction, Declared, same_signature}

-- before any declaration
abbrev pub nothing : Earlier
nothing = record {
  objects = false;
  functions = false;
  object = None;
  signature = None;
  mixed = false;
  local = false;
  shared = false;
  defined = false;
  told = told.Nothing;
}

abbrev pub or_nothing : Option Earlier → Earlier
or_nothing None = nothing
or_nothing (Some e) = e

-- an earlier type that is known is another
abbrev pub differs : {A : Type 0} → (A → A → Bool) → A → Option A → Bool
differs same new None = false
differs same new (Some old) = not (same new old)

abbrev pub with_kind : Earlier → Kind → Earlier
with_kind e (AnObject None) = record e { objects = true; told = told.Nothing }
with_kind e (AnObject (Some t)) =
    record e { objects = true; object = Some t; mixed = e.mixed || differs same_type t e.object; told = told.Object }
with_kind e (AFunction None) = record e { functions = true; told = told.Nothing }
with_kind e (AFunction (Some s)) =
    record e { functions = true; signature = Some s; mixed = e.mixed || differs same_signature s e.signature; told = told.Function }

-- with one declaration more
abbrev pub grown : Earlier → Kind → Bool → Bool → Earlier
grown e kind local defined =
    record (with_kind e kind) { local = e.local || local; shared = e.shared || not local; defined = e.defined || defined }

abbrev pub with_declared : Earlier → Declared → Earlier
with_declared e d = grown e d.kind d.local d.defined

-- what is kept of those of a name among all, of which the first is the latest
abbrev pub kept : List ℕ → List Declared → Earlier
kept name [] = nothing
kept name (d ∷ ds) = (if bytes_eq d.name name then with_declared (kept name ds) d else kept name ds)

-- what a table has under a name
abbrev pub recalled : Redeclared → List ℕ → Earlier
recalled r name = or_nothing (get_by (λ k. bytes_eq name k.items) r.by_name)

-- a table has what is kept of all declarations
pub record Recalls (r : Redeclared) (ds : List Declared) : Type 0 where
  pub all : (name : List ℕ) → recalled r name ≡ kept name ds

-- ---- what the next one is judged by

abbrev pub fits_type : {A : Type 0} → Bool → (A → A → Bool) → Option A → Option A → Bool
fits_type mixed same None old = true
fits_type mixed same (Some new) old = not mixed && not (differs same new old)

abbrev pub fits_kind : Earlier → Kind → Bool
fits_kind e (AnObject t) = not e.functions && fits_type e.mixed same_type t e.object
fits_kind e (AFunction s) = not e.objects && fits_type e.mixed same_signature s e.signature

abbrev pub fits : Earlier → Declared → Bool
fits e d = fits_kind e d.kind && (if d.local then not e.shared else not e.local) && not (d.defined && e.defined)

-- ---- what another file defines under a name

abbrev pub object_told : List ℕ → Option Ty → Option ExternInfo
object_told name None = None
object_told name (Some t) = Some (record { name = name; object = Some t; result = ty.Void; params = [] })

abbrev pub function_told : List ℕ → Option Signature → Option ExternInfo
function_told name None = None
function_told name (Some s) = Some (record { name = name; object = None; result = s.result; params = s.params })

-- by its latest declaration
abbrev pub told_of : List ℕ → Earlier → Option ExternInfo
told_of name e = elim e.told [
  | told.Nothing ↦ None
  | told.Object ↦ object_told name e.object
  | told.Function ↦ function_told name e.signature
]
