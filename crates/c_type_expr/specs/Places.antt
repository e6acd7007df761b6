-- The places of names among the declarations of a scope, of which the first is the earliest.
use Rattle.std.specs.Prelude.{◌≡◌, ℕ, ◌<◌, List, length, reverse, slice_get, Option, Some, None, IfSome}
use Rattle.std.specs.Str.{bytes_eq}
use Rattle.std.specs.HashMap.{HashMap, get_by}
use Rattle.c_type_expr.specs.declared.scopes.Binding.{Binding}
use Rattle.c_type_expr.specs.Environment.{in_scope}

abbrev pub at_place : List Binding → Option ℕ → Option Binding
at_place bindings None = None
at_place bindings (Some n) = slice_get bindings n

-- under each name a table has the place of its latest declaration
pub record HasPlaces {K S : Type 0} (m : HashMap K ℕ S) (name_of : K → List ℕ) (bindings : List Binding) : Type 0 where
  pub finds : (name : List ℕ) → at_place bindings (get_by (λ k. bytes_eq name (name_of k)) m) ≡ in_scope name (reverse bindings)
  pub within : (name : List ℕ) → IfSome (get_by (λ k. bytes_eq name (name_of k)) m) (λ n. n < length bindings)
