-- What a file defines and declares, in the order in which its names are first declared, as the numbers of names say.
use Rattle.std.specs.Prelude.{ℕ, List, [], ◌∷◌, flat_map, Option, Some, None}
use Rattle.std.specs.List.{find}
use Rattle.std.specs.Str.{bytes_eq}
use Rattle.c_type_base.specs.declared.ty.Ty.TheVariants as ty
use Rattle.c_type_base.specs.declared.typed.GlobalInfo.{GlobalInfo}
use Rattle.c_type_base.specs.declared.typed.TFunction.{TFunction}
use Rattle.c_type_base.specs.declared.typed.ExternInfo.{ExternInfo}
use Rattle.c_types.specs.Redeclarations.{AnObject, AFunction, Declared}

abbrev pub option_list : {A : Type 0} → Option A → List A
option_list None = []
option_list (Some a) = a ∷ []

-- of each name the first that has it
abbrev pub by_names : {A : Type 0} → (A → List ℕ) → List (List ℕ) → List A → List A
by_names name_of names all = flat_map (λ n. option_list (find (λ a. bytes_eq (name_of a) n) all)) names

abbrev pub globals_by : List (List ℕ) → List GlobalInfo → List GlobalInfo
globals_by names gs = by_names (λ g. g.name) names gs

abbrev pub functions_by : List (List ℕ) → List TFunction → List TFunction
functions_by names fs = by_names (λ f. f.name) names fs

abbrev pub extern_of : Declared → List ExternInfo
extern_of d = elim d.kind [
  | AnObject None ↦ []
  | AnObject (Some t) ↦ record { name = d.name; object = Some t; result = ty.Void; params = [] } ∷ []
  | AFunction None ↦ []
  | AFunction (Some s) ↦ record { name = d.name; object = None; result = s.result; params = s.params } ∷ []
]

-- by the latest declaration of each
abbrev pub externs_by : List (List ℕ) → List Declared → List ExternInfo
externs_by names ds = flat_map (λ n. flat_map extern_of (option_list (find (λ d. bytes_eq d.name n) ds))) names
