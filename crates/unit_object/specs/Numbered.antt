-- The objects that a text defines, as their numbers in the typed file: in the order of their definitions, found by their names.
use Rattle.std.specs.Prelude.{ℕ, Bool, true, false, List, [], ◌∷◌, map, filter, flat_map, slice_get, Option, Some, None}
use Rattle.std.specs.Prelude.{if◌then◌else◌}
use Rattle.c_ast.specs.declared.program.External.{External}
use Rattle.c_type_base.specs.declared.typed.GlobalInfo.{GlobalInfo}
use Rattle.c_types.specs.Files.{mentions, name_in, number_among}
use Rattle.unit_object.specs.Order.{has_initial, has_no_initial, defines_object}

-- the names of the objects that a part of a text defines
abbrev pub defined_by : External → List (List ℕ)
defined_by part = map name_in (filter defines_object (mentions part))

-- an object with an initial, or one without
abbrev pub is_wanted : Bool → GlobalInfo → Bool
is_wanted true g = has_initial g
is_wanted false g = has_no_initial g

abbrev pub is_wanted_there : Bool → Option GlobalInfo → Bool
is_wanted_there filled None = false
is_wanted_there filled (Some g) = is_wanted filled g

abbrev pub wanted_number : Bool → List GlobalInfo → Option ℕ → List ℕ
wanted_number filled gs None = []
wanted_number filled gs (Some k) = (if is_wanted_there filled (slice_get gs k) then k ∷ [] else [])

-- the numbers of such objects that have these names, by the names of all objects
abbrev pub numbers_by : Bool → List GlobalInfo → List (List ℕ) → List (List ℕ) → List ℕ
numbers_by filled gs all names = flat_map (λ n. wanted_number filled gs (number_among all n)) names

abbrev pub global_names : List GlobalInfo → List (List ℕ)
global_names gs = map (λ g. g.name) gs
