-- Tables of names.
use Rattle.std.specs.Prelude.{◌≡◌, ℕ, Bool, false, not, ◌&&◌, List, [], ◌∷◌, ◌++◌, if◌then◌else◌}
use Rattle.std.specs.List.{list_any}
use Rattle.std.specs.Str.{bytes_eq}
use Rattle.c_types.specs.Files.{is_library}

-- with a name at the end, where it is not there yet
abbrev pub with_name : List (List ℕ) → List ℕ → List (List ℕ)
with_name names name = (if list_any (bytes_eq name) names then names else names ++ name ∷ [])

-- no two names are equal
abbrev pub IsDistinct : List (List ℕ) → Type 0
IsDistinct [] = Unit {0}
IsDistinct (n ∷ ns) = (list_any (bytes_eq n) ns ≡ false) × IsDistinct ns

-- another file defines a name, by the names that this one defines as objects and as functions, and whether it has the include line
abbrev pub is_elsewhere : List (List ℕ) → List (List ℕ) → Bool → List ℕ → Bool
is_elsewhere objects functions includes name =
    not (list_any (bytes_eq name) objects) && not (list_any (bytes_eq name) functions) && not (includes && is_library name)
