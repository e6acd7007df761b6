-- The numbers of symbols by the list of their names.
use Rattle.std.specs.Prelude.{ℕ, ◌+◌, List, map, Option, Some, None}
use Rattle.c_type_base.specs.declared.typed.ExternInfo.{ExternInfo}
use Rattle.c_type_base.specs.declared.typed.GlobalInfo.{GlobalInfo}
use Rattle.c_types.specs.Files.{number_among}
use Rattle.gen_unit.specs.declared.parts.Place.{Place}

-- that of the one at a place, counted from a number; what is not there has the number 0
abbrev pub counted : ℕ → Option ℕ → ℕ
counted from None = 0
counted from (Some k) = from + k

abbrev pub name_number : ℕ → List (List ℕ) → List ℕ → ℕ
name_number from names name = counted from (number_among names name)

abbrev pub function_numbers : ℕ → List (List ℕ) → List Place → List ℕ
function_numbers from names fs = map (λ f. name_number from names f.name) fs

abbrev pub global_numbers : ℕ → List (List ℕ) → List GlobalInfo → List ℕ
global_numbers from names gs = map (λ g. name_number from names g.name) gs

abbrev pub extern_numbers : ℕ → List (List ℕ) → List ExternInfo → List ℕ
extern_numbers from names es = map (λ e. name_number from names e.name) es
