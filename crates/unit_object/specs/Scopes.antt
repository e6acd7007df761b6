-- Symbols by whether other files see them, and by their numbers.
use Rattle.std.specs.Prelude.{ℕ, Bool, true, false, List, [], slice_get, Option, Some, None}
use Rattle.c_types.specs.Ordered.{option_list}
use Rattle.elf_obj.specs.declared.parts.Symbol.{Symbol}
use Rattle.unit_object.specs.Symbols.{is_local, is_global}

-- local ones, or those that all files see
abbrev pub is_of_scope : Bool → Symbol → Bool
is_of_scope true = is_local
is_of_scope false = is_global

-- what has a number
abbrev pub at_number : {K : Type 0} → List K → Option ℕ → List K
at_number ks None = []
at_number ks (Some i) = option_list (slice_get ks i)
