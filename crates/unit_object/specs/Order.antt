-- In which order a text declares its names and defines its objects (ISO C11 6.2.2, 6.9.2). The typed file has its objects apart from its
-- functions, so that the text alone tells the order of both.
use Rattle.std.specs.Prelude.{ℕ, Bool, true, false, not, ◌&&◌, List, [], ◌∷◌, ◌++◌, flat_map, map, filter, slice_get}
use Rattle.c_ast.specs.declared.program.Program.{Program}
use Rattle.c_type_base.specs.declared.typed.GlobalInfo.{GlobalInfo}
use Rattle.c_type_base.specs.declared.typed.InitPiece.{InitPiece}
use Rattle.c_type_base.specs.declared.typed.Typed.{Typed}
use Rattle.c_types.specs.Files.{mentions, name_in}
use Rattle.c_types.specs.Tables.{with_name}
use Rattle.mean_link.specs.Names.{declared}
use Rattle.c_types.specs.declared.names.Mention.{Mention}
use Rattle.c_types.specs.Ordered.{globals_by, option_list}

-- what the file declares, each time
abbrev pub mentioned : Program → List Mention
mentioned p = flat_map mentions p.items

-- some names, and behind them others where they are not there yet
abbrev pub each_once : List (List ℕ) → List (List ℕ) → List (List ℕ)
each_once names [] = names
each_once names (n ∷ ns) = each_once (with_name names n) ns

-- the names of functions and objects, each where it is first declared
abbrev pub first_declared : Program → List (List ℕ)
first_declared p = each_once [] (declared p)

abbrev pub defines_object : Mention → Bool
defines_object m = m.defines && not m.function

-- the names of the objects that it defines, in the order of their definitions
abbrev pub defined_names : Program → List (List ℕ)
defined_names p = map name_in (filter defines_object (mentioned p))

-- the objects that it defines, in the order of their definitions
abbrev pub by_definition : Program → Typed → List GlobalInfo
by_definition p typed = globals_by (defined_names p) typed.globals

-- an object with an initial has a first scalar
abbrev pub is_there : List InitPiece → Bool
is_there [] = false
is_there (p ∷ ps) = true

abbrev pub has_initial : GlobalInfo → Bool
has_initial g = is_there g.init

abbrev pub has_no_initial : GlobalInfo → Bool
has_no_initial g = not (has_initial g)

abbrev pub filled : Program → Typed → List GlobalInfo
filled p typed = filter has_initial (by_definition p typed)

abbrev pub unfilled : Program → Typed → List GlobalInfo
unfilled p typed = filter has_no_initial (by_definition p typed)

-- the objects of these numbers
abbrev pub chosen : List GlobalInfo → List ℕ → List GlobalInfo
chosen gs [] = []
chosen gs (k ∷ ks) = option_list (slice_get gs k) ++ chosen gs ks
