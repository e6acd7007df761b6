-- The names of a file: which it declares, in order, and which of them it defines (ISO C11 6.2.2, 6.9); these give the numbers of
-- objects and functions.
use Rattle.std.specs.Prelude.{ℕ, Bool, true, false, not, ◌&&◌, ◌||◌, List, [], ◌∷◌, map, flat_map, codes, Option, Some, None, if◌then◌else◌}
use Rattle.std.specs.List.{filter, list_any, position_from}
use Rattle.std.specs.Str.{bytes_eq}
use Rattle.c_ast.specs.declared.declaration.Decl.{Decl}
use Rattle.c_ast.specs.declared.declaration.Storage.{Storage}
use Rattle.c_ast.specs.declared.declaration.Storage.TheVariants as storage
use Rattle.c_ast.specs.declared.program.Program.{Program}
use Rattle.c_ast.specs.declared.program.External.{External}
use Rattle.c_ast.specs.declared.program.External.TheVariants as external
use Rattle.c_type_base.specs.declared.expr.Callee.{Callee}
use Rattle.c_type_base.specs.declared.expr.Callee.TheVariants as callee
use Rattle.c_type_expr.specs.declared.scopes.Place.{Place}
use Rattle.c_type_expr.specs.declared.scopes.Place.TheVariants as place
use Rattle.c_type_base.specs.Types.{is_there}
-- a declaration at file scope, of a function or of an object, and whether it defines it
pub use Rattle.c_types.specs.declared.names.Mention.{Mention}
-- the names that a file declares, by what they are, each list in the order of first declarations; and whether it has the include line
pub use Rattle.c_types.specs.declared.names.FileNames.{FileNames}

abbrev pub is_extern : Storage → Bool
is_extern storage.Extern = true
is_extern _ = false

abbrev pub is_static : Storage → Bool
is_static storage.Static = true
is_static _ = false

abbrev pub mentioned_object : Storage → Decl → Mention
mentioned_object c d = record { name = d.name; function = false; defines = not (is_extern c) }

-- an object is defined unless it is `extern`, a function where it has a body
abbrev pub mentions : External → List Mention
mentions external.Include = []
mentions (external.Struct d) = []
mentions (external.Objects c ds) = map (mentioned_object c) ds
mentions (external.Function f) = record { name = f.name; function = true; defines = is_there f.body } ∷ []

abbrev pub is_include : External → Bool
is_include external.Include = true
is_include _ = false

-- without what was there before
abbrev pub once : List (List ℕ) → List (List ℕ) → List (List ℕ)
once seen [] = []
once seen (n ∷ ns) = (if list_any (bytes_eq n) seen then once seen ns else n ∷ once (n ∷ seen) ns)

-- the names of the include line
abbrev pub putchar_name : List ℕ
putchar_name = codes "putchar"

abbrev pub getchar_name : List ℕ
getchar_name = codes "getchar"

abbrev pub is_library : List ℕ → Bool
is_library name = bytes_eq name putchar_name || bytes_eq name getchar_name

abbrev pub defined_as : Bool → List Mention → List ℕ → Bool
defined_as function ms name = list_any (λ m. bytes_eq m.name name && m.defines && (if m.function then function else not function)) ms

abbrev pub name_in : Mention → List ℕ
name_in m = m.name

abbrev pub names_by : List Mention → Bool → FileNames
names_by ms includes =
    let names = once [] (map name_in ms) in record {
      globals = filter (defined_as false ms) names;
      functions = filter (defined_as true ms) names;
      externs = filter (λ n. not (defined_as false ms n) && not (defined_as true ms n) && not (includes && is_library n)) names;
      includes = includes;
    }

abbrev pub file_names : Program → FileNames
file_names p = names_by (flat_map mentions p.items) (list_any is_include p.items)

abbrev pub number_among : List (List ℕ) → List ℕ → Option ℕ
number_among names name = position_from (bytes_eq name) 0 names

abbrev pub or_zero : Option ℕ → ℕ
or_zero None = 0
or_zero (Some n) = n

-- the number of a name in a list that has it
abbrev pub number_in : List (List ℕ) → List ℕ → ℕ
number_in names name = or_zero (number_among names name)

-- an object at file scope
abbrev pub object_place : FileNames → List ℕ → Place
object_place names name =
    (if is_there (number_among names.globals name) then place.Global (number_in names.globals name)
    else place.Extern (number_in names.externs name))

-- a function: with the include line its two names are that line's, in the whole file
abbrev pub function_callee : FileNames → List ℕ → Callee
function_callee names name =
    (if names.includes && bytes_eq name putchar_name then callee.Putchar
    else (if names.includes && bytes_eq name getchar_name then callee.Getchar
    else (if is_there (number_among names.functions name) then callee.Function (number_in names.functions name)
    else callee.Extern (number_in names.externs name))))
