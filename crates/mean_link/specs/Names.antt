-- What a link sees of a file: the names that the file defines for all files, whether it defines `main` so, and the names that it leaves
-- to others (ISO C11 6.2.2, 6.9; the order is that of an object's symbols). Names that no other file sees are no matter of a link.
use Rattle.std.specs.Prelude.{ℕ, suc, Bool, not, ◌&&◌, List, [], ◌∷◌, ◌++◌, map, flat_map, codes}
use Rattle.std.specs.Prelude.{if◌then◌else◌}
use Rattle.std.specs.List.{filter, list_any}
use Rattle.std.specs.Str.{bytes_eq}
use Rattle.c_ast.specs.declared.declaration.Decl.{Decl}
use Rattle.c_ast.specs.declared.program.Program.{Program}
use Rattle.c_ast.specs.declared.program.External.{External}
use Rattle.c_ast.specs.declared.program.External.TheVariants as external
use Rattle.c_type_base.specs.declared.typed.ExternInfo.{ExternInfo}
use Rattle.c_type_base.specs.declared.typed.GlobalInfo.{GlobalInfo}
use Rattle.c_type_base.specs.declared.typed.TFunction.{TFunction}
use Rattle.c_type_base.specs.declared.typed.Typed.{Typed}
use Rattle.slot_safety.specs.Kinds.{among}
use Rattle.mean_link.specs.Uses.{file_uses}
use Rattle.mean_link.specs.declared.names.FileNames.{FileNames}

-- the name is among these
abbrev pub is_among : List (List ℕ) → List ℕ → Bool
is_among names name = list_any (bytes_eq name) names

-- ---- what a file defines for all files

abbrev pub name_of : Decl → List ℕ
name_of d = d.name

-- the names that a part of a text declares at file scope, in order
abbrev pub declared_by : External → List (List ℕ)
declared_by external.Include = []
declared_by (external.Struct d) = []
declared_by (external.Objects storage ds) = map name_of ds
declared_by (external.Function f) = f.name ∷ []

abbrev pub declared : Program → List (List ℕ)
declared p = flat_map declared_by p.items

abbrev pub object_name : GlobalInfo → List (List ℕ)
object_name g = (if g.local then [] else g.name ∷ [])

abbrev pub function_name : TFunction → List (List ℕ)
function_name f = (if f.local then [] else f.name ∷ [])

-- the names of the objects and functions that a file defines for all files
abbrev pub global_names : Typed → List (List ℕ)
global_names u = flat_map object_name u.globals ++ flat_map function_name u.functions

-- the function with which a program begins (5.1.2.2.1)
abbrev pub main_name : List ℕ
main_name = codes "main"

abbrev pub is_main : TFunction → Bool
is_main f = not f.local && bytes_eq f.name main_name

-- ---- what a file leaves to others

-- the names of the externs that are used, of which the first has this number
abbrev pub used_from : List ℕ → ℕ → List ExternInfo → List (List ℕ)
used_from used k [] = []
used_from used k (e ∷ es) = (if among k used then e.name ∷ used_from used (suc k) es else used_from used (suc k) es)

-- ---- a file

-- The first list is in the order in which the text declares the names; one that it declares twice stands there twice, which is no matter
-- of a link. The last one is in the order of first declarations.
abbrev pub names_of : Program → Typed → FileNames
names_of p u = record {
  defined = filter (is_among (global_names u)) (declared p);
  has_main = list_any is_main u.functions;
  undefined = used_from (file_uses u) 0 u.externs;
}

-- those of the files of some texts
abbrev pub names_in : List Program → List Typed → List FileNames
names_in (p ∷ ps) (u ∷ us) = names_of p u ∷ names_in ps us
names_in _ _ = []
