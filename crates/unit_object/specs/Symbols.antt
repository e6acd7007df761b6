-- The symbols of a file's object (ELF64): its texts, what it defines for itself, what it defines for all files, and what it refers to and
-- leaves to others, the last three each in the order of first declarations.
use Rattle.std.specs.Prelude.{ℕ, ◌+◌, Bool, true, false, not, List, [], ◌∷◌, ◌++◌, length, map, filter, Option, Some, None}
use Rattle.std.specs.Prelude.{if◌then◌else◌}
use Rattle.std.specs.List.{position_from}
use Rattle.std.specs.Str.{bytes_eq}
use Rattle.mt_base.specs.Granules.{round16}
use Rattle.c_ast.specs.declared.program.Program.{Program}
use Rattle.c_type_base.specs.declared.typed.GlobalInfo.{GlobalInfo}
use Rattle.c_type_base.specs.declared.typed.StructInfo.{StructInfo}
use Rattle.c_type_base.specs.declared.typed.Typed.{Typed}
use Rattle.c_types.specs.Ordered.{by_names}
use Rattle.gen_unit.specs.declared.parts.Place.{Place}
use Rattle.gen_unit.specs.declared.parts.UnitCode.{UnitCode}
use Rattle.elf_obj.specs.declared.parts.Home.{Home}
use Rattle.elf_obj.specs.declared.parts.Home.TheVariants.{Undef, Text, Rodata, Init, Zero}
use Rattle.elf_obj.specs.declared.parts.Symbol.{Symbol}
use Rattle.mean_link.specs.Names.{used_from}
use Rattle.mean_link.specs.Uses.{file_uses}
use Rattle.unit_object.specs.Data.{room}
use Rattle.unit_object.specs.Order.{first_declared, filled, unfilled}

-- ---- each kind

-- texts have no names; each begins at the next granule
abbrev pub text_symbol : ℕ → List ℕ → Symbol
text_symbol at text = record {
  name = [];
  home = Rodata;
  value = at;
  size = round16 (length text);
  local = true;
  function = false;
}

abbrev pub text_symbols : ℕ → List (List ℕ) → List Symbol
text_symbols at [] = []
text_symbols at (t ∷ ts) = text_symbol at t ∷ text_symbols (at + round16 (length t)) ts

abbrev pub object_symbol : List StructInfo → Home → ℕ → GlobalInfo → Symbol
object_symbol structs home at g = record {
  name = g.name;
  home = home;
  value = at;
  size = room structs g;
  local = g.local;
  function = false;
}

-- objects without gaps, from a place of a section on
abbrev pub object_symbols : List StructInfo → Home → ℕ → List GlobalInfo → List Symbol
object_symbols structs home at [] = []
object_symbols structs home at (g ∷ gs) = object_symbol structs home at g ∷ object_symbols structs home (at + room structs g) gs

abbrev pub function_symbol : Place → Symbol
function_symbol f = record {
  name = f.name;
  home = Text;
  value = f.start;
  size = f.bytes;
  local = f.local;
  function = true;
}

abbrev pub undefined_symbol : List ℕ → Symbol
undefined_symbol name = record {
  name = name;
  home = Undef;
  value = 0;
  size = 0;
  local = false;
  function = false;
}

-- ---- all of them

abbrev pub name_of : Symbol → List ℕ
name_of s = s.name

abbrev pub is_local : Symbol → Bool
is_local s = s.local

abbrev pub is_global : Symbol → Bool
is_global s = not s.local

-- what the file defines, by sections
abbrev pub defined : Program → Typed → UnitCode → List Symbol
defined p typed code =
    object_symbols typed.structs Init 0 (filled p typed) ++ object_symbols typed.structs Zero 0 (unfilled p typed)
    ++ map function_symbol code.functions.items

-- what it defines, in the order of first declarations
abbrev pub in_order : Program → Typed → UnitCode → List Symbol
in_order p typed code = by_names name_of (first_declared p) (defined p typed code)

-- the names that it refers to and leaves to others
abbrev pub undefined_names : Typed → List (List ℕ)
undefined_names typed = used_from (file_uses typed) 0 typed.externs

-- all that have names
abbrev pub named_symbols : Program → Typed → UnitCode → List Symbol
named_symbols p typed code =
    filter is_local (in_order p typed code) ++ filter is_global (in_order p typed code) ++ map undefined_symbol (undefined_names typed)

abbrev pub symbols : Program → Typed → UnitCode → List Symbol
symbols p typed code = text_symbols 0 typed.texts ++ named_symbols p typed code

-- ---- their numbers

-- the number of the first that has a name, counted from a number
abbrev pub found_or : ℕ → Option ℕ → ℕ
found_or n None = n
found_or n (Some k) = k

abbrev pub number_of : ℕ → List Symbol → List ℕ → ℕ
number_of from named name = found_or 0 (position_from (λ s. bytes_eq s.name name) from named)

abbrev pub is_object_home : Home → Bool
is_object_home Undef = false
is_object_home Text = false
is_object_home Rodata = false
is_object_home Init = true
is_object_home Zero = true

-- the numbers of those that are objects at file scope
abbrev pub objects_from : ℕ → List Symbol → List ℕ
objects_from k [] = []
objects_from k (s ∷ ss) = (if is_object_home s.home then k ∷ objects_from (k + 1) ss else objects_from (k + 1) ss)
