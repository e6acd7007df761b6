-- The symbols that have names, in three groups.
use Rattle.std.specs.Prelude.{ℕ, List, ◌++◌, map, filter}
use Rattle.c_ast.specs.declared.program.Program.{Program}
use Rattle.c_type_base.specs.declared.typed.GlobalInfo.{GlobalInfo}
use Rattle.c_type_base.specs.declared.typed.Typed.{Typed}
use Rattle.c_types.specs.Ordered.{by_names}
use Rattle.gen_unit.specs.declared.parts.Place.{Place}
use Rattle.elf_obj.specs.declared.parts.Home.TheVariants.{Init, Zero}
use Rattle.elf_obj.specs.declared.parts.Symbol.{Symbol}
use Rattle.unit_object.specs.Order.{first_declared}
use Rattle.unit_object.specs.Symbols.{object_symbols, function_symbol, undefined_symbol, undefined_names, name_of, is_local, is_global}

-- of what a file defines, in the order of these names, and of what it leaves to others
abbrev pub named_of : List Symbol → List (List ℕ) → List (List ℕ) → List Symbol
named_of all names undefined =
    filter is_local (by_names name_of names all) ++ filter is_global (by_names name_of names all) ++ map undefined_symbol undefined

-- of a file whose functions stand at these places, and which defines these objects, with an initial and without
abbrev pub named_by : Program → Typed → List Place → List GlobalInfo → List GlobalInfo → List Symbol
named_by p typed fs filled unfilled =
    named_of (object_symbols typed.structs Init 0 filled ++ object_symbols typed.structs Zero 0 unfilled ++ map function_symbol fs)
    (first_declared p) (undefined_names typed)
