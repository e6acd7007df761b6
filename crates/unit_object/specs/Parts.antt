-- What the object of a file is made of (ELF for the Arm 64-bit architecture, Memtag ABI): its code, its texts, its objects with an initial
-- and those without, and the places that wait for addresses.
use Rattle.std.specs.Prelude.{ℕ, ◌+◌, List, [], ◌∷◌, ◌++◌, length, map, flat_map, slice_get, Option, Some, None}
use Rattle.c_ast.specs.declared.program.Program.{Program}
use Rattle.c_type_base.specs.declared.typed.GlobalInfo.{GlobalInfo}
use Rattle.c_type_base.specs.declared.typed.InitPiece.{InitPiece}
use Rattle.c_type_base.specs.declared.typed.InitValue.{InitValue}
use Rattle.c_type_base.specs.declared.typed.InitValue.TheVariants as initial
use Rattle.c_type_base.specs.declared.typed.StructInfo.{StructInfo}
use Rattle.c_type_base.specs.declared.typed.Target.{Target}
use Rattle.c_type_base.specs.declared.typed.Target.TheVariants as target
use Rattle.c_type_base.specs.declared.typed.Typed.{Typed}
use Rattle.gen_unit.specs.declared.parts.CodeReloc.{CodeReloc}
use Rattle.gen_unit.specs.declared.parts.CodeTarget.{CodeTarget}
use Rattle.gen_unit.specs.declared.parts.CodeTarget.TheVariants as code_target
use Rattle.gen_unit.specs.declared.parts.UnitCode.{UnitCode}
use Rattle.elf_obj.specs.declared.parts.Reloc.{Reloc}
use Rattle.elf_obj.specs.Object.{Object}
use Rattle.unit_object.specs.Data.{room, rooms, text_bytes, all_bytes}
use Rattle.unit_object.specs.Order.{filled, unfilled}
use Rattle.elf_obj.specs.declared.parts.Symbol.{Symbol}
use Rattle.unit_object.specs.Symbols.{text_symbols, named_symbols, number_of, objects_from}

-- ---- what a number in the file stands for, as the number of a symbol

-- that of its name; what is not there has the number 0
abbrev pub named_number : {A : Type 0} → (List ℕ → ℕ) → (A → List ℕ) → Option A → ℕ
named_number number name_of None = 0
named_number number name_of (Some a) = number (name_of a)

abbrev pub global_number : (List ℕ → ℕ) → Typed → ℕ → ℕ
global_number number typed k = named_number number (λ g. g.name) (slice_get typed.globals k)

abbrev pub extern_number : (List ℕ → ℕ) → Typed → ℕ → ℕ
extern_number number typed k = named_number number (λ e. e.name) (slice_get typed.externs k)

abbrev pub function_number : (List ℕ → ℕ) → UnitCode → ℕ → ℕ
function_number number code k = named_number number (λ f. f.name) (slice_get code.functions.items k)

-- by the number that each name has
abbrev pub code_symbol : (List ℕ → ℕ) → Typed → UnitCode → CodeTarget → ℕ
code_symbol number typed code (code_target.Function k) = function_number number code k
code_symbol number typed code (code_target.Extern k) = extern_number number typed k
code_symbol number typed code (code_target.Global k) = global_number number typed k
code_symbol number typed code (code_target.Text k) = k

abbrev pub data_symbol : (List ℕ → ℕ) → Typed → Target → ℕ
data_symbol number typed (target.Global k) = global_number number typed k
data_symbol number typed (target.Extern k) = extern_number number typed k
data_symbol number typed (target.Text k) = k

-- ---- places that wait for addresses

abbrev pub code_reloc : (CodeTarget → ℕ) → CodeReloc → Reloc
code_reloc symbol r = record { offset = r.offset; kind = r.kind; symbol = symbol r.target; addend = r.addend }

-- R_AARCH64_ABS64
abbrev pub address_kind : ℕ
address_kind = 257

abbrev pub value_relocs : (Target → ℕ) → ℕ → InitValue → List Reloc
value_relocs symbol place (initial.Number n bytes) = []
value_relocs symbol place (initial.Address t offset) =
    record { offset = place; kind = address_kind; symbol = symbol t; addend = offset } ∷ []

abbrev pub piece_relocs : (Target → ℕ) → ℕ → InitPiece → List Reloc
piece_relocs symbol at p = value_relocs symbol (at + p.offset) p.value

-- those of objects without gaps, from a place on
abbrev pub data_relocs : (Target → ℕ) → List StructInfo → ℕ → List GlobalInfo → List Reloc
data_relocs symbol structs at [] = []
data_relocs symbol structs at (g ∷ gs) =
    flat_map (piece_relocs symbol at) g.init ++ data_relocs symbol structs (at + room structs g) gs

-- ---- the object

-- of a file that defines these objects, with an initial and without, and has these symbols with names
abbrev pub parts_by : Typed → UnitCode → List GlobalInfo → List GlobalInfo → List Symbol → Object
parts_by typed code filled unfilled named =
    let number = number_of (length typed.texts) named in
    let symbols = text_symbols 0 typed.texts ++ named in record {
      words = code.words.items;
      rodata = text_bytes typed.texts;
      init_bytes = all_bytes typed.structs filled;
      zero_bytes = rooms typed.structs unfilled;
      symbols = symbols;
      text_relocs = map (code_reloc (code_symbol number typed code)) code.relocs.items;
      init_relocs = data_relocs (data_symbol number typed) typed.structs 0 filled;
      tagged = objects_from 0 symbols;
    }

abbrev pub parts_of : Program → Typed → UnitCode → Object
parts_of p typed code = parts_by typed code (filled p typed) (unfilled p typed) (named_symbols p typed code)
