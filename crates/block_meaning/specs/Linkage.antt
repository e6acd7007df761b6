-- What the names of several files stand for together (ISO C11 6.2.2), and the blocks of what lives for the whole run.
use Rattle.std.specs.Prelude.{ℕ, ◌+◌, Bool, true, false, ◌&&◌, nat_eq, List, [], ◌∷◌, length, map, take, slice_get, Option, Some, None, not}
use Rattle.std.specs.Prelude.{if◌then◌else◌}
use Rattle.std.specs.List.{position_from}
use Rattle.std.specs.Str.{bytes_eq}
use Rattle.c_type_base.specs.declared.ty.Ty.{Ty, out-Ty}
use Rattle.c_type_base.specs.declared.ty.Ty.TheOpen.{Ty-F}
use Rattle.c_type_base.specs.declared.ty.Ty.TheFolds.{fold-Ty}
use Rattle.c_type_base.specs.declared.typed.Typed.{Typed}
use Rattle.c_type_base.specs.declared.typed.StructInfo.{StructInfo}
use Rattle.c_type_base.specs.declared.typed.GlobalInfo.{GlobalInfo}
use Rattle.c_type_base.specs.declared.typed.TFunction.{TFunction}
use Rattle.c_type_base.specs.declared.typed.LocalInfo.{LocalInfo}
use Rattle.c_type_base.specs.declared.typed.ExternInfo.{ExternInfo}
use Rattle.c_type_base.specs.Types.{TyLayer, same_int}
use Rattle.block_meaning.specs.Running.{Function}

abbrev pub function_of : ℕ → ℕ → Function
function_of unit number = record { unit = unit; number = number }

-- ---- numbers of blocks: the null block, and then of each file its objects, its texts and its functions

abbrev pub blocks_of : Typed → ℕ
blocks_of u = length u.globals + length u.texts + length u.functions

abbrev pub blocks_in : List Typed → ℕ
blocks_in [] = 0
blocks_in (u ∷ us) = blocks_of u + blocks_in us

-- the first block of a file
abbrev pub first_block : List Typed → ℕ → ℕ
first_block units unit = 1 + blocks_in (take unit units)

abbrev pub objects_in : Option Typed → ℕ
objects_in None = 0
objects_in (Some u) = length u.globals

abbrev pub objects_and_texts_in : Option Typed → ℕ
objects_and_texts_in None = 0
objects_and_texts_in (Some u) = length u.globals + length u.texts

abbrev pub object_block : List Typed → ℕ → ℕ → ℕ
object_block units unit number = first_block units unit + number

abbrev pub text_block : List Typed → ℕ → ℕ → ℕ
text_block units unit number = first_block units unit + objects_in (slice_get units unit) + number

abbrev pub code_block : List Typed → ℕ → ℕ → ℕ
code_block units unit number = first_block units unit + objects_and_texts_in (slice_get units unit) + number

-- ---- names that other files define

pub data Definition : Type 0 where
  AnObject : (unit number : ℕ) → Definition
  AFunction : Function → Definition

abbrev pub is_object_named : List ℕ → GlobalInfo → Bool
is_object_named name g = bytes_eq g.name name && not g.local

abbrev pub is_function_named : List ℕ → TFunction → Bool
is_function_named name f = bytes_eq f.name name && not f.local

abbrev pub or_definition : Option Definition → Option Definition → Option Definition
or_definition None later = later
or_definition (Some d) later = Some d

abbrev pub object_at : ℕ → Option ℕ → Option Definition
object_at unit None = None
object_at unit (Some number) = Some (AnObject unit number)

abbrev pub function_at : ℕ → Option ℕ → Option Definition
function_at unit None = None
function_at unit (Some number) = Some (AFunction (function_of unit number))

-- what a file defines under a name that other files see
abbrev pub defined_in : List ℕ → ℕ → Typed → Option Definition
defined_in name unit u = or_definition
    (object_at unit (position_from (is_object_named name) 0 u.globals))
    (function_at unit (position_from (is_function_named name) 0 u.functions))

abbrev pub defined_from : List ℕ → ℕ → List Typed → Option Definition
defined_from name unit [] = None
defined_from name unit (u ∷ us) = or_definition (defined_in name unit u) (defined_from name (unit + 1) us)

-- what a name stands for, of which one file at most has a definition that others see
abbrev pub defined : List Typed → List ℕ → Option Definition
defined units name = defined_from name 0 units

abbrev pub extern_in : Option Typed → ℕ → Option ExternInfo
extern_in None number = None
extern_in (Some u) number = slice_get u.externs number

abbrev pub extern_at : List Typed → ℕ → ℕ → Option ExternInfo
extern_at units unit number = extern_in (slice_get units unit) number

abbrev pub definition_of : List Typed → Option ExternInfo → Option Definition
definition_of units None = None
definition_of units (Some e) = defined units e.name

abbrev pub block_of_definition : List Typed → Option Definition → Option ℕ
block_of_definition units None = None
block_of_definition units (Some (AnObject unit number)) = Some (object_block units unit number)
block_of_definition units (Some (AFunction f)) = Some (code_block units f.unit f.number)

-- what a file declares and another defines: a function is a block without bytes
abbrev pub extern_block : List Typed → ℕ → ℕ → Option ℕ
extern_block units unit number = block_of_definition units (definition_of units (extern_at units unit number))

-- ---- functions

abbrev pub function_in : Option Typed → ℕ → Option TFunction
function_in None number = None
function_in (Some u) number = slice_get u.functions number

abbrev pub function_named : List Typed → Function → Option TFunction
function_named units f = function_in (slice_get units f.unit) f.number

abbrev pub structs_in : Option Typed → List StructInfo
structs_in None = []
structs_in (Some u) = u.structs

abbrev pub structs_of : List Typed → ℕ → List StructInfo
structs_of units unit = structs_in (slice_get units unit)

abbrev pub name_of_struct : Option StructInfo → List ℕ
name_of_struct None = []
name_of_struct (Some info) = info.name

abbrev pub same_across_level : List StructInfo → List StructInfo → Ty-F (Ty → Bool) → TyLayer → Bool
same_across_level these those Ty-F.Void Ty-F.Void = true
same_across_level these those (Ty-F.Int s) (Ty-F.Int t) = same_int s t
same_across_level these those (Ty-F.Pointer same) (Ty-F.Pointer t) = same t
same_across_level these those (Ty-F.Array same n) (Ty-F.Array t m) = same t && nat_eq n m
same_across_level these those (Ty-F.Struct n) (Ty-F.Struct m) =
    bytes_eq (name_of_struct (slice_get these n)) (name_of_struct (slice_get those m))
same_across_level these those _ _ = false

-- two types of two files are one, where structs are one by their names (after 6.2.7)
abbrev pub same_across : List StructInfo → List StructInfo → Ty → Ty → Bool
same_across these those = fold-Ty (Ty → Bool) (λ level t. same_across_level these those level (out-Ty t))

abbrev pub all_same_across : List StructInfo → List StructInfo → List Ty → List Ty → Bool
all_same_across these those [] [] = true
all_same_across these those (s ∷ ss) (t ∷ ts) = same_across these those s t && all_same_across these those ss ts
all_same_across these those _ _ = false

abbrev pub type_of_local : LocalInfo → Ty
type_of_local l = l.ty

abbrev pub parameter_types : TFunction → List Ty
parameter_types f = map type_of_local (take f.params f.locals)

abbrev pub agrees_with : List StructInfo → List StructInfo → ExternInfo → Option TFunction → Bool
agrees_with these those e None = false
agrees_with these those e (Some f) = same_across these those e.result f.result && all_same_across these those e.params (parameter_types f)

-- the function that a definition is, where it has the type by which a file declares it
abbrev pub called_as : List Typed → ℕ → ExternInfo → Definition → Option Function
called_as units unit e (AFunction f) =
    (if agrees_with (structs_of units unit) (structs_of units f.unit) e (function_named units f) then Some f else None)
called_as units unit e (AnObject v number) = None
