-- What the blocks hold before the call of `main` (ISO C11 5.1.2, 6.7.9 paragraph 10): objects with their initialisers, of which the rest
-- is zero, and texts.
use Rattle.std.specs.Prelude.{ℕ, ℤ, pos, negsuc, zero, suc, ◌+◌, ◌-◌, ◌^◌, List, [], ◌∷◌, ◌++◌, length, map, replicate, slice_get, Option}
use Rattle.std.specs.Prelude.{Some, None}
use Rattle.c_type_base.specs.declared.ty.Ty.{Ty}
use Rattle.c_type_base.specs.declared.ty.Ty.TheOpen.{Ty-F}
use Rattle.c_type_base.specs.declared.ty.Ty.TheFolds.{fold-Ty}
use Rattle.c_type_base.specs.declared.typed.Typed.{Typed}
use Rattle.c_type_base.specs.declared.typed.StructInfo.{StructInfo}
use Rattle.c_type_base.specs.declared.typed.MemberInfo.{MemberInfo}
use Rattle.c_type_base.specs.declared.typed.GlobalInfo.{GlobalInfo}
use Rattle.c_type_base.specs.declared.typed.TFunction.{TFunction}
use Rattle.c_type_base.specs.declared.typed.InitPiece.{InitPiece}
use Rattle.c_type_base.specs.declared.typed.InitValue.{InitValue}
use Rattle.c_type_base.specs.declared.typed.InitValue.TheVariants as initial
use Rattle.c_type_base.specs.declared.typed.Target.{Target}
use Rattle.c_type_base.specs.declared.typed.Target.TheVariants as target
use Rattle.c_type_base.specs.Sizes.{int_bytes, bytes_of_struct}
use Rattle.c_type_base.specs.Layout.{members_of}
use Rattle.block_meaning.specs.declared.cell.Cell.{Cell}
use Rattle.block_meaning.specs.declared.cell.Cell.TheVariants.{Byte, Part}
use Rattle.block_meaning.specs.declared.kind.Kind.TheVariants.{Global, Text, Code}
use Rattle.block_meaning.specs.Blocks.{Block, pointer, null, null_block, block_of, with_cells}
use Rattle.block_meaning.specs.Linkage.{object_block, text_block, extern_block}
use Rattle.block_meaning.specs.Values.{number_cells, pointer_cells}

-- ---- zero: numbers are 0, and pointers null

abbrev pub repeated : ℕ → List Cell → List Cell
repeated zero cells = []
repeated (suc n) cells = cells ++ repeated n cells

-- by what the struct of a number holds
abbrev pub zero_step : (ℕ → List Cell) → Ty-F (List Cell) → List Cell
zero_step of_struct Ty-F.Void = []
zero_step of_struct (Ty-F.Int t) = replicate (int_bytes t) (Byte 0)
zero_step of_struct (Ty-F.Pointer t) = pointer_cells null
zero_step of_struct (Ty-F.Array cells n) = repeated n cells
zero_step of_struct (Ty-F.Struct number) = of_struct number

abbrev pub zero_by : (ℕ → List Cell) → Ty → List Cell
zero_by of_struct = fold-Ty (List Cell) (zero_step of_struct)

abbrev pub zero_members : (Ty → List Cell) → List MemberInfo → List Cell → List Cell
zero_members zeros [] cells = cells
zero_members zeros (m ∷ ms) cells = zero_members zeros ms (with_cells m.offset (zeros m.ty) cells)

-- of the struct of a number, through so many structs in one another at most
abbrev pub zero_in_struct : ℕ → List StructInfo → ℕ → List Cell
zero_in_struct zero structs number = []
zero_in_struct (suc deeper) structs number =
    zero_members (zero_by (zero_in_struct deeper structs)) (members_of (slice_get structs number))
    (replicate (bytes_of_struct (slice_get structs number)) (Byte 0))

-- an object of a type that is zero; there are no more structs in one another than the table has
abbrev pub zero_cells : List StructInfo → Ty → List Cell
zero_cells structs = zero_by (zero_in_struct (length structs) structs)

-- ---- initialisers

-- a signed number modulo 2^64
abbrev pub unsigned : ℤ → ℕ
unsigned (pos n) = n
unsigned (negsuc n) = 2 ^ 64 - 1 - n

abbrev pub or_null : Option ℕ → ℕ
or_null None = 0
or_null (Some block) = block

-- a name that no file defines is linked to nothing
abbrev pub target_block : List Typed → ℕ → Target → ℕ
target_block units unit (target.Global n) = object_block units unit n
target_block units unit (target.Extern n) = or_null (extern_block units unit n)
target_block units unit (target.Text n) = text_block units unit n

abbrev pub number_at : Option Cell → ℕ → ℕ → List Cell
number_at (Some (Part k block offset)) bytes n = pointer_cells (pointer 0 n)
number_at _ bytes n = number_cells bytes n

-- a scalar, by the cell that stands there: a number in a pointer's place is an offset in the null block
abbrev pub scalar_over : List Typed → ℕ → Option Cell → InitValue → List Cell
scalar_over units unit there (initial.Number n bytes) = number_at there bytes n
scalar_over units unit there (initial.Address t offset) = pointer_cells (pointer (target_block units unit t) (unsigned offset))

abbrev pub with_piece : List Typed → ℕ → InitPiece → List Cell → List Cell
with_piece units unit p cells = with_cells p.offset (scalar_over units unit (slice_get cells p.offset) p.value) cells

abbrev pub with_pieces : List Typed → ℕ → List InitPiece → List Cell → List Cell
with_pieces units unit [] cells = cells
with_pieces units unit (p ∷ ps) cells = with_pieces units unit ps (with_piece units unit p cells)

-- ---- all blocks

abbrev pub objects_from : List Typed → ℕ → List StructInfo → ℕ → List GlobalInfo → List Block
objects_from units unit structs number [] = []
objects_from units unit structs number (g ∷ gs) =
    block_of (Global unit number) (with_pieces units unit g.init (zero_cells structs g.ty))
    ∷ objects_from units unit structs (number + 1) gs

abbrev pub texts_from : ℕ → ℕ → List (List ℕ) → List Block
texts_from unit number [] = []
texts_from unit number (bytes ∷ more) = block_of (Text unit number) (map Byte bytes) ∷ texts_from unit (number + 1) more

abbrev pub codes_from : ℕ → ℕ → List TFunction → List Block
codes_from unit number [] = []
codes_from unit number (f ∷ fs) = block_of (Code unit number) [] ∷ codes_from unit (number + 1) fs

abbrev pub opening_from : List Typed → ℕ → List Typed → List Block
opening_from units unit [] = []
opening_from units unit (u ∷ us) =
    objects_from units unit u.structs 0 u.globals ++ texts_from unit 0 u.texts ++ codes_from unit 0 u.functions
    ++ opening_from units (unit + 1) us

-- the blocks of some files before the call of `main`
abbrev pub opening : List Typed → List Block
opening units = null_block ∷ opening_from units 0 units
