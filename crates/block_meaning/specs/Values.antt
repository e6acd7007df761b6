-- Values, and the cells that they are in memory (ISO C11 6.2.6.1, little-endian).
use Rattle.std.specs.Prelude.{ℕ, zero, suc, ◌+◌, ◌*◌, ◌/◌, ◌%◌, Bool, true, false, ◌&&◌, nat_eq, List, [], ◌∷◌, Option, Some, None}
use Rattle.std.specs.Prelude.{if◌then◌else◌}
use Rattle.c_type_base.specs.declared.ty.Ty.{Ty, out-Ty}
use Rattle.c_type_base.specs.declared.ty.Ty.TheOpen.{Ty-F}
use Rattle.c_type_base.specs.Sizes.{int_bytes}
use Rattle.c_type_base.specs.Types.{TyLayer}
use Rattle.c_type_base.specs.Conversions.{wrap}
use Rattle.block_meaning.specs.declared.value.Value.{Value}
use Rattle.block_meaning.specs.declared.value.Value.TheVariants.{Number, Address, Struct, NoValue}
use Rattle.block_meaning.specs.declared.cell.Cell.{Cell}
use Rattle.block_meaning.specs.declared.cell.Cell.TheVariants.{Nothing, Byte, Part}
use Rattle.block_meaning.specs.declared.value.Pointer.{Pointer}
use Rattle.block_meaning.specs.Blocks.{pointer, null}

-- where a value points to, or where the struct stands
abbrev pub pointer_in : Value → Pointer
pointer_in (Address p) = p
pointer_in (Struct p) = p
pointer_in _ = null

abbrev pub number_in : Value → ℕ
number_in (Number n) = n
number_in _ = 0

-- ---- a value as cells

-- the lowest byte first
abbrev pub number_cells : ℕ → ℕ → List Cell
number_cells zero n = []
number_cells (suc bytes) n = Byte (n % 256) ∷ number_cells bytes (n / 256)

abbrev pub part_of : ℕ → Pointer → Cell
part_of k p = Part k p.block p.offset

abbrev pub pointer_cells : Pointer → List Cell
pointer_cells p = part_of 0 p ∷ part_of 1 p ∷ part_of 2 p ∷ part_of 3 p ∷ part_of 4 p ∷ part_of 5 p ∷ part_of 6 p ∷ part_of 7 p ∷ []

abbrev pub scalar_cells : TyLayer → Value → List Cell
scalar_cells (Ty-F.Int t) v = number_cells (int_bytes t) (number_in v)
scalar_cells (Ty-F.Pointer t) v = pointer_cells (pointer_in v)
scalar_cells _ v = []

-- a scalar of a type
abbrev pub cells_of : Ty → Value → List Cell
cells_of t v = scalar_cells (out-Ty t) v

-- ---- cells as a value

abbrev pub with_byte : ℕ → Option ℕ → Option ℕ
with_byte b None = None
with_byte b (Some n) = Some (b + 256 * n)

-- the number that some bytes are, where all are bytes
abbrev pub number_of_cells : List Cell → Option ℕ
number_of_cells [] = Some 0
number_of_cells (Byte b ∷ cells) = with_byte b (number_of_cells cells)
number_of_cells (_ ∷ cells) = None

abbrev pub is_part : ℕ → Pointer → Cell → Bool
is_part k p (Part j block offset) = nat_eq j k && nat_eq block p.block && nat_eq offset p.offset
is_part k p _ = false

-- they are the parts of a pointer, from part k on
abbrev pub are_parts : ℕ → Pointer → List Cell → Bool
are_parts k p [] = true
are_parts k p (c ∷ cells) = is_part k p c && are_parts (k + 1) p cells

-- the pointer that some cells are, where they are the parts of one
abbrev pub pointer_of_cells : List Cell → Option Pointer
pointer_of_cells (Part k block offset ∷ cells) =
    (if are_parts 0 (pointer block offset) (Part k block offset ∷ cells) then Some (pointer block offset) else None)
pointer_of_cells _ = None

abbrev pub number_value : (ℕ → ℕ) → Option ℕ → Option Value
number_value f None = None
number_value f (Some n) = Some (Number (f n))

abbrev pub address_value : Option Pointer → Option Value
address_value None = None
address_value (Some p) = Some (Address p)

abbrev pub scalar_of_cells : TyLayer → List Cell → Option Value
scalar_of_cells (Ty-F.Int t) cells = number_value (wrap t) (number_of_cells cells)
scalar_of_cells (Ty-F.Pointer t) cells = address_value (pointer_of_cells cells)
scalar_of_cells _ cells = None

-- the scalar of a type that some cells are, as many as it has bytes
abbrev pub value_of_cells : Ty → List Cell → Option Value
value_of_cells t cells = scalar_of_cells (out-Ty t) cells

abbrev pub is_nothing : Cell → Bool
is_nothing Nothing = true
is_nothing _ = false

-- ---- a value in another type

abbrev pub value_as : TyLayer → Value → Value
value_as Ty-F.Void v = NoValue
value_as (Ty-F.Int t) v = Number (wrap t (number_in v))
-- the null constant is the null pointer
value_as (Ty-F.Pointer t) (Number n) = Address null
value_as _ v = v

-- in a type, as by a conversion (6.3.1.3, 6.3.2.3)
abbrev pub converted_to : Ty → Value → Value
converted_to t v = value_as (out-Ty t) v

abbrev pub zero_as : TyLayer → Value
zero_as (Ty-F.Int t) = Number 0
zero_as (Ty-F.Pointer t) = Address null
zero_as _ = NoValue

-- what a function of a result's type gives that ends without `return` (this project's own)
abbrev pub missing_result : Ty → Value
missing_result t = zero_as (out-Ty t)
