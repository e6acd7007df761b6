-- How the members of a struct stand in it (ISO C11 6.7.2.1 paragraphs 14 to 17; the procedure call standard for AArch64, "aggregates"):
-- each at the next multiple of its alignment, in order, and the whole rounded up to the greatest alignment.
use Rattle.std.specs.Prelude.{◌≡◌, ℕ, zero, suc, ◌+◌, ◌-◌, ◌*◌, ◌/◌, max, List, [], ◌∷◌, length, map, slice_get, slice_index, Option}
use Rattle.std.specs.Prelude.{Some, None}
use Rattle.c_type_base.specs.declared.ty.Ty.{Ty}
use Rattle.c_type_base.specs.declared.ty.Ty.TheOpen.{Ty-F}
use Rattle.c_type_base.specs.declared.ty.Ty.TheFolds.{fold-Ty}
use Rattle.c_type_base.specs.declared.typed.StructInfo.{StructInfo}
use Rattle.c_type_base.specs.declared.typed.MemberInfo.{MemberInfo}
use Rattle.c_type_base.specs.Sizes.{size, align, int_bytes}

-- the first multiple of a positive number at or behind a place
abbrev pub round_up : ℕ → ℕ → ℕ
round_up place unit = (place + (unit - 1)) / unit * unit

-- where members of these types stand, from a place on
abbrev pub places : List StructInfo → ℕ → List Ty → List ℕ
places structs from [] = []
places structs from (ty ∷ tys) =
    round_up from (align structs ty) ∷ places structs (round_up from (align structs ty) + size structs ty) tys

-- where the last of them ends
abbrev pub end_of : List StructInfo → ℕ → List Ty → ℕ
end_of structs from [] = from
end_of structs from (ty ∷ tys) = end_of structs (round_up from (align structs ty) + size structs ty) tys

abbrev pub struct_align : List StructInfo → List Ty → ℕ
struct_align structs [] = 1
struct_align structs (ty ∷ tys) = max (align structs ty) (struct_align structs tys)

abbrev pub struct_size : List StructInfo → List Ty → ℕ
struct_size structs tys = round_up (end_of structs 0 tys) (struct_align structs tys)

abbrev pub offset_in : MemberInfo → ℕ
offset_in m = m.offset

abbrev pub type_of : MemberInfo → Ty
type_of m = m.ty

-- the numbers that a struct has are those of its members' types
pub record IsLaidOut (structs : List StructInfo) (info : StructInfo) : Type 0 where
  pub offsets : map offset_in info.members ≡ places structs 0 (map type_of info.members)
  pub bytes : info.bytes ≡ struct_size structs (map type_of info.members)
  pub align : info.align ≡ struct_align structs (map type_of info.members)

-- so it is for each struct of a table
abbrev pub LaidOut : List StructInfo → Type 0
LaidOut structs = (number : ℕ) (info : StructInfo) → slice_get structs number ≡ Some info → IsLaidOut structs info

abbrev pub members_of : Option StructInfo → List MemberInfo
members_of None = []
members_of (Some info) = info.members

-- where a member stands in the struct of a number
abbrev pub place_of : List StructInfo → ℕ → ℕ → ℕ
place_of structs which member = slice_index (places structs 0 (map type_of (members_of (slice_get structs which)))) member

-- ---- the first scalar

abbrev pub of_first : (Ty → ℕ) → List MemberInfo → ℕ
of_first bytes [] = 0
of_first bytes (m ∷ ms) = bytes m.ty

-- by what the struct of a number gives
abbrev pub first_step : (ℕ → ℕ) → Ty-F ℕ → ℕ
first_step of_struct Ty-F.Void = 0
first_step of_struct (Ty-F.Int t) = int_bytes t
first_step of_struct (Ty-F.Pointer target) = 8
first_step of_struct (Ty-F.Array element length) = element
first_step of_struct (Ty-F.Struct number) = of_struct number

abbrev pub first_by : (ℕ → ℕ) → Ty → ℕ
first_by of_struct = fold-Ty ℕ (first_step of_struct)

-- of the struct of a number: its first member's, through so many structs in one another at most
abbrev pub first_in_struct : ℕ → List StructInfo → ℕ → ℕ
first_in_struct zero structs number = 0
first_in_struct (suc deeper) structs number = of_first (first_by (first_in_struct deeper structs)) (members_of (slice_get structs number))

-- The bytes of the first scalar in an object, which stands at its start: in its first element or member. There are no more structs in one
-- another than the table has.
abbrev pub first_scalar : List StructInfo → Ty → ℕ
first_scalar structs = first_by (first_in_struct (length structs) structs)
