-- What the layout of structs promises: alignments are positive, each member stands on a multiple of its own and behind the one before,
-- and within the struct.
use Rattle.std.proofs.Common.{◌≡◌, refl, subst, ℕ, zero, suc, ◌+◌, ◌-◌, ◌/◌, ◌%◌, ◌≤◌, ◌<◌, List, [], ◌∷◌, map, slice_get, slice_index}
use Rattle.std.proofs.Common.{Option, Some, None, arith, lit≤}
use Rattle.std.proofs.Math.Nat.{mod-lt, mod-eq-sub-div-mul, div-mul-le_self, mul-mod_left}
use Rattle.c_ast.specs.declared.int_type.IntType.{IntType}
use Rattle.c_ast.specs.declared.int_type.IntType.TheVariants as int
use Rattle.c_type_base.specs.Laws.Opened.{given_types}
use Rattle.c_type_base.specs.declared.ty.Ty.{Ty, roll-Ty, map-Ty}
use Rattle.c_type_base.specs.declared.ty.Ty.TheOpen.{Ty-F}
use Rattle.c_type_base.specs.declared.ty.Ty.TheFolds.{ind-Ty}
use Rattle.c_type_base.specs.declared.typed.StructInfo.{StructInfo}
use Rattle.c_type_base.specs.Sizes.{int_bytes, size, align, align_of_struct}
use Rattle.c_type_base.specs.Laws.SizeLaws.{align-void, align-int, align-pointer, align-array, align-struct}
use Rattle.c_type_base.specs.Layout.{round_up, places, end_of, struct_align, LaidOut, type_of}

-- ---- rounding up

pub round_up-reaches : (place unit : ℕ) → 1 ≤ unit → place ≤ round_up place unit
round_up-reaches place unit positive =
    let rest : (place + (unit - 1)) % unit < unit = mod-lt (place + (unit - 1)) positive in
    let is : (place + (unit - 1)) % unit ≡ (place + (unit - 1)) - round_up place unit = mod-eq-sub-div-mul (place + (unit - 1)) unit in
    omega arith

pub round_up-near : (place unit : ℕ) → 1 ≤ unit → round_up place unit < place + unit
round_up-near place unit positive =
    let below : round_up place unit ≤ place + (unit - 1) = div-mul-le_self (place + (unit - 1)) unit in
    omega arith

pub round_up-multiple : (place unit : ℕ) → round_up place unit % unit ≡ 0
round_up-multiple place unit = mul-mod_left ((place + (unit - 1)) / unit) unit

-- ---- alignments

pub int_bytes-positive : (ty : IntType) → 1 ≤ int_bytes ty
int_bytes-positive int.Char = lit≤ tt
int_bytes-positive int.SignedChar = lit≤ tt
int_bytes-positive int.UnsignedChar = lit≤ tt
int_bytes-positive int.Short = lit≤ tt
int_bytes-positive int.UShort = lit≤ tt
int_bytes-positive int.Int = lit≤ tt
int_bytes-positive int.UInt = lit≤ tt
int_bytes-positive int.Long = lit≤ tt
int_bytes-positive int.ULong = lit≤ tt

pub struct_align-positive : (structs : List StructInfo) (tys : List Ty) → 1 ≤ struct_align structs tys
struct_align-positive structs [] = lit≤ tt
struct_align-positive structs (ty ∷ tys) =
    let rest : 1 ≤ struct_align structs tys = struct_align-positive structs tys in
    omega arith

abbrev Positive : List StructInfo → Ty → Type 0
Positive structs ty = 1 ≤ align structs ty

abbrev With : List StructInfo → Type 0
With structs = (ty : Ty) × Positive structs ty

types_with : (structs : List StructInfo) → Ty-F (With structs) → Ty-F Ty
types_with structs = map-Ty (With structs) Ty (λ e. e.0)

module _ (structs : List StructInfo) (laid : LaidOut structs) where
  of_struct : (o : Option StructInfo) (number : ℕ) → slice_get structs number ≡ o → 1 ≤ align_of_struct o
  of_struct None number is = lit≤ tt
  of_struct (Some info) number is =
      rw (laid number info is).align (struct_align-positive structs (map type_of info.members))

  level : (y : Ty-F (With structs)) → Positive structs (roll-Ty (types_with structs y))
  unfolding types_with given_types
  level Ty-F.Void = rw align-void (lit≤ tt)
  level (Ty-F.Int ty) = rw align-int (int_bytes-positive ty)
  level (Ty-F.Pointer t) = rw align-pointer (lit≤ tt)
  level (Ty-F.Array t length) = rw align-array t.1
  level (Ty-F.Struct number) = rw align-struct (of_struct (slice_get structs number) number refl)

  levels : (x : Ty-F Ty) (y : Ty-F (With structs)) → types_with structs y ≡ x → Positive structs (roll-Ty x)
  levels x y is = subst (λ x. Positive structs (roll-Ty x)) is (level y)

  -- each type stands on multiples of a positive number
  pub align-positive : (ty : Ty) → 1 ≤ align structs ty
  unfolding types_with
  align-positive = ind-Ty (Positive structs) levels

  -- ---- members

  -- members that stand from a place on end behind it
  pub end_of-reaches : (from : ℕ) (tys : List Ty) → from ≤ end_of structs from tys
  end_of-reaches from [] = omega arith
  end_of-reaches from (ty ∷ tys) =
      let start : from ≤ round_up from (align structs ty) = round_up-reaches from (align structs ty) (align-positive ty) in
      let rest : round_up from (align structs ty) + size structs ty ≤ end_of structs from (ty ∷ tys) =
      end_of-reaches (round_up from (align structs ty) + size structs ty) tys in
      omega arith

  -- what a member of a number is promised among members that stand from a place on
  pub record Placed (from : ℕ) (tys : List Ty) (k : ℕ) (ty : Ty) : Type 0 where
    pub behind : from ≤ slice_index (places structs from tys) k
    pub aligned : slice_index (places structs from tys) k % align structs ty ≡ 0
    pub within : slice_index (places structs from tys) k + size structs ty ≤ end_of structs from tys

  pub member-placed : (from : ℕ) (tys : List Ty) (k : ℕ) (ty : Ty) → slice_get tys k ≡ Some ty → Placed from tys k ty
  member-placed from [] k ty is = cc
  member-placed from (t ∷ tys) zero ty is =
      let same : t ≡ ty = cc in
      subst (λ ty. Placed from (t ∷ tys) zero ty) same (record {
        behind = round_up-reaches from (align structs t) (align-positive t);
        aligned = round_up-multiple from (align structs t);
        within = end_of-reaches (round_up from (align structs t) + size structs t) tys;
      })
  member-placed from (t ∷ tys) (suc k) ty is =
      let rest = member-placed (round_up from (align structs t) + size structs t) tys k ty is in
      let start : from ≤ round_up from (align structs t) = round_up-reaches from (align structs t) (align-positive t) in
      record { behind = omega (arith, rest.behind); aligned = rest.aligned; within = rest.within }
