-- What a table of structs that are laid out promises of each struct in it: its recorded numbers are those of the rule, its size is a
-- multiple of
-- its alignment, and each member stands on a multiple of its own alignment and within the struct.
use Rattle.std.proofs.Common.{◌≡◌, sym, ◌∙◌, ap, ℕ, ◌+◌, ◌%◌, ◌≤◌, List, map, slice_get, slice_index, Some, arith}
use Rattle.std.specs.Prelude.{option_map, unwrap_or}
use Rattle.std.proofs.lemmas.Option.{slice_get-map, unwrap_or-slice_get}
use Rattle.c_type_base.specs.declared.typed.StructInfo.{StructInfo}
use Rattle.c_type_base.specs.declared.typed.MemberInfo.{MemberInfo}
use Rattle.c_type_base.specs.Sizes.{size, align}
use Rattle.c_type_base.specs.Layout.{LaidOut, IsLaidOut, places, end_of, struct_align, struct_size, offset_in, type_of, place_of}
use Rattle.c_type_base.specs.Laws.LayoutLaws.{member-placed, struct_align-positive, round_up-reaches, round_up-multiple}

-- what is recorded of a member, or 0 where there is none
abbrev pub recorded : List MemberInfo → ℕ → ℕ
recorded ms k = unwrap_or (option_map offset_in (slice_get ms k)) 0

pub recorded-is : (structs : List StructInfo) (info : StructInfo) → IsLaidOut structs info → (k : ℕ)
    → recorded info.members k ≡ slice_index (places structs 0 (map type_of info.members)) k
recorded-is structs info laid k =
    sym (ap (λ o. unwrap_or o 0) (slice_get-map offset_in info.members k))
    ∙ unwrap_or-slice_get (map offset_in info.members) k 0
    ∙ ap (λ l. slice_index l k) laid.offsets

pub recorded-place : (structs : List StructInfo) → LaidOut structs → (which : ℕ) (info : StructInfo) →
    slice_get structs which ≡ Some info → (k : ℕ)
    → recorded info.members k ≡ place_of structs which k
recorded-place structs laid which info is k = rw is (recorded-is structs info (laid which info is) k)

pub record Inside (structs : List StructInfo) (info : StructInfo) (m : MemberInfo) : Type 0 where
  pub aligned : m.offset % align structs m.ty ≡ 0
  pub within : m.offset + size structs m.ty ≤ info.bytes

pub member-inside : (structs : List StructInfo) → LaidOut structs → (info : StructInfo) → IsLaidOut structs info → (k : ℕ) (m : MemberInfo)
    → slice_get info.members k ≡ Some m → Inside structs info m
member-inside structs all info laid k m is =
    let tys = map type_of info.members in
    let there : slice_get tys k ≡ Some m.ty = slice_get-map type_of info.members k ∙ ap (option_map type_of) is in
    let placed = member-placed structs all 0 tys k m.ty there in
    let same : m.offset ≡ slice_index (places structs 0 tys) k =
    ap (λ o. unwrap_or (option_map offset_in o) 0) (sym is) ∙ recorded-is structs info laid k in
    let whole : end_of structs 0 tys ≤ struct_size structs tys =
    round_up-reaches (end_of structs 0 tys) (struct_align structs tys) (struct_align-positive structs tys) in
    record {
      aligned = rw same placed.aligned;
      within = rw (same, laid.bytes) (omega (arith, placed.within, whole));
    }

pub struct-aligned : (structs : List StructInfo) (info : StructInfo) → IsLaidOut structs info → info.bytes % info.align ≡ 0
struct-aligned structs info laid =
    let tys = map type_of info.members in
    rw (laid.bytes, laid.align) (round_up-multiple (end_of structs 0 tys) (struct_align structs tys))
