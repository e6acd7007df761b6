-- The first scalar of a struct is that of its first member.
use Rattle.std.proofs.Common.{◌≡◌, refl, ◌∙◌, ap, ℕ, zero, suc, ◌-◌, ◌<◌, arith, List, [], ◌∷◌, Option, Some, None}
use Rattle.std.specs.Prelude.{slice_get}
use Rattle.c_type_base.specs.declared.ty.Ty.{Ty}
use Rattle.c_type_base.specs.declared.typed.MemberInfo.{MemberInfo}
use Rattle.c_type_base.specs.declared.typed.StructInfo.{StructInfo}
use Rattle.c_type_base.specs.Layout.{members_of, of_first, first_by, first_in_struct}
use Rattle.c_type_stmt.specs.Slots.{member_at}

abbrev bytes_or : (Ty → ℕ) → MemberInfo → Option MemberInfo → ℕ
bytes_or bytes d None = bytes d.ty
bytes_or bytes d (Some m) = bytes m.ty

first_member : (bytes : Ty → ℕ) (ms : List MemberInfo) (m : MemberInfo) → slice_get ms 0 ≡ Some m → of_first bytes ms ≡ bytes m.ty
first_member bytes [] m is = absurd (cc)
first_member bytes (x ∷ ms) m is = ap (bytes_or bytes x) is

no_member : (bytes : Ty → ℕ) (ms : List MemberInfo) → slice_get ms 0 ≡ None → of_first bytes ms ≡ 0
no_member bytes [] none = refl
no_member bytes (x ∷ ms) none = absurd (cc)

behind_suc : (l : ℕ) → l ≡ suc l - 1
behind_suc l = omega arith

pub scalar_step : (structs : List StructInfo) (left number : ℕ) (m : MemberInfo) → 0 < left → member_at structs number 0 ≡ Some m →
    first_in_struct left structs number ≡ first_by (first_in_struct (left - 1) structs) m.ty
scalar_step structs zero number m below is = absurd (omega arith)
scalar_step structs (suc l) number m below is =
    first_member (first_by (first_in_struct l structs)) (members_of (slice_get structs number)) m is
    ∙ ap (λ n. first_by (first_in_struct n structs) m.ty) (behind_suc l)

pub scalar_end : (structs : List StructInfo) (left number : ℕ) → 0 < left → member_at structs number 0 ≡ None →
    first_in_struct left structs number ≡ 0
scalar_end structs zero number below none = absurd (omega arith)
scalar_end structs (suc l) number below none =
    no_member (first_by (first_in_struct l structs)) (members_of (slice_get structs number)) none
