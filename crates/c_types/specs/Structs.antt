-- Struct declarations (ISO C11 6.7.2.1, 6.7.2.3).
use Rattle.std.specs.Prelude.{ℕ, Bool, false, not, leb, min, List, [], ◌∷◌, ◌++◌, map, slice_get, Option, Some, None}
use Rattle.std.specs.List.{list_any}
use Rattle.std.specs.Str.{bytes_eq}
use Rattle.c_ast.specs.declared.declaration.Decl.{Decl}
use Rattle.c_type_base.specs.declared.ty.Ty.{Ty}
use Rattle.c_type_base.specs.declared.typed.StructInfo.{StructInfo}
use Rattle.c_type_base.specs.declared.typed.MemberInfo.{MemberInfo}
use Rattle.c_type_base.specs.Sizes.{largest, has_members}
use Rattle.c_type_base.specs.Layout.{places, struct_align, struct_size}
use Rattle.c_type_expr.specs.Faults.{Rule, rule, broken}
use Rattle.c_type_expr.specs.Outcomes.{Judged, sure, on, behind, joined}
use Rattle.c_type_expr.specs.Said.{whole}
use Rattle.c_type_expr.specs.Expressions.{written}
use Rattle.c_type_stmt.specs.Declarations.{object_rules}
pub use Rattle.c_types.specs.declared.body.Member.{Member}

abbrev pub ty_in : Member → Ty
ty_in m = m.ty

abbrev pub found_member : List ℕ → Option Ty → List Member
found_member name None = []
found_member name (Some t) = record { name = name; ty = t } ∷ []

abbrev pub with_member : List Member → Option (List Member) → Option (List Member)
with_member m None = None
with_member m (Some ms) = Some (m ++ ms)

abbrev pub member_type : Decl → Judged Ty
member_type d = on (written d.ty d.span) (whole d.span)

-- a member, whose name is new in the body or not: it has an object's type
abbrev pub member : Bool → Decl → Judged Ty
member new d env =
    let t = member_type d env in
    record t { faults = t.faults ++ broken d.span (rule 10 new ∷ object_rules env.structs t.known) }

-- the members of a body behind those of some names: each has a name of its own
abbrev pub members : List (List ℕ) → List Decl → Judged (List Member)
members seen [] = sure []
members seen (d ∷ ds) = λ env.
    let one = member (not (list_any (bytes_eq d.name) seen)) d env in
    let rest = members (d.name ∷ seen) ds (behind one env) in
    joined one rest (with_member (found_member d.name one.known) rest.known)

-- the greatest number of 64 bits
abbrev pub greatest : ℕ
greatest = 18446744073709551615

-- A number of bytes, as far as 64 bits hold it. A struct with more has broken the rule on sizes.
abbrev pub capped : ℕ → ℕ
capped n = min n greatest

abbrev pub with_places : List Member → List ℕ → List MemberInfo
with_places (m ∷ ms) (place ∷ rest) = record { name = m.name; ty = m.ty; offset = capped place } ∷ with_places ms rest
with_places _ _ = []

-- a struct of a tag with these members, each at its place
abbrev pub struct_with : List StructInfo → List ℕ → List Member → StructInfo
struct_with structs name ms = record {
  name = name;
  members = with_places ms (places structs 0 (map ty_in ms));
  bytes = capped (struct_size structs (map ty_in ms));
  align = struct_align structs (map ty_in ms);
}

-- a tag without a body
abbrev pub tag_alone : List ℕ → StructInfo
tag_alone name = record { name = name; members = []; bytes = 0; align = 1 }

abbrev pub has_body : Option StructInfo → Bool
has_body None = false
has_body (Some info) = has_members info.members

-- a tag has one body, and a struct at most so many bytes
abbrev pub body_rules : List StructInfo → ℕ → List Member → List Rule
body_rules structs number ms =
    rule 10 (not (has_body (slice_get structs number))) ∷ rule 17 (leb (struct_size structs (map ty_in ms)) largest) ∷ []
