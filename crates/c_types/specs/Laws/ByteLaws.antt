-- That structs with members have bytes stays so where a tag is added or gets its body.
use Rattle.std.proofs.Common.{◌≡◌, sym, subst, ℕ, ◌+◌, ◌≤◌, inl, inr, true, false, List, [], ◌∷◌, ◌++◌, map, slice_set, arith, lit≤}
use Rattle.std.specs.Prelude.{min}
use Rattle.std.proofs.Math.Nat.{le_trans}
use Rattle.c_type_base.specs.declared.typed.StructInfo.{StructInfo}
use Rattle.c_type_base.specs.Layout.{LaidOut, places, end_of, round_up, struct_align, struct_size}
use Rattle.c_type_base.specs.Sizes.{size, align, has_members, HaveBytes}
use Rattle.c_type_base.specs.Laws.LayoutLaws.{round_up-reaches, struct_align-positive, end_of-reaches}
use Rattle.c_type_base.specs.Laws.ByteLaws.{complete-some}
use Rattle.c_type_base.specs.Laws.GrowthLaws.{AllComplete, some}
use Rattle.c_types.specs.Structs.{Member, ty_in, greatest, with_places, struct_with, tag_alone}
use Rattle.c_types.specs.Laws.TableLaws.{from_appended, from_set}

pub none_have : HaveBytes []
none_have number info is there = absurd (cc)

pub tag_has : (s : List StructInfo) (tag : List ℕ) → HaveBytes s → HaveBytes (s ++ tag_alone tag ∷ [])
tag_has s tag have n info is holds =
    elim (from_appended s (tag_alone tag) n info is) [
      | inl there ↦ have n info there holds
      | inr new ↦ let no : false ≡ true = subst (λ (i : StructInfo). has_members i.members ≡ true) (sym new) holds in absurd (cc)
    ]

ends_some : (place bytes end : ℕ) → 1 ≤ bytes → place + bytes ≤ end → 1 ≤ end
ends_some place bytes end positive reaches = omega arith

-- members of which the first is complete end behind a place of 1 at least
members_some : (structs : List StructInfo) → LaidOut structs → HaveBytes structs → (ms : List Member) (rest : List ℕ) →
    has_members (with_places ms rest) ≡ true → AllComplete structs (map ty_in ms) → 1 ≤ end_of structs 0 (map ty_in ms)
members_some structs laid have [] rest is all = absurd (cc)
members_some structs laid have (m ∷ ms) rest is (some one all) =
    let place = round_up 0 (align structs m.ty) in
    ends_some place (size structs m.ty) (end_of structs (place + size structs m.ty) (map ty_in ms))
    (complete-some structs have m.ty one) (end_of-reaches structs laid (place + size structs m.ty) (map ty_in ms))

at_least : (n g : ℕ) → 1 ≤ n → 1 ≤ g → 1 ≤ min n g
at_least n g positive large = omega arith

body_some : (structs : List StructInfo) (tag : List ℕ) (ms : List Member) → LaidOut structs → HaveBytes structs →
    AllComplete structs (map ty_in ms) → has_members (struct_with structs tag ms).members ≡ true →
    1 ≤ (struct_with structs tag ms).bytes
body_some structs tag ms laid have all is =
    let tys = map ty_in ms in
    at_least (struct_size structs tys) greatest
    (le_trans (members_some structs laid have ms (places structs 0 tys) is all)
    (round_up-reaches (end_of structs 0 tys) (struct_align structs tys) (struct_align-positive structs tys))) (lit≤ tt)

pub body_has : (s : List StructInfo) (k : ℕ) (tag : List ℕ) (ms : List Member) → LaidOut s → AllComplete s (map ty_in ms) →
    HaveBytes s → HaveBytes (slice_set s k (struct_with s tag ms))
body_has s k tag ms laid all have n info is holds =
    elim (from_set s k (struct_with s tag ms) n info is) [
      | inl there ↦ have n info there holds
      | inr same ↦ subst (λ (i : StructInfo). 1 ≤ i.bytes) same
          (body_some s tag ms laid have all (subst (λ (i : StructInfo). has_members i.members ≡ true) (sym same) holds))
    ]
