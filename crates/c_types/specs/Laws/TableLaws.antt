-- Tables of structs that are laid out stay so: where a tag is added, and where one that has no body gets one whose members are complete.
use Rattle.std.proofs.Common.{◌≡◌, refl, sym, ◌∙◌, ap, subst, ℕ, zero, suc, ◌+◌, ◌⊎◌, inl, inr, true, false, List, [], ◌∷◌, ◌++◌, map}
use Rattle.std.proofs.Common.{slice_get, slice_set, Some, ◌≤◌, lit≤, arith}
use Rattle.std.specs.Prelude.{min}
use Rattle.std.proofs.Math.Nat.{le_trans}
use Rattle.c_type_base.specs.declared.ty.Ty.{Ty}
use Rattle.c_type_base.specs.declared.typed.StructInfo.{StructInfo}
use Rattle.c_type_base.specs.Sizes.{size, align, complete_struct, largest}
use Rattle.c_type_base.specs.Layout.{round_up, places, end_of, struct_align, struct_size, IsLaidOut, LaidOut, offset_in, type_of}
use Rattle.c_type_base.specs.Laws.LayoutLaws.{round_up-reaches, struct_align-positive, end_of-reaches}
use Rattle.c_types.specs.Structs.{Member, ty_in, greatest, capped, with_places, struct_with, tag_alone}
use Rattle.c_type_base.specs.Laws.GrowthLaws.{Extends, AllComplete, none, all-kept, laid_out-kept}

-- a struct of a table: its numbers are those of the rule, its members are complete, and it is not too large
pub record Ready (structs : List StructInfo) (info : StructInfo) : Type 0 where
  pub laid : IsLaidOut structs info
  pub all : AllComplete structs (map type_of info.members)
  pub small : info.bytes ≤ largest

-- so it is for each
abbrev pub AllReady : List StructInfo → Type 0
AllReady structs = (number : ℕ) (info : StructInfo) → slice_get structs number ≡ Some info → Ready structs info

pub ready-laid_out : (structs : List StructInfo) → AllReady structs → LaidOut structs
ready-laid_out structs ready number info is = (ready number info is).laid

ready-kept : (s t : List StructInfo) → Extends s t → (info : StructInfo) → Ready s info → Ready t info
ready-kept s t more info ready = record {
  laid = laid_out-kept s t more info ready.all ready.laid;
  all = all-kept s t more (map type_of info.members) ready.all;
  small = ready.small;
}

pub none_ready : AllReady []
none_ready number info is = absurd (cc)

-- ---- a tag is added

pub get-appended : (s : List StructInfo) (new : StructInfo) (n : ℕ) → complete_struct (slice_get s n) ≡ true → slice_get (s ++ new ∷
    []) n ≡ slice_get s n
get-appended [] new n is = absurd (cc)
get-appended (x ∷ xs) new zero is = refl
get-appended (x ∷ xs) new (suc n) is = get-appended xs new n is

pub from_appended : (s : List StructInfo) (new : StructInfo) (n : ℕ) (info : StructInfo) → slice_get (s ++ new ∷ []) n ≡ Some info →
    (slice_get s n ≡ Some info) ⊎ (new ≡ info)
from_appended [] new zero info is = inr (cc)
from_appended [] new (suc n) info is = absurd (cc)
from_appended (x ∷ xs) new zero info is = inl is
from_appended (x ∷ xs) new (suc n) info is = from_appended xs new n info is

tag-ready : (structs : List StructInfo) (tag : List ℕ) → Ready structs (tag_alone tag)
tag-ready structs tag = record { laid = record { offsets = refl; bytes = refl; align = refl }; all = none; small = lit≤ tt }

pub tag_added : (s : List StructInfo) (tag : List ℕ) → AllReady s → AllReady (s ++ tag_alone tag ∷ [])
tag_added s tag ready n info is =
    elim (from_appended s (tag_alone tag) n info is) [
      | inl there ↦ ready-kept s (s ++ tag_alone tag ∷ []) (get-appended s (tag_alone tag)) info (ready n info there)
      | inr new ↦ subst (Ready (s ++ tag_alone tag ∷ [])) new (tag-ready (s ++ tag_alone tag ∷ []) tag)
    ]

-- ---- a tag gets its body

pub get-set_other : (s : List StructInfo) (k : ℕ) (new : StructInfo) → complete_struct (slice_get s k) ≡ false →
    (n : ℕ) → complete_struct (slice_get s n) ≡ true → slice_get (slice_set s k new) n ≡ slice_get s n
get-set_other [] k new bare n is = absurd (cc)
get-set_other (x ∷ xs) zero new bare zero is = absurd (cc)
get-set_other (x ∷ xs) zero new bare (suc n) is = refl
get-set_other (x ∷ xs) (suc k) new bare zero is = refl
get-set_other (x ∷ xs) (suc k) new bare (suc n) is = get-set_other xs k new bare n is

pub from_set : (s : List StructInfo) (k : ℕ) (new : StructInfo) (n : ℕ) (info : StructInfo) → slice_get (slice_set s k new) n ≡ Some info →
    (slice_get s n ≡ Some info) ⊎ (new ≡ info)
from_set [] k new n info is = inl is
from_set (x ∷ xs) zero new zero info is = inr (cc)
from_set (x ∷ xs) zero new (suc n) info is = inl is
from_set (x ∷ xs) (suc k) new zero info is = inl is
from_set (x ∷ xs) (suc k) new (suc n) info is = from_set xs k new n info is

types-placed : (structs : List StructInfo) (from : ℕ) (ms : List Member) → map type_of (with_places ms (places structs from
    (map ty_in ms))) ≡ map ty_in ms
types-placed structs from [] = refl
types-placed structs from (m ∷ ms) =
    ap (λ l. m.ty ∷ l) (types-placed structs (round_up from (align structs m.ty) + size structs m.ty) ms)

offsets-placed : (structs : List StructInfo) (from : ℕ) (ms : List Member) →
    map offset_in (with_places ms (places structs from (map ty_in ms))) ≡ map capped (places structs from (map ty_in ms))
offsets-placed structs from [] = refl
offsets-placed structs from (m ∷ ms) =
    ap (λ l. capped (round_up from (align structs m.ty)) ∷ l)
    (offsets-placed structs (round_up from (align structs m.ty) + size structs m.ty) ms)

within : (g n : ℕ) → n ≤ g → min n g ≡ n
within g n below = omega arith

not_more : (g n l : ℕ) → n ≤ l → min n g ≤ l
not_more g n l below = omega arith

front-within : (p s e g : ℕ) → p + s ≤ e → e ≤ g → p ≤ g
front-within p s e g reaches below = omega arith

-- where the last member ends within 64 bits, each place does
places-within : (structs : List StructInfo) → LaidOut structs → (from : ℕ) (ts : List Ty) → end_of structs from ts ≤ greatest →
    map capped (places structs from ts) ≡ places structs from ts
places-within structs laid from [] below = refl
places-within structs laid from (t ∷ ts) below =
    let place = round_up from (align structs t) in
    let next = place + size structs t in
    let here : capped place ≡ place =
    within greatest place
    (front-within place (size structs t) (end_of structs next ts) greatest (end_of-reaches structs laid next ts) below) in
    λ i. here i ∷ places-within structs laid next ts below i

body-ready : (structs : List StructInfo) (tag : List ℕ) (ms : List Member) → LaidOut structs → AllComplete structs (map ty_in ms) →
    struct_size structs (map ty_in ms) ≤ largest → Ready structs (struct_with structs tag ms)
body-ready structs tag ms laid all small =
    let tys = map ty_in ms in
    let types = types-placed structs 0 ms in
    let fits : struct_size structs tys ≤ greatest = le_trans small (lit≤ tt) in
    let ends : end_of structs 0 tys ≤ greatest =
    le_trans (round_up-reaches (end_of structs 0 tys) (struct_align structs tys) (struct_align-positive structs tys)) fits in
    record {
      laid = record {
        offsets = offsets-placed structs 0 ms ∙ places-within structs laid 0 tys ends ∙ ap (places structs 0) (sym types);
        bytes = within greatest (struct_size structs tys) fits ∙ ap (struct_size structs) (sym types);
        align = ap (struct_align structs) (sym types);
      };
      all = subst (AllComplete structs) (sym types) all;
      small = not_more greatest (struct_size structs tys) largest small;
    }

pub body_added : (s : List StructInfo) (k : ℕ) (tag : List ℕ) (ms : List Member) → complete_struct (slice_get s k) ≡ false →
    AllComplete s (map ty_in ms) →
    struct_size s (map ty_in ms) ≤ largest → AllReady s → AllReady (slice_set s k (struct_with s tag ms))
body_added s k tag ms bare all small ready n info is =
    let new = struct_with s tag ms in
    let t = slice_set s k new in
    let more : Extends s t = get-set_other s k new bare in
    elim (from_set s k new n info is) [
      | inl there ↦ ready-kept s t more info (ready n info there)
      | inr same ↦ subst (Ready t) same (ready-kept s t more new (body-ready s tag ms (ready-laid_out s ready) all small))
    ]
