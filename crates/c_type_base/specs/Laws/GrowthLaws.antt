-- A table of structs grows: tags are added, and a tag gets its body. What is complete keeps its size, its alignment and its members'
-- places.
use Rattle.std.proofs.Common.{◌≡◌, refl, sym, ◌∙◌, ap, subst, ℕ, ◌*◌, ◌+◌, max, Bool, true, false, ◌&&◌, List, [], ◌∷◌, map, slice_get}
use Rattle.std.specs.Prelude.{ltb}
use Rattle.std.proofs.lemmas.Bool.{and_parts}
use Rattle.c_type_base.specs.Laws.Opened.{given_types}
use Rattle.c_type_base.specs.declared.ty.Ty.{Ty, roll-Ty, map-Ty}
use Rattle.c_type_base.specs.declared.ty.Ty.TheOpen.{Ty-F}
use Rattle.c_type_base.specs.declared.ty.Ty.TheFolds.{ind-Ty}
use Rattle.c_type_base.specs.declared.typed.StructInfo.{StructInfo}
use Rattle.c_type_base.specs.Sizes.{size, align, is_complete, complete_struct, bytes_of_struct, align_of_struct}
use Rattle.c_type_base.specs.Layout.{round_up, places, end_of, struct_align, struct_size, IsLaidOut, type_of}
use Rattle.c_type_base.specs.Laws.SizeLaws.{size-int, size-pointer, size-array, size-struct, align-int, align-pointer, align-array}
use Rattle.c_type_base.specs.Laws.SizeLaws.{align-struct, complete-void, complete-int, complete-pointer, complete-array, complete-struct}

-- each struct that is complete in the one table is the same in the other
abbrev pub Extends : List StructInfo → List StructInfo → Type 0
Extends s t = (number : ℕ) → complete_struct (slice_get s number) ≡ true → slice_get t number ≡ slice_get s number

-- a type is the same in both
pub record Same (s t : List StructInfo) (ty : Ty) : Type 0 where
  pub sized : size t ty ≡ size s ty
  pub aligned : align t ty ≡ align s ty
  pub complete : is_complete t ty ≡ true

-- all of some types are complete
pub data AllComplete (s : List StructInfo) : List Ty → Type 0 where
  none : AllComplete s []
  some : {ty : Ty} {tys : List Ty} → is_complete s ty ≡ true → AllComplete s tys → AllComplete s (ty ∷ tys)

and_with : (a b c : Bool) → (a && b) ≡ true → c ≡ true → (a && c) ≡ true
and_with true b c is same = same
and_with false b c is same = is

abbrev Kept : List StructInfo → List StructInfo → Ty → Type 0
Kept s t ty = is_complete s ty ≡ true → Same s t ty

abbrev With : List StructInfo → List StructInfo → Type 0
With s t = (ty : Ty) × Kept s t ty

types_with : (s t : List StructInfo) → Ty-F (With s t) → Ty-F Ty
types_with s t = map-Ty (With s t) Ty (λ e. e.0)

module _ (s t : List StructInfo) (more : Extends s t) where
  level : (y : Ty-F (With s t)) → Kept s t (roll-Ty (types_with s t y))
  unfolding types_with given_types
  level Ty-F.Void is = let no : false ≡ true = sym (complete-void s) ∙ is in absurd (cc)
  level (Ty-F.Int i) is = record {
    sized = size-int t i ∙ sym (size-int s i);
    aligned = align-int t i ∙ sym (align-int s i);
    complete = complete-int t i;
  }
  level (Ty-F.Pointer e) is = record {
    sized = size-pointer t e.0 ∙ sym (size-pointer s e.0);
    aligned = align-pointer t e.0 ∙ sym (align-pointer s e.0);
    complete = complete-pointer t e.0;
  }
  level (Ty-F.Array e n) is =
      let both : (ltb 0 n && is_complete s e.0) ≡ true = sym (complete-array s e.0 n) ∙ is in
      let inner = e.1 (and_parts (ltb 0 n) (is_complete s e.0) both).1 in record {
        sized = size-array t e.0 n ∙ ap (λ x. n * x) inner.sized ∙ sym (size-array s e.0 n);
        aligned = align-array t e.0 n ∙ inner.aligned ∙ sym (align-array s e.0 n);
        complete = complete-array t e.0 n ∙ and_with (ltb 0 n) (is_complete s e.0) (is_complete t e.0) both inner.complete;
      }
  level (Ty-F.Struct n) is =
      let there : complete_struct (slice_get s n) ≡ true = sym (complete-struct s n) ∙ is in
      let same = more n there in record {
        sized = size-struct t n ∙ ap bytes_of_struct same ∙ sym (size-struct s n);
        aligned = align-struct t n ∙ ap align_of_struct same ∙ sym (align-struct s n);
        complete = complete-struct t n ∙ ap complete_struct same ∙ there;
      }

  levels : (x : Ty-F Ty) (y : Ty-F (With s t)) → types_with s t y ≡ x → Kept s t (roll-Ty x)
  levels x y is = subst (λ x. Kept s t (roll-Ty x)) is (level y)

  -- what is complete stays as it is
  pub complete-kept : (ty : Ty) → is_complete s ty ≡ true → Same s t ty
  unfolding types_with
  complete-kept = ind-Ty (Kept s t) levels

  -- ---- members

  pub places-kept : (from : ℕ) (tys : List Ty) → AllComplete s tys → places t from tys ≡ places s from tys
  places-kept from [] all = refl
  places-kept from (ty ∷ tys) (some one all) =
      let same = complete-kept ty one in
      rw (same.aligned, same.sized) (ap (λ l. round_up from (align s ty) ∷ l) (places-kept (round_up from
      (align s ty) + size s ty) tys all))

  pub end-kept : (from : ℕ) (tys : List Ty) → AllComplete s tys → end_of t from tys ≡ end_of s from tys
  end-kept from [] all = refl
  end-kept from (ty ∷ tys) (some one all) =
      let same = complete-kept ty one in
      rw (same.aligned, same.sized) (end-kept (round_up from (align s ty) + size s ty) tys all)

  pub struct_align-kept : (tys : List Ty) → AllComplete s tys → struct_align t tys ≡ struct_align s tys
  struct_align-kept [] all = refl
  struct_align-kept (ty ∷ tys) (some one all) =
      rw ((complete-kept ty one).aligned) (ap (λ n. max (align s ty) n) (struct_align-kept tys all))

  pub struct_size-kept : (tys : List Ty) → AllComplete s tys → struct_size t tys ≡ struct_size s tys
  struct_size-kept tys all = rw (end-kept 0 tys all, struct_align-kept tys all) refl

  pub all-kept : (tys : List Ty) → AllComplete s tys → AllComplete t tys
  all-kept [] all = none
  all-kept (ty ∷ tys) (some one all) = some (complete-kept ty one).complete (all-kept tys all)

  -- a struct whose members are complete stays laid out
  pub laid_out-kept : (info : StructInfo) → AllComplete s (map type_of info.members) → IsLaidOut s info → IsLaidOut t info
  laid_out-kept info all laid = record {
    offsets = laid.offsets ∙ sym (places-kept 0 (map type_of info.members) all);
    bytes = laid.bytes ∙ sym (struct_size-kept (map type_of info.members) all);
    align = laid.align ∙ sym (struct_align-kept (map type_of info.members) all);
  }
