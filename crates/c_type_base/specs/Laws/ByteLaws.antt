-- Where structs with members have bytes, each complete type has bytes.
use Rattle.std.proofs.Common.{◌≡◌, refl, sym, ◌∙◌, subst, ℕ, zero, suc, ◌*◌, ◌≤◌, Bool, true, false, ◌&&◌, List, slice_get, Option}
use Rattle.std.proofs.Common.{Some, None, arith, lit≤}
use Rattle.std.specs.Prelude.{ltb}
use Rattle.std.proofs.lemmas.Bool.{and_parts}
use Rattle.c_type_base.specs.Laws.Opened.{given_types}
use Rattle.c_type_base.specs.declared.ty.Ty.{Ty, roll-Ty, map-Ty}
use Rattle.c_type_base.specs.declared.ty.Ty.TheOpen.{Ty-F}
use Rattle.c_type_base.specs.declared.ty.Ty.TheFolds.{ind-Ty}
use Rattle.c_type_base.specs.declared.typed.StructInfo.{StructInfo}
use Rattle.c_type_base.specs.Sizes.{size, is_complete, complete_struct, bytes_of_struct, HaveBytes}
use Rattle.c_type_base.specs.Laws.LayoutLaws.{int_bytes-positive}
use Rattle.c_type_base.specs.Laws.SizeLaws.{size-int, size-pointer, size-array, size-struct, complete-void, complete-array}
use Rattle.c_type_base.specs.Laws.SizeLaws.{complete-struct}

of_elements : (length bytes : ℕ) → ltb 0 length ≡ true → 1 ≤ bytes → 1 ≤ length * bytes
of_elements zero bytes is positive = cc
of_elements (suc n) bytes is positive = omega arith

abbrev Counts : List StructInfo → Ty → Type 0
Counts structs ty = is_complete structs ty ≡ true → 1 ≤ size structs ty

abbrev With : List StructInfo → Type 0
With structs = (ty : Ty) × Counts structs ty

types_with : (structs : List StructInfo) → Ty-F (With structs) → Ty-F Ty
types_with structs = map-Ty (With structs) Ty (λ e. e.0)

module _ (structs : List StructInfo) (have : HaveBytes structs) where
  of_struct : (o : Option StructInfo) (number : ℕ) → slice_get structs number ≡ o → complete_struct o ≡ true → 1 ≤ bytes_of_struct o
  of_struct None number is complete = cc
  of_struct (Some info) number is complete = have number info is complete

  level : (y : Ty-F (With structs)) → Counts structs (roll-Ty (types_with structs y))
  unfolding types_with given_types
  level Ty-F.Void is = let never : false ≡ true = sym (complete-void structs) ∙ is in absurd (cc)
  level (Ty-F.Int ty) is = rw size-int (int_bytes-positive ty)
  level (Ty-F.Pointer t) is = rw size-pointer (lit≤ tt)
  level (Ty-F.Array t length) is =
      let both : (ltb 0 length && is_complete structs t.0) ≡ true = sym (complete-array structs t.0 length) ∙ is in
      let parts = and_parts (ltb 0 length) (is_complete structs t.0) both in
      rw size-array (of_elements length (size structs t.0) parts.0 (t.1 parts.1))
  level (Ty-F.Struct number) is =
      rw size-struct (of_struct (slice_get structs number) number refl (sym (complete-struct structs number) ∙ is))

  levels : (x : Ty-F Ty) (y : Ty-F (With structs)) → types_with structs y ≡ x → Counts structs (roll-Ty x)
  levels x y is = subst (λ x. Counts structs (roll-Ty x)) is (level y)

  -- a complete type has at least one byte
  pub complete-some : (ty : Ty) → is_complete structs ty ≡ true → 1 ≤ size structs ty
  unfolding types_with
  complete-some = ind-Ty (Counts structs) levels
