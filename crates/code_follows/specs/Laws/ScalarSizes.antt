-- The bytes of scalars: those that their loads and stores take, on a multiple of which they stand (this project's own).
use Rattle.std.specs.Prelude.{◌≡◌, ℕ, ◌≤◌, true, List, refl}
use Rattle.std.proofs.Common.{arith, ap, sym, ◌∙◌, inl, inr}
use Rattle.c_ast.specs.declared.int_type.IntType.{IntType}
use Rattle.c_type_base.specs.Laws.Opened.{given_types}
use Rattle.c_type_base.specs.Laws.SizeLaws.{size-int, size-pointer, align-int, align-pointer}
use Rattle.c_type_base.specs.Sizes.{int_bytes, size, align}
use Rattle.c_type_base.specs.Types.{TyLayer, is_scalar}
use Rattle.c_type_base.specs.declared.ty.Ty.{Ty, out-Ty, roll-Ty, roll-out-Ty}
use Rattle.c_type_base.specs.declared.ty.Ty.TheOpen.{Ty-F}
use Rattle.c_type_base.specs.declared.ty.Ty.TheVariants as ty
use Rattle.c_type_base.specs.declared.typed.StructInfo.{StructInfo}
use Rattle.a64_laws.specs.Forms.{load_size}
use Rattle.a64_laws.specs.Laws.Effects.Accesses.{IsSize}
use Rattle.a64_laws.specs.Laws.Loads.{load_is_size}
use Rattle.gen_base.specs.Accesses.{load_of_level, load_of}
use Rattle.gen_laws.specs.Laws.Accesses.{load_size-int}
use Rattle.code_follows.specs.Laws.Scalars.{is_scalar_level}

-- a scalar type is an integer type or one of pointers
pub data ScalarIs (t : Ty) : Type 0 where
  integer : (u : IntType) → out-Ty t ≡ Ty-F.Int u → ScalarIs t
  pointer : (target : Ty) → out-Ty t ≡ Ty-F.Pointer target → ScalarIs t

pub scalar_is : (t : Ty) → is_scalar t ≡ true → ScalarIs t
scalar_is t scalar = by_level (out-Ty t) refl scalar
  where
    by_level : (l : TyLayer) → out-Ty t ≡ l → is_scalar_level l ≡ true → ScalarIs t
    by_level (Ty-F.Int u) is scalar = integer u is
    by_level (Ty-F.Pointer target) is scalar = pointer target is
    by_level _ is scalar = absurd (cc)

as_int : (t : Ty) (u : IntType) → out-Ty t ≡ Ty-F.Int u → t ≡ ty.Int u
unfolding given_types
as_int t u is = sym (roll-out-Ty t) ∙ ap roll-Ty is

as_pointer : (t target : Ty) → out-Ty t ≡ Ty-F.Pointer target → t ≡ ty.Pointer target
unfolding given_types
as_pointer t target is = sym (roll-out-Ty t) ∙ ap roll-Ty is

-- the bytes that a scalar's load takes are those of its type, and its alignment
pub record ScalarBytes (structs : List StructInfo) (t : Ty) : Type 0 where
  pub size_is : load_size (load_of t) ≡ size structs t
  pub align_is : align structs t ≡ size structs t

pub scalar_bytes : (structs : List StructInfo) (t : Ty) → is_scalar t ≡ true → ScalarBytes structs t
scalar_bytes structs t scalar = by_case (scalar_is t scalar)
  where
    by_case : ScalarIs t → ScalarBytes structs t
    by_case (integer u is) = record {
      size_is = ap (λ l. load_size (load_of_level l)) is ∙ load_size-int u ∙ sym (ap (size structs) (as_int t u is) ∙ size-int structs u);
      align_is = ap (align structs) (as_int t u is) ∙ align-int structs u ∙ sym (ap (size structs) (as_int t u is) ∙ size-int structs u);
    }
    by_case (pointer target is) = record {
      size_is = ap (λ l. load_size (load_of_level l)) is
          ∙ sym (ap (size structs) (as_pointer t target is) ∙ size-pointer structs target);
      align_is = ap (align structs) (as_pointer t target is) ∙ align-pointer structs target
          ∙ sym (ap (size structs) (as_pointer t target is) ∙ size-pointer structs target);
    }

pub size-integer : (structs : List StructInfo) (t : Ty) (u : IntType) → out-Ty t ≡ Ty-F.Int u → size structs t ≡ int_bytes u
size-integer structs t u is = ap (size structs) (as_int t u is) ∙ size-int structs u

pub size-address : (structs : List StructInfo) (t target : Ty) → out-Ty t ≡ Ty-F.Pointer target → size structs t ≡ 8
size-address structs t target is = ap (size structs) (as_pointer t target is) ∙ size-pointer structs target

-- 1, 2, 4 or 8
pub load_some : (t : Ty) → 1 ≤ load_size (load_of t)
load_some t = by_size (load_size (load_of t)) (load_is_size (load_of t))
  where
    by_size : (n : ℕ) → IsSize n → 1 ≤ n
    by_size n (inl one) = omega (arith, one)
    by_size n (inr (inl two)) = omega (arith, two)
    by_size n (inr (inr (inl four))) = omega (arith, four)
    by_size n (inr (inr (inr eight))) = omega (arith, eight)
