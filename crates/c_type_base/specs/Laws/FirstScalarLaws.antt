-- The bytes of the first scalar, one equation a type.
use Rattle.std.proofs.Common.{◌≡◌, ℕ}
use Rattle.c_ast.specs.declared.int_type.IntType.{IntType}
use Rattle.c_type_base.specs.Laws.Opened.{given_types}
use Rattle.c_type_base.specs.declared.ty.Ty.{Ty}
use Rattle.c_type_base.specs.declared.ty.Ty.TheVariants as ty
use Rattle.c_type_base.specs.declared.ty.Ty.TheOpen.{Ty-F}
use Rattle.c_type_base.specs.declared.ty.Ty.TheFolds.{fold-roll-Ty}
use Rattle.c_type_base.specs.Sizes.{int_bytes}
use Rattle.c_type_base.specs.Layout.{first_by, first_step}

pub first-int : (of_struct : ℕ → ℕ) (t : IntType) → first_by of_struct (ty.Int t) ≡ int_bytes t
unfolding given_types
first-int of_struct t = fold-roll-Ty ℕ (first_step of_struct) (Ty-F.Int t)

pub first-pointer : (of_struct : ℕ → ℕ) (t : Ty) → first_by of_struct (ty.Pointer t) ≡ 8
unfolding given_types
first-pointer of_struct t = fold-roll-Ty ℕ (first_step of_struct) (Ty-F.Pointer t)

pub first-array : (of_struct : ℕ → ℕ) (t : Ty) (length : ℕ) → first_by of_struct (ty.Array t length) ≡ first_by of_struct t
unfolding given_types
first-array of_struct t length = fold-roll-Ty ℕ (first_step of_struct) (Ty-F.Array t length)

pub first-struct : (of_struct : ℕ → ℕ) (number : ℕ) → first_by of_struct (ty.Struct number) ≡ of_struct number
unfolding given_types
first-struct of_struct number = fold-roll-Ty ℕ (first_step of_struct) (Ty-F.Struct number)
