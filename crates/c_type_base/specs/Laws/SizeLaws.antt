-- Sizes, alignments and completeness, one equation a type.
use Rattle.std.proofs.Common.{◌≡◌, ℕ, ◌*◌, Bool, true, false, ◌&&◌, List, slice_get}
use Rattle.std.specs.Prelude.{ltb}
use Rattle.c_ast.specs.declared.int_type.IntType.{IntType}
use Rattle.c_type_base.specs.Laws.Opened.{given_types}
use Rattle.c_type_base.specs.declared.ty.Ty.{Ty}
use Rattle.c_type_base.specs.declared.ty.Ty.TheVariants as ty
use Rattle.c_type_base.specs.declared.ty.Ty.TheOpen.{Ty-F}
use Rattle.c_type_base.specs.declared.ty.Ty.TheFolds.{fold-roll-Ty}
use Rattle.c_type_base.specs.declared.typed.StructInfo.{StructInfo}
use Rattle.c_type_base.specs.Sizes.{int_bytes, size, size_step, align, align_step, is_complete, complete_step, bytes_of_struct}
use Rattle.c_type_base.specs.Sizes.{align_of_struct, complete_struct}

pub size-void : (structs : List StructInfo) → size structs ty.Void ≡ 0
unfolding given_types
size-void structs = fold-roll-Ty ℕ (size_step structs) Ty-F.Void

pub size-int : (structs : List StructInfo) (t : IntType) → size structs (ty.Int t) ≡ int_bytes t
unfolding given_types
size-int structs t = fold-roll-Ty ℕ (size_step structs) (Ty-F.Int t)

pub size-pointer : (structs : List StructInfo) (t : Ty) → size structs (ty.Pointer t) ≡ 8
unfolding given_types
size-pointer structs t = fold-roll-Ty ℕ (size_step structs) (Ty-F.Pointer t)

pub size-array : (structs : List StructInfo) (t : Ty) (length : ℕ) → size structs (ty.Array t length) ≡ length * size structs t
unfolding given_types
size-array structs t length = fold-roll-Ty ℕ (size_step structs) (Ty-F.Array t length)

pub size-struct : (structs : List StructInfo) (number : ℕ) → size structs (ty.Struct number) ≡ bytes_of_struct (slice_get structs number)
unfolding given_types
size-struct structs number = fold-roll-Ty ℕ (size_step structs) (Ty-F.Struct number)

pub align-void : (structs : List StructInfo) → align structs ty.Void ≡ 1
unfolding given_types
align-void structs = fold-roll-Ty ℕ (align_step structs) Ty-F.Void

pub align-int : (structs : List StructInfo) (t : IntType) → align structs (ty.Int t) ≡ int_bytes t
unfolding given_types
align-int structs t = fold-roll-Ty ℕ (align_step structs) (Ty-F.Int t)

pub align-pointer : (structs : List StructInfo) (t : Ty) → align structs (ty.Pointer t) ≡ 8
unfolding given_types
align-pointer structs t = fold-roll-Ty ℕ (align_step structs) (Ty-F.Pointer t)

pub align-array : (structs : List StructInfo) (t : Ty) (length : ℕ) → align structs (ty.Array t length) ≡ align structs t
unfolding given_types
align-array structs t length = fold-roll-Ty ℕ (align_step structs) (Ty-F.Array t length)

pub align-struct : (structs : List StructInfo) (number : ℕ) → align structs (ty.Struct number) ≡ align_of_struct (slice_get structs number)
unfolding given_types
align-struct structs number = fold-roll-Ty ℕ (align_step structs) (Ty-F.Struct number)

pub complete-void : (structs : List StructInfo) → is_complete structs ty.Void ≡ false
unfolding given_types
complete-void structs = fold-roll-Ty Bool (complete_step structs) Ty-F.Void

pub complete-int : (structs : List StructInfo) (t : IntType) → is_complete structs (ty.Int t) ≡ true
unfolding given_types
complete-int structs t = fold-roll-Ty Bool (complete_step structs) (Ty-F.Int t)

pub complete-pointer : (structs : List StructInfo) (t : Ty) → is_complete structs (ty.Pointer t) ≡ true
unfolding given_types
complete-pointer structs t = fold-roll-Ty Bool (complete_step structs) (Ty-F.Pointer t)

pub complete-array : (structs : List StructInfo) (t : Ty) (length : ℕ) → is_complete structs (ty.Array t length) ≡
    (ltb 0 length && is_complete structs t)
unfolding given_types
complete-array structs t length = fold-roll-Ty Bool (complete_step structs) (Ty-F.Array t length)

pub complete-struct : (structs : List StructInfo) (number : ℕ) → is_complete structs (ty.Struct number) ≡ complete_struct
    (slice_get structs number)
unfolding given_types
complete-struct structs number = fold-roll-Ty Bool (complete_step structs) (Ty-F.Struct number)
