-- Sizes and offsets of given types.
use Rattle.std.proofs.Common.{◌≡◌, refl, List, [], ◌∷◌, true, false}
use Rattle.std.specs.Prelude.{codes}
use Rattle.c_ast.specs.declared.int_type.IntType.TheVariants as int
use Rattle.c_type_base.specs.Laws.SizeLaws.{size-int, size-pointer, size-array, size-struct, align-int, align-pointer, align-array}
use Rattle.c_type_base.specs.Laws.SizeLaws.{align-struct, complete-void, complete-pointer, complete-array, complete-struct}
use Rattle.c_type_base.specs.declared.ty.Ty.TheVariants as ty
use Rattle.c_type_base.specs.declared.typed.StructInfo.{StructInfo}
use Rattle.c_type_base.specs.Sizes.{size, align, is_complete}
use Rattle.c_type_base.specs.Layout.{struct_size, struct_align, place_of}

-- struct item { char name[8]; int count; struct item *next; };
abbrev item : StructInfo
item = record {
  name = codes "item";
  members =
      record { name = codes "name"; ty = ty.Array (ty.Int int.Char) 8; offset = 0 } ∷
      record { name = codes "count"; ty = ty.Int int.Int; offset = 8 } ∷
      record { name = codes "next"; ty = ty.Pointer (ty.Struct 0); offset = 16 } ∷ [];
  bytes = 24;
  align = 8;
}

-- struct s; which has no body
abbrev unknown : StructInfo
unknown = record { name = codes "s"; members = []; bytes = 0; align = 1 }

abbrev structs : List StructInfo
structs = item ∷ unknown ∷ []

array_of_ints : size [] (ty.Array (ty.Int int.Int) 3) ≡ 12
array_of_ints = rw (size-array, size-int) refl

pool : size structs (ty.Array (ty.Struct 0) 4) ≡ 96
pool = rw (size-array, size-struct) refl

pool_align : align structs (ty.Array (ty.Struct 0) 4) ≡ 8
pool_align = rw (align-array, align-struct) refl

item_size : struct_size structs (ty.Array (ty.Int int.Char) 8 ∷ ty.Int int.Int ∷ ty.Pointer (ty.Struct 0) ∷ []) ≡ 24
item_size = simp (size-array, size-int, size-pointer, align-array, align-int, align-pointer) refl

next_place : place_of structs 0 2 ≡ 16
next_place = simp (size-array, size-int, align-array, align-int, align-pointer) refl

-- struct { char a; long b; char c; } has its size rounded up, struct { char a; signed char b[3]; } stands anywhere
padded : struct_size [] (ty.Int int.Char ∷ ty.Int int.Long ∷ ty.Int int.Char ∷ []) ≡ 24
padded = simp (size-int, align-int) refl

bytes_alone : struct_size [] (ty.Int int.Char ∷ ty.Array (ty.Int int.SignedChar) 3 ∷ []) ≡ 4
bytes_alone = simp (size-array, size-int, align-array, align-int) refl

bytes_align : struct_align [] (ty.Int int.Char ∷ ty.Array (ty.Int int.SignedChar) 3 ∷ []) ≡ 1
bytes_align = simp (align-array, align-int) refl

-- void, a struct without a body and an array of it are not complete, a pointer to it is
void_unknown : is_complete structs ty.Void ≡ false
void_unknown = complete-void structs

struct_unknown : is_complete structs (ty.Array (ty.Struct 1) 2) ≡ false
struct_unknown = simp (complete-array, complete-struct) refl

pointer_known : is_complete structs (ty.Pointer (ty.Struct 1)) ≡ true
pointer_known = complete-pointer structs (ty.Struct 1)
