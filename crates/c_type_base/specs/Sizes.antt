-- How many bytes a type has and on what multiples it stands: LP64 for AArch64 (the procedure call standard, "fundamental data types";
-- ISO C11 6.2.6, 6.2.8).
-- A struct's two numbers are read off the table of structs; `Layout` says what they are.
use Rattle.std.specs.Prelude.{◌≡◌, ◌≤◌, ℕ, ◌*◌, Bool, true, false, ◌&&◌, ltb, IsTrue, List, [], ◌∷◌, slice_get, Option, Some, None}
use Rattle.c_ast.specs.declared.int_type.IntType.{IntType}
use Rattle.c_ast.specs.declared.int_type.IntType.TheVariants as int
use Rattle.c_type_base.specs.declared.ty.Ty.{Ty}
use Rattle.c_type_base.specs.declared.ty.Ty.TheOpen.{Ty-F}
use Rattle.c_type_base.specs.declared.ty.Ty.TheFolds.{fold-Ty}
use Rattle.c_type_base.specs.declared.typed.StructInfo.{StructInfo}
use Rattle.c_type_base.specs.declared.typed.MemberInfo.{MemberInfo}
use Rattle.c_type_base.specs.declared.typed.LocalInfo.{LocalInfo}
use Rattle.c_type_base.specs.declared.typed.TFunction.{TFunction}

-- the bytes of an integer type, which are its alignment too
abbrev pub int_bytes : IntType → ℕ
int_bytes int.Char = 1
int_bytes int.SignedChar = 1
int_bytes int.UnsignedChar = 1
int_bytes int.Short = 2
int_bytes int.UShort = 2
int_bytes int.Int = 4
int_bytes int.UInt = 4
int_bytes int.Long = 8
int_bytes int.ULong = 8

abbrev pub bytes_of_struct : Option StructInfo → ℕ
bytes_of_struct None = 0
bytes_of_struct (Some info) = info.bytes

abbrev pub align_of_struct : Option StructInfo → ℕ
align_of_struct None = 1
align_of_struct (Some info) = info.align

abbrev pub size_step : List StructInfo → Ty-F ℕ → ℕ
size_step structs Ty-F.Void = 0
size_step structs (Ty-F.Int ty) = int_bytes ty
size_step structs (Ty-F.Pointer target) = 8
size_step structs (Ty-F.Array element length) = length * element
size_step structs (Ty-F.Struct number) = bytes_of_struct (slice_get structs number)

-- the bytes of a type
abbrev pub size : List StructInfo → Ty → ℕ
size structs = fold-Ty ℕ (size_step structs)

abbrev pub align_step : List StructInfo → Ty-F ℕ → ℕ
align_step structs Ty-F.Void = 1
align_step structs (Ty-F.Int ty) = int_bytes ty
align_step structs (Ty-F.Pointer target) = 8
align_step structs (Ty-F.Array element length) = element
align_step structs (Ty-F.Struct number) = align_of_struct (slice_get structs number)

-- an object of a type stands on a multiple of this (C11 6.2.8)
abbrev pub align : List StructInfo → Ty → ℕ
align structs = fold-Ty ℕ (align_step structs)

abbrev pub has_members : List MemberInfo → Bool
has_members [] = false
has_members (m ∷ ms) = true

abbrev pub complete_struct : Option StructInfo → Bool
complete_struct None = false
complete_struct (Some info) = has_members info.members

abbrev pub complete_step : List StructInfo → Ty-F Bool → Bool
complete_step structs Ty-F.Void = false
complete_step structs (Ty-F.Int ty) = true
complete_step structs (Ty-F.Pointer target) = true
complete_step structs (Ty-F.Array element length) = ltb 0 length && element
complete_step structs (Ty-F.Struct number) = complete_struct (slice_get structs number)

-- a type is complete where its size is known: all but void, structs without a body, and arrays of these (C11 6.2.5 paragraphs 1, 19 and 22)
abbrev pub is_complete : List StructInfo → Ty → Bool
is_complete structs = fold-Ty Bool (complete_step structs)

-- the greatest number of bytes of a type (this project's own)
abbrev pub largest : ℕ
largest = 16777216

-- a type that an object may have
pub record IsObject (structs : List StructInfo) (ty : Ty) : Type 0 where
  pub complete : IsTrue (is_complete structs ty)
  pub small : size structs ty ≤ largest

-- each of some locals has a type that an object may have
abbrev pub AreObjects : List StructInfo → List LocalInfo → Type 0
AreObjects structs locals = (k : ℕ) (l : LocalInfo) → slice_get locals k ≡ Some l → IsObject structs l.ty

-- the parameters and locals of each function have types that objects may have
abbrev pub HaveObjects : List StructInfo → List TFunction → Type 0
HaveObjects structs functions = (k : ℕ) (f : TFunction) → slice_get functions k ≡ Some f → AreObjects structs f.locals

-- each struct of a table that has members has bytes, as each that the types of members make (ISO C11 6.2.6.1 and 6.7.2.1)
abbrev pub HaveBytes : List StructInfo → Type 0
HaveBytes structs =
    (number : ℕ) (info : StructInfo) → slice_get structs number ≡ Some info → IsTrue (has_members info.members) → 1 ≤ info.bytes
