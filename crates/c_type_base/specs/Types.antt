-- Kinds of types, and when two types are one (ISO C11 6.2.5, 6.2.7).
use Rattle.std.specs.Prelude.{ℕ, Bool, true, false, ◌&&◌, ◌||◌, nat_eq, Option, Some, None}
use Rattle.c_ast.specs.declared.int_type.IntType.{IntType}
use Rattle.c_ast.specs.declared.int_type.IntType.TheVariants as int
use Rattle.c_type_base.specs.declared.ty.Ty.{Ty, out-Ty}
use Rattle.c_type_base.specs.declared.ty.Ty.TheOpen.{Ty-F}
use Rattle.c_type_base.specs.declared.ty.Ty.TheFolds.{fold-Ty}

-- one level of a type
abbrev pub TyLayer : Type 0
TyLayer = Ty-F Ty

abbrev pub same_int : IntType → IntType → Bool
same_int int.Char int.Char = true
same_int int.SignedChar int.SignedChar = true
same_int int.UnsignedChar int.UnsignedChar = true
same_int int.Short int.Short = true
same_int int.UShort int.UShort = true
same_int int.Int int.Int = true
same_int int.UInt int.UInt = true
same_int int.Long int.Long = true
same_int int.ULong int.ULong = true
same_int _ _ = false

abbrev pub same_level : Ty-F (Ty → Bool) → TyLayer → Bool
same_level Ty-F.Void Ty-F.Void = true
same_level (Ty-F.Int s) (Ty-F.Int t) = same_int s t
same_level (Ty-F.Pointer same) (Ty-F.Pointer t) = same t
same_level (Ty-F.Array same n) (Ty-F.Array t m) = same t && nat_eq n m
same_level (Ty-F.Struct n) (Ty-F.Struct m) = nat_eq n m
same_level _ _ = false

-- two types are one; the three char types differ (6.2.5 paragraph 15), and structs are one by their tag (6.7.2.3)
abbrev pub same_type : Ty → Ty → Bool
same_type = fold-Ty (Ty → Bool) (λ level t. same_level level (out-Ty t))

abbrev pub int_of_level : TyLayer → Option IntType
int_of_level (Ty-F.Int t) = Some t
int_of_level _ = None

-- the integer type that a type is
abbrev pub int_of : Ty → Option IntType
int_of t = int_of_level (out-Ty t)

abbrev pub target_of_level : TyLayer → Option Ty
target_of_level (Ty-F.Pointer t) = Some t
target_of_level _ = None

-- what a pointer points to
abbrev pub target_of : Ty → Option Ty
target_of t = target_of_level (out-Ty t)

abbrev pub element_of_level : TyLayer → Option Ty
element_of_level (Ty-F.Array t n) = Some t
element_of_level _ = None

-- the elements of an array
abbrev pub element_of : Ty → Option Ty
element_of t = element_of_level (out-Ty t)

abbrev pub struct_of_level : TyLayer → Option ℕ
struct_of_level (Ty-F.Struct n) = Some n
struct_of_level _ = None

-- the number of a struct
abbrev pub struct_of : Ty → Option ℕ
struct_of t = struct_of_level (out-Ty t)

abbrev pub is_void_level : TyLayer → Bool
is_void_level Ty-F.Void = true
is_void_level _ = false

abbrev pub is_void : Ty → Bool
is_void t = is_void_level (out-Ty t)

abbrev pub is_there : {A : Type 0} → Option A → Bool
is_there None = false
is_there (Some a) = true

abbrev pub is_integer : Ty → Bool
is_integer t = is_there (int_of t)

abbrev pub is_pointer : Ty → Bool
is_pointer t = is_there (target_of t)

abbrev pub is_array : Ty → Bool
is_array t = is_there (element_of t)

abbrev pub is_struct : Ty → Bool
is_struct t = is_there (struct_of t)

-- integers and pointers (6.2.5 paragraph 21)
abbrev pub is_scalar : Ty → Bool
is_scalar t = is_integer t || is_pointer t

abbrev pub is_char : IntType → Bool
is_char int.Char = true
is_char int.SignedChar = true
is_char int.UnsignedChar = true
is_char _ = false

abbrev pub is_char_in : Option IntType → Bool
is_char_in None = false
is_char_in (Some t) = is_char t

-- one of the three char types, of which a text may fill an array (6.7.9 paragraph 14)
abbrev pub is_char_type : Ty → Bool
is_char_type t = is_char_in (int_of t)
