-- The types of integer constants (C11 6.4.4.1 paragraph 5).
use Rattle.std.specs.Prelude.{ℕ, Bool, true, false, nat_le, List, [], ◌∷◌, Option, find}
use Rattle.c_ast.specs.declared.int_type.IntType.{IntType}
use Rattle.c_ast.specs.declared.int_type.IntType.TheVariants.{Char, SignedChar, UnsignedChar, Short, UShort, Int, UInt, Long, ULong}

-- the list for a decimal or another constant, with `u`, with `l`
abbrev pub listed_types : Bool → Bool → Bool → List IntType
listed_types true false false = Int ∷ Long ∷ []
listed_types false false false = Int ∷ UInt ∷ Long ∷ ULong ∷ []
listed_types true false true = Long ∷ []
listed_types false false true = Long ∷ ULong ∷ []
listed_types _ true false = UInt ∷ ULong ∷ []
listed_types _ true true = ULong ∷ []

-- the greatest value of a type on LP64
abbrev pub greatest : IntType → ℕ
greatest Char = 0xff
greatest SignedChar = 0x7f
greatest UnsignedChar = 0xff
greatest Short = 0x7fff
greatest UShort = 0xffff
greatest Int = 0x7fff_ffff
greatest UInt = 0xffff_ffff
greatest Long = 0x7fff_ffff_ffff_ffff
greatest ULong = 0xffff_ffff_ffff_ffff

-- the first type of a list that holds the value
abbrev pub first_type : ℕ → List IntType → Option IntType
first_type value types = find (λ ty. nat_le value (greatest ty)) types

-- the types that the lists name
abbrev pub is_constant_type : IntType → Bool
is_constant_type Int = true
is_constant_type UInt = true
is_constant_type Long = true
is_constant_type ULong = true
is_constant_type _ = false
