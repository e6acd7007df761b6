-- Integer promotions and the usual arithmetic conversions (ISO C11 6.3.1.1, 6.3.1.8) on the LP64 sizes, and the value of an integer in
-- another type (6.3.1.3).
-- A value stands for itself modulo 2^64, so that a negative number n is 2^64 + n.
use Rattle.std.specs.Prelude.{ℕ, ◌+◌, ◌-◌, ◌*◌, ◌%◌, ◌^◌, Bool, true, false, ◌&&◌, leb, if◌then◌else◌}
use Rattle.c_ast.specs.declared.int_type.IntType.{IntType}
use Rattle.c_ast.specs.declared.int_type.IntType.TheVariants as int
use Rattle.c_type_base.specs.Sizes.{int_bytes}

-- plain char is unsigned
abbrev pub is_signed : IntType → Bool
is_signed int.SignedChar = true
is_signed int.Short = true
is_signed int.Int = true
is_signed int.Long = true
is_signed _ = false

-- every type below int has its values in int (6.3.1.1 paragraph 2)
abbrev pub promoted : IntType → IntType
promoted int.UInt = int.UInt
promoted int.Long = int.Long
promoted int.ULong = int.ULong
promoted _ = int.Int

-- of two promoted types (6.3.1.8): long has all values of unsigned int
abbrev pub common : IntType → IntType → IntType
common int.ULong _ = int.ULong
common _ int.ULong = int.ULong
common int.Long _ = int.Long
common _ int.Long = int.Long
common int.UInt _ = int.UInt
common _ int.UInt = int.UInt
common _ _ = int.Int

-- the usual arithmetic conversions
abbrev pub usual : IntType → IntType → IntType
usual s t = common (promoted s) (promoted t)

abbrev pub bits_of : IntType → ℕ
bits_of t = 8 * int_bytes t

abbrev pub extended : Bool → ℕ → ℕ → ℕ
extended signed bits low = (if signed && leb (2 ^ (bits - 1)) low then low + (2 ^ 64 - 2 ^ bits) else low)

-- the number modulo the width of a type, as a value of that type: conversions wrap (6.3.1.3, and this project's own for signed types)
abbrev pub wrap : IntType → ℕ → ℕ
wrap t n = extended (is_signed t) (bits_of t) (n % 2 ^ bits_of t)
