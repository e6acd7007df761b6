-- Numbers that are one modulo 2^64 are one in each integer type.
use Rattle.std.proofs.Common.{◌≡◌, ap, ℕ, ◌+◌, ◌-◌, ◌%◌, true, false, arith}
use Rattle.c_ast.specs.declared.int_type.IntType.{IntType}
use Rattle.c_ast.specs.declared.int_type.IntType.TheVariants as int
use Rattle.c_type_base.specs.Conversions.{extended, wrap}
use Rattle.c_type_base.specs.Arithmetic.{negated}

low8 : (n : ℕ) → n % 18446744073709551616 % 256 ≡ n % 256
low8 n = omega arith

low16 : (n : ℕ) → n % 18446744073709551616 % 65536 ≡ n % 65536
low16 n = omega arith

low32 : (n : ℕ) → n % 18446744073709551616 % 4294967296 ≡ n % 4294967296
low32 n = omega arith

low64 : (n : ℕ) → n % 18446744073709551616 % 18446744073709551616 ≡ n % 18446744073709551616
low64 n = omega arith

pub wrap_low : (t : IntType) (n : ℕ) → wrap t (n % 18446744073709551616) ≡ wrap t n
wrap_low int.Char n = ap (extended false 8) (low8 n)
wrap_low int.SignedChar n = ap (extended true 8) (low8 n)
wrap_low int.UnsignedChar n = ap (extended false 8) (low8 n)
wrap_low int.Short n = ap (extended true 16) (low16 n)
wrap_low int.UShort n = ap (extended false 16) (low16 n)
wrap_low int.Int n = ap (extended true 32) (low32 n)
wrap_low int.UInt n = ap (extended false 32) (low32 n)
wrap_low int.Long n = ap (extended true 64) (low64 n)
wrap_low int.ULong n = ap (extended false 64) (low64 n)

-- a difference modulo 2^64
pub minus_low : (a b : ℕ) → (a + (18446744073709551616 - b)) % 18446744073709551616 ≡ (a + negated b) % 18446744073709551616
minus_low a b = omega arith
