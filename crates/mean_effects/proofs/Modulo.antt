-- Offsets modulo 2^64.
use Rattle.std.proofs.Common.{◌≡◌, ap, ◌∙◌, arith, ℕ, ◌+◌, ◌*◌, ◌%◌, ◌^◌}
use Rattle.c_ast.specs.declared.int_type.IntType.{IntType}
use Rattle.c_ast.specs.declared.int_type.IntType.TheVariants as int
use Rattle.c_type_base.specs.Conversions.{is_signed, bits_of, extended, wrap}
use Rattle.std.proofs.lemmas.Nat.{mul-mod_second}

same_moved : (offset p q : ℕ) → p % 2 ^ 64 ≡ q % 2 ^ 64 → (offset + p % 2 ^ 64) % 2 ^ 64 ≡ (offset + q) % 2 ^ 64
same_moved offset p q same = omega arith

-- so many objects on
pub offset_moved : (offset n bytes size : ℕ) → bytes ≡ size % 2 ^ 64 →
    (offset + (n * bytes) % 2 ^ 64) % 2 ^ 64 ≡ (offset + n * size) % 2 ^ 64
offset_moved offset n bytes size is =
    same_moved offset (n * bytes) (n * size) (ap (λ k. (n * k) % 2 ^ 64) is ∙ mul-mod_second n size (2 ^ 64))

low_of : (t : IntType) (x : ℕ) → (x % 2 ^ 64) % 2 ^ bits_of t ≡ x % 2 ^ bits_of t
low_of int.Char x = omega arith
low_of int.SignedChar x = omega arith
low_of int.UnsignedChar x = omega arith
low_of int.Short x = omega arith
low_of int.UShort x = omega arith
low_of int.Int x = omega arith
low_of int.UInt x = omega arith
low_of int.Long x = omega arith
low_of int.ULong x = omega arith

-- a number modulo 2^64 in a type is the number in it
pub wrap_of : (t : IntType) (x : ℕ) → wrap t (x % 2 ^ 64) ≡ wrap t x
wrap_of t x = ap (extended (is_signed t) (bits_of t)) (low_of t x)
