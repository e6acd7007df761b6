-- Numbers of the integer types, in the words of the meaning and in those of instructions (this project's own).
use Rattle.std.specs.Prelude.{◌≡◌, ℕ, ◌%◌, ◌^◌, ◌<◌, ◌≤◌, Bool, if◌then◌else◌, Some, refl}
use Rattle.std.proofs.Common.{arith, ap, sym}
use Rattle.std.proofs.lemmas.Bool.Decides.{nat_tests}
use Rattle.std.proofs.lemmas.Int.{ints}
use Rattle.c_ast.specs.declared.int_type.IntType.{IntType}
use Rattle.c_ast.specs.declared.int_type.IntType.TheVariants as int
use Rattle.c_type_base.specs.Conversions.{is_signed, bits_of, extended, wrap}
use Rattle.mt_base.specs.Extension.{sign_extend, zero_extend}
use Rattle.mt_base.specs.Laws.Wrapping.{wrap-wrap_wider}
use Rattle.gen_laws.specs.Computes.{IsOf, IsPromoted}

pub some_same : {A : Type 0} {x y : A} → Some x ≡ Some y → x ≡ y
some_same is = cc

pub each_promoted : (P : IntType → Type 0) → P int.Int → P int.UInt → P int.Long → P int.ULong → (t : IntType) → IsPromoted t → P t
each_promoted P i u l m int.Int is = i
each_promoted P i u l m int.UInt is = u
each_promoted P i u l m int.Long is = l
each_promoted P i u l m int.ULong is = m
each_promoted P i u l m _ is = absurd (cc)

pub few_bits : (t : IntType) → bits_of t ≤ 64
few_bits int.Char = omega arith
few_bits int.SignedChar = omega arith
few_bits int.UnsignedChar = omega arith
few_bits int.Short = omega arith
few_bits int.UShort = omega arith
few_bits int.Int = omega arith
few_bits int.UInt = omega arith
few_bits int.Long = omega arith
few_bits int.ULong = omega arith

-- ---- what a number is wrapped to

-- only the bits of the type count
pub wrap-same : (t : IntType) (m n : ℕ) → m % 2 ^ bits_of t ≡ n % 2 ^ bits_of t → wrap t m ≡ wrap t n
wrap-same t m n same = ap (extended (is_signed t) (bits_of t)) same

-- and they stay
pub wrap-low : (t : IntType) (n : ℕ) → wrap t n % 2 ^ bits_of t ≡ n % 2 ^ bits_of t
wrap-low int.Char n = omega arith
wrap-low int.SignedChar n = grind (arith, nat_tests)
wrap-low int.UnsignedChar n = omega arith
wrap-low int.Short n = grind (arith, nat_tests)
wrap-low int.UShort n = omega arith
wrap-low int.Int n = grind (arith, nat_tests)
wrap-low int.UInt n = omega arith
wrap-low int.Long n = grind (arith, nat_tests)
wrap-low int.ULong n = omega arith

pub wrap-lt : (t : IntType) (n : ℕ) → wrap t n < 2 ^ 64
wrap-lt int.Char n = omega arith
wrap-lt int.SignedChar n = grind (arith, nat_tests)
wrap-lt int.UnsignedChar n = omega arith
wrap-lt int.Short n = grind (arith, nat_tests)
wrap-lt int.UShort n = omega arith
wrap-lt int.Int n = grind (arith, nat_tests)
wrap-lt int.UInt n = omega arith
wrap-lt int.Long n = grind (arith, nat_tests)
wrap-lt int.ULong n = omega arith

-- at 64 bits nothing stands above them
pub wrap-long : (n : ℕ) → wrap int.Long n ≡ n % 2 ^ 64
wrap-long n = grind (arith, nat_tests)

-- and none of the bits above 64 counts
pub wrap-bits : (t : IntType) (n : ℕ) → wrap t (n % 2 ^ 64) ≡ wrap t n
wrap-bits t n = wrap-same t (n % 2 ^ 64) n (wrap-wrap_wider (bits_of t) 64 n (few_bits t))

-- it is a value of the type
pub wrap-is_of : (t : IntType) (n : ℕ) → IsOf t (wrap t n)
wrap-is_of t n = sym (wrap-same t (wrap t n) n (wrap-low t n))

pub IsOf-lt : (t : IntType) (n : ℕ) → IsOf t n → n < 2 ^ 64
IsOf-lt t n is = omega (arith, is, wrap-lt t n)

-- to wrap a number is to extend its low bits, with the sign or with zeros
abbrev pub extended_by : Bool → ℕ → ℕ → ℕ
extended_by signed bits n = if signed then sign_extend bits 64 n else zero_extend bits n

pub wrap-extends : (t : IntType) (n : ℕ) → extended_by (is_signed t) (bits_of t) n ≡ wrap t n
wrap-extends int.Char n = refl
wrap-extends int.SignedChar n = grind (arith, ints, nat_tests)
wrap-extends int.UnsignedChar n = refl
wrap-extends int.Short n = grind (arith, ints, nat_tests)
wrap-extends int.UShort n = refl
wrap-extends int.Int n = grind (arith, ints, nat_tests)
wrap-extends int.UInt n = refl
wrap-extends int.Long n = grind (arith, ints, nat_tests)
wrap-extends int.ULong n = refl
