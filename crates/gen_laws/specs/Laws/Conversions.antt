-- A value in another type (ISO C11 6.3.1.3, 6.3.2.3): what the lists compute is what the meaning computes (this project's own).
use Rattle.std.specs.Prelude.{◌≡◌, ℕ, ◌+◌, ◌-◌, ◌^◌, ◌<◌, ◌≤◌, Bool, true, false, ◌&&◌, ◌||◌, nat_le, nat_lt, ◌⊎◌, [], Option, Some, None}
use Rattle.std.specs.Prelude.{if◌then◌else◌, refl}
use Rattle.std.proofs.Common.{arith, ap, ◌∙◌, inl, inr, pow_mono}
use Rattle.std.proofs.lemmas.Bool.{cases_lt}
use Rattle.std.proofs.lemmas.Bool.Decides.{nat_tests}
use Rattle.mt_base.specs.Extension.{sign_extend, zero_extend}
use Rattle.c_ast.specs.declared.int_type.IntType.{IntType}
use Rattle.c_ast.specs.declared.int_type.IntType.TheVariants as int
use Rattle.c_type_base.specs.declared.ty.Ty.{Ty, out-Ty}
use Rattle.c_type_base.specs.declared.ty.Ty.TheOpen.{Ty-F}
use Rattle.c_type_base.specs.Conversions.{is_signed, bits_of, wrap}
use Rattle.c_type_base.specs.Types.{TyLayer, int_of}
use Rattle.a64_code.specs.declared.instr.Reg.{Reg}
use Rattle.a64_code.specs.State.{State}
use Rattle.a64_laws.specs.Laws.Extending.{sign_extended, zero_extended}
use Rattle.gen_base.specs.Conversions.{extend, wrap_into, has_all, between_integers, into_integer, into_type, convert}
use Rattle.gen_laws.specs.Computes.{Computes, IsOf, IsOfSome, all}
use Rattle.gen_laws.specs.Operations.{converted_number}
use Rattle.gen_laws.specs.Laws.Computing.{Computes-nil, Computes-put, Computes-is, Computes-constant}
use Rattle.gen_laws.specs.Laws.Numbers.{IsOf-lt, few_bits, wrap-long, wrap-extends}

-- ---- which values a type has

-- with a sign, or without one, in so many bits
abbrev IsWithin : Bool → ℕ → ℕ → Type 0
IsWithin true bits n = (n < 2 ^ (bits - 1)) ⊎ (2 ^ 64 ≤ n + 2 ^ (bits - 1))
IsWithin false bits n = n < 2 ^ bits

is_within : (t : IntType) (n : ℕ) → IsOf t n → IsWithin (is_signed t) (bits_of t) n
is_within int.Char n is = omega (arith, is)
is_within int.SignedChar n is = elim (cases_lt n (2 ^ 7)) [
  | inl low ↦ inl low
  | inr high ↦ inr (grind (arith, nat_tests))
]
is_within int.UnsignedChar n is = omega (arith, is)
is_within int.Short n is = elim (cases_lt n (2 ^ 15)) [
  | inl low ↦ inl low
  | inr high ↦ inr (grind (arith, nat_tests))
]
is_within int.UShort n is = omega (arith, is)
is_within int.Int n is = elim (cases_lt n (2 ^ 31)) [
  | inl low ↦ inl low
  | inr high ↦ inr (grind (arith, nat_tests))
]
is_within int.UInt n is = omega (arith, is)
is_within int.Long n is = elim (cases_lt n (2 ^ 63)) [
  | inl low ↦ inl low
  | inr high ↦ inr (grind (arith, nat_tests))
]
is_within int.ULong n is = omega (arith, is)

of_within : (t : IntType) (n : ℕ) → n < 2 ^ 64 → IsWithin (is_signed t) (bits_of t) n → IsOf t n
of_within int.Char n fits within = omega (arith, within)
of_within int.SignedChar n fits (inl low) = grind (arith, nat_tests)
of_within int.SignedChar n fits (inr high) = grind (arith, nat_tests)
of_within int.UnsignedChar n fits within = omega (arith, within)
of_within int.Short n fits (inl low) = grind (arith, nat_tests)
of_within int.Short n fits (inr high) = grind (arith, nat_tests)
of_within int.UShort n fits within = omega (arith, within)
of_within int.Int n fits (inl low) = grind (arith, nat_tests)
of_within int.Int n fits (inr high) = grind (arith, nat_tests)
of_within int.UInt n fits within = omega (arith, within)
of_within int.Long n fits within = omega (arith, fits, wrap-long n)
of_within int.ULong n fits within = omega (arith, fits)

-- `has_all` of two types, by their signs and bits
abbrev has_all_within : Bool → ℕ → Bool → ℕ → Bool
has_all_within sign bits other fewer =
    nat_le 64 bits
    || (if other then sign && nat_le fewer bits
    else nat_lt fewer bits || (nat_le fewer bits && (if sign then false else true)))

-- all numbers of 64 bits are within 64 bits
all_within : (sign : Bool) (bits n : ℕ) → n < 2 ^ 64 → 64 ≤ bits → bits ≤ 64 → IsWithin sign bits n
all_within true bits n fits from to = elim (cases_lt n (2 ^ (bits - 1))) [
  | inl low ↦ inl low
  | inr high ↦ inr (omega (arith, high, pow_mono (let e : 63 ≤ bits - 1 = omega (arith, from) in e)))
]
all_within false bits n fits from to = omega (arith, fits, pow_mono from)

wider : (sign : Bool) (bits : ℕ) (other : Bool) (fewer n : ℕ) → n < 2 ^ 64 → bits ≤ 64 → has_all_within sign bits other fewer ≡ true →
    IsWithin other fewer n → IsWithin sign bits n
wider sign bits other fewer n fits few has within = elim (cases_lt bits 64) [
  | inl narrow ↦ by_signs sign other narrow has within
  | inr whole ↦ all_within sign bits n fits whole few
]
  where
    by_signs : (sign other : Bool) → bits < 64 → has_all_within sign bits other fewer ≡ true → IsWithin other fewer n →
        IsWithin sign bits n
    by_signs true true narrow has (inl low) = inl (omega (
      arith,
      low,
      pow_mono (let e : fewer - 1 ≤ bits - 1 = grind
          (arith, nat_tests) in e),
    ))
    by_signs true true narrow has (inr high) = inr (omega (
      arith,
      high,
      pow_mono (let e : fewer - 1 ≤ bits - 1 = grind
          (arith, nat_tests) in e),
    ))
    by_signs true false narrow has within = inl (omega (
      arith,
      within,
      pow_mono (let e : fewer ≤ bits - 1 = grind
          (arith, nat_tests) in e),
    ))
    by_signs false true narrow has within = absurd (let e : false ≡ true = grind (arith, nat_tests) in cc)
    by_signs false false narrow has within = omega (arith, within, pow_mono (let e : fewer ≤ bits = grind (arith, nat_tests) in e))

-- where one type has all values of another, these are its own
pub has_all-is_of : (t s : IntType) (n : ℕ) → has_all t s ≡ true → IsOf s n → IsOf t n
has_all-is_of t s n has is =
    of_within t n (IsOf-lt s n is)
    (wider (is_signed t) (bits_of t) (is_signed s) (bits_of s) n (IsOf-lt s n is) (few_bits t) has (is_within s n is))

-- ---- any number as a value of an integer type

module _ (r : Reg) (n : ℕ) (s : State) (small : r.0 < 31) (is : s.register r.0 ≡ n) (fits : n < 2 ^ 64) (room : s.pc + 4 < 2 ^ 64) where
  signs : (t : IntType) (bits : ℕ) → 0 < bits → bits ≤ 64 → sign_extend bits 64 n ≡ wrap t n →
      Computes (extend true bits r) r (wrap t n) all s
  signs t bits some most same =
      Computes-is (ap (sign_extend bits 64) is ∙ same) (Computes-put _ r _ s (sign_extended true bits r r s small small some most) room)

  zeros : (t : IntType) (bits : ℕ) → 0 < bits → bits ≤ 64 → zero_extend bits n ≡ wrap t n →
      Computes (extend false bits r) r (wrap t n) all s
  zeros t bits some most same =
      Computes-is (ap (zero_extend bits) is ∙ same) (Computes-put _ r _ s (zero_extended true bits r r s small small some most) room)

  pub wrap-computes : (t : IntType) → Computes (wrap_into t r) r (wrap t n) all s
  wrap-computes int.Char = zeros int.Char 8 (omega arith) (omega arith) (wrap-extends int.Char n)
  wrap-computes int.SignedChar = signs int.SignedChar 8 (omega arith) (omega arith) (wrap-extends int.SignedChar n)
  wrap-computes int.UnsignedChar = zeros int.UnsignedChar 8 (omega arith) (omega arith) (wrap-extends int.UnsignedChar n)
  wrap-computes int.Short = signs int.Short 16 (omega arith) (omega arith) (wrap-extends int.Short n)
  wrap-computes int.UShort = zeros int.UShort 16 (omega arith) (omega arith) (wrap-extends int.UShort n)
  wrap-computes int.Int = signs int.Int 32 (omega arith) (omega arith) (wrap-extends int.Int n)
  wrap-computes int.UInt = zeros int.UInt 32 (omega arith) (omega arith) (wrap-extends int.UInt n)
  wrap-computes int.Long = Computes-nil r _ s (omega (arith, is, fits, wrap-long n))
  wrap-computes int.ULong = Computes-nil r _ s (omega (arith, is, fits))

  -- ---- a value of one integer type in another

  pub between-computes : (s' t : IntType) → IsOf s' n → Computes (between_integers s' t r) r (wrap t n) all s
  between-computes s' t of = by_test (has_all t s') refl
    where
      by_test : (has : Bool) → has_all t s' ≡ has → Computes (if has then [] else wrap_into t r) r (wrap t n) all s
      by_test true has = Computes-nil r _ s (is ∙ has_all-is_of t s' n has of)
      by_test false has = wrap-computes t

  -- ---- and a value of any type

  pub into_integer-computes : (o : Option IntType) (t : IntType) → IsOfSome o n → Computes (into_integer o t r) r (wrap t n) all s
  into_integer-computes None t of = wrap-computes t
  into_integer-computes (Some s') t of = between-computes s' t of

-- ---- a value of any type in any other

module _ (r : Reg) (n : ℕ) (s : State) (small : r.0 < 31) (is : s.register r.0 ≡ n) (fits : n < 2 ^ 64) (room : s.pc + 16 < 2 ^ 64) where
  into_type-computes : (o : Option IntType) (t : TyLayer) → IsOfSome o n → Computes (into_type o t r) r (converted_number o t n) all s
  into_type-computes o (Ty-F.Int t) of = into_integer-computes r n s small is fits (omega (arith, room)) o t of
  into_type-computes None (Ty-F.Pointer t) of = Computes-nil r n s is
  into_type-computes (Some i) (Ty-F.Pointer t) of = Computes-constant 0 r s small (omega arith) room
  into_type-computes o Ty-F.Void of = Computes-nil r n s is
  into_type-computes o (Ty-F.Array t m) of = Computes-nil r n s is
  into_type-computes o (Ty-F.Struct m) of = Computes-nil r n s is

  pub convert-computes : (t u : Ty) → IsOfSome (int_of t) n → Computes (convert t u r) r (converted_number (int_of t) (out-Ty u) n) all s
  convert-computes t u of = into_type-computes (int_of t) (out-Ty u) of
