-- Bit by bit (ISO C11 6.5.10 to 6.5.12): what the lists compute, and that it is a value of the type.
use Rattle.std.specs.Prelude.{◌≡◌, ℕ, ◌+◌, ◌-◌, ◌*◌, ◌/◌, ◌^◌, ◌<◌, true, bit_and, bit_or, bit_xor, ◌⊎◌, refl}
use Rattle.std.proofs.Common.{arith, ap, ap₂, ◌∙◌, inl, inr, div-add-mod', mod-lt, pow_pos}
use Rattle.std.proofs.Math.Nat.{div-eq_of_lt}
use Rattle.std.proofs.lemmas.Bool.Decides.{nat_tests}
use Rattle.std.proofs.lemmas.Nat.{and_shr, or_shr, xor_shr}
use Rattle.c_ast.specs.declared.int_type.IntType.{IntType}
use Rattle.c_ast.specs.declared.int_type.IntType.TheVariants as int
use Rattle.a64_code.specs.declared.instr.Reg.{Reg}
use Rattle.a64_code.specs.State.{State}
use Rattle.a64_code.specs.Stepped.{Leads}
use Rattle.a64_laws.specs.Forms.{Operation, result_of, puts_register}
use Rattle.a64_laws.specs.Laws.Results.{operated}
use Rattle.gen_base.specs.Integers.{bitwise}
use Rattle.gen_base.specs.Registers.{left}
use Rattle.gen_laws.specs.Computes.{Computes, Operands, IsOf, IsPromoted, all}
use Rattle.gen_laws.specs.Laws.Computing.{Computes-put}
use Rattle.gen_laws.specs.Laws.Numbers.{each_promoted, wrap-long}

pub bitwise-computes : (o : Operation) (r : Reg) (a b : ℕ) (s : State) → Operands r a b s → s.pc + 4 < 2 ^ 64 →
    Computes (bitwise o r) r (result_of o 64 a b) all s
bitwise-computes o r a b s given room =
    Computes-put _ r (result_of o 64 a b) s
    (operated o true r left r s (omega (arith, given.for_values.to)) (omega arith) (omega (arith, given.for_values.to))
    ∙ ap₂ (λ m n. Leads (puts_register r (result_of o 64 m n) s)) given.first given.second)
    room

-- ---- values of one type give one of it

-- all of 33 bits are 0, or all are 1
abbrev AreAlike : ℕ → Type 0
AreAlike n = (n ≡ 0) ⊎ (n ≡ 2 ^ 33 - 1)

-- an operation that treats each bit by itself
record OnBits (f : ℕ → ℕ → ℕ) : Type 0 where
  parts : (a b k : ℕ) → f a b / 2 ^ k ≡ f (a / 2 ^ k) (b / 2 ^ k)
  zeros : f 0 0 ≡ 0
  alike : (m n : ℕ) → AreAlike m → AreAlike n → AreAlike (f m n)

and_on_bits : OnBits bit_and
and_on_bits = record { parts = and_shr; zeros = refl; alike = each }
  where
    each : (m n : ℕ) → AreAlike m → AreAlike n → AreAlike (bit_and m n)
    each m n (inl p) (inl q) = inl (ap₂ bit_and p q)
    each m n (inl p) (inr q) = inl (ap₂ bit_and p q)
    each m n (inr p) (inl q) = inl (ap₂ bit_and p q)
    each m n (inr p) (inr q) = inr (ap₂ bit_and p q)

or_on_bits : OnBits bit_or
or_on_bits = record { parts = or_shr; zeros = refl; alike = each }
  where
    each : (m n : ℕ) → AreAlike m → AreAlike n → AreAlike (bit_or m n)
    each m n (inl p) (inl q) = inl (ap₂ bit_or p q)
    each m n (inl p) (inr q) = inr (ap₂ bit_or p q)
    each m n (inr p) (inl q) = inr (ap₂ bit_or p q)
    each m n (inr p) (inr q) = inr (ap₂ bit_or p q)

xor_on_bits : OnBits bit_xor
xor_on_bits = record { parts = xor_shr; zeros = refl; alike = each }
  where
    each : (m n : ℕ) → AreAlike m → AreAlike n → AreAlike (bit_xor m n)
    each m n (inl p) (inl q) = inl (ap₂ bit_xor p q)
    each m n (inl p) (inr q) = inr (ap₂ bit_xor p q)
    each m n (inr p) (inl q) = inr (ap₂ bit_xor p q)
    each m n (inr p) (inr q) = inl (ap₂ bit_xor p q)

-- bits 31 to 63 of an int are alike, and no bit is set above those of the other types
signed_of : (n : ℕ) → IsOf int.Int n → AreAlike (n / 2 ^ 31)
signed_of n is = grind (arith, nat_tests)

of_signed : (n : ℕ) → AreAlike (n / 2 ^ 31) → IsOf int.Int n
of_signed n (inl low) = grind (arith, nat_tests)
of_signed n (inr high) = grind (arith, nat_tests)

below : (n k : ℕ) → n / 2 ^ k ≡ 0 → n < 2 ^ k
below n k none = omega (arith, div-add-mod' n (2 ^ k), mod-lt n (pow_pos k), ap (λ q. q * 2 ^ k) none)

none_above : (f : ℕ → ℕ → ℕ) (a b k : ℕ) → OnBits f → a < 2 ^ k → b < 2 ^ k → f a b < 2 ^ k
none_above f a b k on first second = below (f a b) k (on.parts a b k ∙ ap₂ f (div-eq_of_lt first) (div-eq_of_lt second) ∙ on.zeros)

on_bits : (f : ℕ → ℕ → ℕ) (t : IntType) (a b : ℕ) → OnBits f → IsPromoted t → IsOf t a → IsOf t b → IsOf t (f a b)
on_bits f t a b on promoted first second =
    each_promoted (λ t. IsOf t a → IsOf t b → IsOf t (f a b))
    (λ p q. of_signed (f a b) (rw (on.parts a b 31) (on.alike (a / 2 ^ 31) (b / 2 ^ 31) (signed_of a p) (signed_of b q))))
    (λ p q. omega (arith, none_above f a b 32 on (omega (arith, p)) (omega (arith, q))))
    (λ p q. omega (arith, wrap-long (f a b), none_above f a b 64 on (omega (arith, p, wrap-long a)) (omega (arith, q, wrap-long b))))
    (λ p q. omega (arith, none_above f a b 64 on (omega (arith, p)) (omega (arith, q))))
    t promoted first second

pub and-is_of : (t : IntType) (a b : ℕ) → IsPromoted t → IsOf t a → IsOf t b → IsOf t (bit_and a b)
and-is_of t a b promoted first second = on_bits bit_and t a b and_on_bits promoted first second

pub or-is_of : (t : IntType) (a b : ℕ) → IsPromoted t → IsOf t a → IsOf t b → IsOf t (bit_or a b)
or-is_of t a b promoted first second = on_bits bit_or t a b or_on_bits promoted first second

pub xor-is_of : (t : IntType) (a b : ℕ) → IsPromoted t → IsOf t a → IsOf t b → IsOf t (bit_xor a b)
xor-is_of t a b promoted first second = on_bits bit_xor t a b xor_on_bits promoted first second
