-- Comparisons of integers (ISO C11 6.5.8, 6.5.9): 1 where they hold and else 0, as the meaning has it.
use Rattle.std.specs.Prelude.{◌≡◌, ℕ, ◌+◌, ◌%◌, ◌^◌, ◌<◌, Bool, true, false, if◌then◌else◌, nat_eq, ltb, Some}
use Rattle.std.specs.Prelude.{not, refl}
use Rattle.std.proofs.Common.{arith, ap, ap₂, ◌∙◌}
use Rattle.std.proofs.lemmas.Bool.Decides.{nat_tests}
use Rattle.std.proofs.lemmas.Int.{ints}
use Rattle.c_ast.specs.declared.int_type.IntType.{IntType}
use Rattle.c_ast.specs.declared.operator.BinaryOperator.{BinaryOperator}
use Rattle.c_ast.specs.declared.operator.BinaryOperator.TheVariants as binary
use Rattle.c_type_base.specs.Arithmetic.{truth, binary_value}
use Rattle.c_type_base.specs.Conversions.{is_signed}
use Rattle.block_meaning.specs.ExpressionsInOrder.{Comparison, group_of}
use Rattle.a64_code.specs.declared.instr.Reg.{Reg}
use Rattle.a64_code.specs.State.{State}
use Rattle.a64_laws.specs.Relations.{Relation, Equal, Unequal, Lower, Higher, LowerOrSame}
use Rattle.a64_laws.specs.Relations.{HigherOrSame, Less, Greater, AtMost, AtLeast, holds}
use Rattle.a64_laws.specs.Sequences.{With, WithNumber, bit_of}
use Rattle.gen_base.specs.Integers.{signed_or, relation, compare, is_zero, is_other}
use Rattle.gen_base.specs.Registers.{left}
use Rattle.gen_laws.specs.Computes.{Computes, Operands, all}
use Rattle.gen_laws.specs.Laws.Computing.{Computes-comparison, Computes-is}
use Rattle.gen_laws.specs.Laws.Numbers.{some_same}

-- ---- a relation of two numbers

pub compare-computes : (rel : Relation) (r : Reg) (a b : ℕ) (s : State) → Operands r a b s → s.pc + 8 < 2 ^ 64 →
    Computes (compare rel r) r (bit_of (holds rel 64 a b)) all s
compare-computes rel r a b s given room =
    Computes-is (ap₂ (λ m n. bit_of (holds rel 64 m n)) given.first given.second)
    (Computes-comparison rel (With r) left r s
    (omega (arith, given.for_values.to), omega (arith, given.second, given.second_fits))
    (omega arith) (omega (arith, given.for_values.to)) (omega (arith, given.first, given.first_fits)) room)

-- ---- and one with zero

pub is_zero-computes : (r : Reg) (a : ℕ) (s : State) → r.0 < 31 → s.register r.0 ≡ a → a < 2 ^ 64 → s.pc + 8 < 2 ^ 64 →
    Computes (is_zero r) r (truth (nat_eq a 0)) all s
is_zero-computes r a s small is fits room =
    Computes-is (ap (λ n. bit_of (holds Equal 64 n 0)) is)
    (Computes-comparison Equal (WithNumber 0) r r s (omega arith) small small (omega (arith, is, fits)) room)

pub is_other-computes : (r : Reg) (a : ℕ) (s : State) → r.0 < 31 → s.register r.0 ≡ a → a < 2 ^ 64 → s.pc + 8 < 2 ^ 64 →
    Computes (is_other r) r (truth (not (nat_eq a 0))) all s
is_other-computes r a s small is fits room =
    Computes-is (ap (λ n. bit_of (holds Unequal 64 n 0)) is)
    (Computes-comparison Unequal (WithNumber 0) r r s (omega arith) small small (omega (arith, is, fits)) room)

-- ---- the operators

less : (signed : Bool) (a b : ℕ) → a < 2 ^ 64 → b < 2 ^ 64 → bit_of (holds (signed_or signed Less Lower) 64 a b)
    ≡ truth (if signed then ltb ((a + 2 ^ 63) % 2 ^ 64) ((b + 2 ^ 63) % 2 ^ 64) else ltb a b)
less true a b first second = grind (arith, ints, nat_tests)
less false a b first second = grind (arith, nat_tests)

greater : (signed : Bool) (a b : ℕ) → a < 2 ^ 64 → b < 2 ^ 64 → bit_of (holds (signed_or signed Greater Higher) 64 a b)
    ≡ truth (if signed then ltb ((b + 2 ^ 63) % 2 ^ 64) ((a + 2 ^ 63) % 2 ^ 64) else ltb b a)
greater true a b first second = grind (arith, ints, nat_tests)
greater false a b first second = grind (arith, nat_tests)

at_most : (signed : Bool) (a b : ℕ) → a < 2 ^ 64 → b < 2 ^ 64 → bit_of (holds (signed_or signed AtMost LowerOrSame) 64 a b)
    ≡ truth (if (if signed then ltb ((b + 2 ^ 63) % 2 ^ 64) ((a + 2 ^ 63) % 2 ^ 64) else ltb b a) then false else true)
at_most true a b first second = grind (arith, ints, nat_tests)
at_most false a b first second = grind (arith, nat_tests)

at_least : (signed : Bool) (a b : ℕ) → a < 2 ^ 64 → b < 2 ^ 64 → bit_of (holds (signed_or signed AtLeast HigherOrSame) 64 a b)
    ≡ truth (if (if signed then ltb ((a + 2 ^ 63) % 2 ^ 64) ((b + 2 ^ 63) % 2 ^ 64) else ltb a b) then false else true)
at_least true a b first second = grind (arith, ints, nat_tests)
at_least false a b first second = grind (arith, nat_tests)

pub comparing-computes : (o : BinaryOperator) (t : IntType) (r : Reg) (a b n : ℕ) (s : State) → group_of o ≡ Comparison →
    binary_value o t a b ≡ Some n → Operands r a b s → s.pc + 8 < 2 ^ 64 → Computes (compare (relation o (is_signed t)) r) r n all s
comparing-computes o t r a b n s compares is given room =
    Computes-is (by_operator o compares is) (compare-computes (relation o (is_signed t)) r a b s given room)
  where
    unequal : (same : Bool) → bit_of (not same) ≡ truth (if same then false else true)
    unequal true = refl
    unequal false = refl

    by_operator : (o : BinaryOperator) → group_of o ≡ Comparison → binary_value o t a b ≡ Some n →
        bit_of (holds (relation o (is_signed t)) 64 a b) ≡ n
    by_operator binary.Less compares is = less (is_signed t) a b given.first_fits given.second_fits ∙ some_same is
    by_operator binary.Greater compares is = greater (is_signed t) a b given.first_fits given.second_fits ∙ some_same is
    by_operator binary.LessEqual compares is = at_most (is_signed t) a b given.first_fits given.second_fits ∙ some_same is
    by_operator binary.GreaterEqual compares is = at_least (is_signed t) a b given.first_fits given.second_fits ∙ some_same is
    by_operator binary.Equal compares is = some_same is
    by_operator binary.NotEqual compares is = unequal (nat_eq a b) ∙ some_same is
    by_operator _ compares is = absurd (cc)
