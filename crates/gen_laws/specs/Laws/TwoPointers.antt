-- Two pointers into one block (ISO C11 6.5.6, 6.5.8, 6.5.9): their difference, and how they compare, as the meaning has it. The number of
-- each is its offset behind one base, modulo 2^64.
use Rattle.std.specs.Prelude.{◌≡◌, ℕ, ◌+◌, ◌%◌, ◌^◌, ◌<◌, Bool, true, ◌||◌, nat_eq, not, [], ◌∷◌}
use Rattle.std.specs.Prelude.{Some}
use Rattle.std.proofs.Common.{arith, ap, ap₂, ◌∙◌}
use Rattle.std.proofs.lemmas.Bool.Decides.{nat_tests}
use Rattle.std.proofs.lemmas.Int.{ints}
use Rattle.mt_base.specs.Wrapping.{wrapping_sub}
use Rattle.c_ast.specs.declared.int_type.IntType.TheVariants as int
use Rattle.c_ast.specs.declared.operator.BinaryOperator.{BinaryOperator}
use Rattle.c_ast.specs.declared.operator.BinaryOperator.TheVariants as binary
use Rattle.c_type_base.specs.Arithmetic.{quotient, truth, is_negative}
use Rattle.block_meaning.specs.declared.value.Pointer.{Pointer}
use Rattle.block_meaning.specs.Compare.{difference, within_block}
use Rattle.a64_code.specs.declared.instr.Instr.TheVariants.{Sdiv}
use Rattle.a64_code.specs.declared.instr.Reg.{Reg}
use Rattle.a64_code.specs.State.{State}
use Rattle.a64_code.specs.Stepped.{Leads}
use Rattle.a64_alu.specs.Dividing.{divide_signed}
use Rattle.a64_laws.specs.Forms.{Sub, DivideSigned, operation_instr, puts_register}
use Rattle.a64_laws.specs.Relations.{Relation, Equal, Unequal, Less, AtMost, holds}
use Rattle.a64_laws.specs.Sequences.{WithNumber, bit_of}
use Rattle.a64_laws.specs.Laws.Results.{operated}
use Rattle.gen_base.specs.Pointers.{by_difference, on_two_pointers}
use Rattle.gen_base.specs.Registers.{left, scratch}
use Rattle.gen_laws.specs.Computes.{Computes, Operands, all, all_but}
use Rattle.gen_laws.specs.Laws.Comparisons.{compare-computes}
use Rattle.gen_laws.specs.Laws.Computing.{Computes-put, Computes-is, Computes-fewer, Computes-again, Computes-comparison}
use Rattle.gen_laws.specs.Laws.Divisions.{divided_long}
use Rattle.gen_laws.specs.Laws.Numbers.{some_same}
use Rattle.gen_laws.specs.Laws.Pointers.{with_constant}

-- the numbers of two pointers into one block
pub record AreInOne (base : ℕ) (p q : Pointer) (a b : ℕ) : Type 0 where
  pub first : a ≡ (base + p.offset) % 2 ^ 64
  pub second : b ≡ (base + q.offset) % 2 ^ 64
  pub first_fits : p.offset < 2 ^ 64
  pub second_fits : q.offset < 2 ^ 64

pub AreInOne-back : {base : ℕ} {p q : Pointer} {a b : ℕ} → AreInOne base p q a b → AreInOne base q p b a
AreInOne-back are =
    record { first = are.second; second = are.first; first_fits = are.second_fits; second_fits = are.first_fits }

-- ---- the difference

apart : (base : ℕ) (p q : Pointer) (a b : ℕ) → AreInOne base p q a b → wrapping_sub 64 a b ≡ difference p q
apart base p q a b are = omega (arith, are.first, are.second, are.first_fits, are.second_fits)

-- of the numbers in two registers
subtracted : (first second into : Reg) (a b : ℕ) (s : State) → first.0 < 31 → second.0 < 31 → into.0 < 31 → s.register first.0 ≡ a →
    s.register second.0 ≡ b → s.pc + 4 < 2 ^ 64 → Computes (operation_instr Sub true second first into ∷ []) into
    (wrapping_sub 64 a b) all s
subtracted first second into a b s first_low second_low low first_is second_is room =
    Computes-put _ into (wrapping_sub 64 a b) s
    (operated Sub true second first into s second_low first_low low
    ∙ ap₂ (λ m n. Leads (puts_register into (wrapping_sub 64 m n) s)) first_is second_is)
    room

-- in objects of a size
pub objects_apart-computes : (bytes : ℕ) (r : Reg) (base : ℕ) (p q : Pointer) (a b : ℕ) (s : State) → AreInOne base p q a b →
    Operands r a b s → bytes < 2 ^ 64 → s.pc + 24 < 2 ^ 64 →
    Computes (on_two_pointers binary.Subtract bytes r) r (quotient int.Long (difference p q) bytes) (all_but scratch) s
objects_apart-computes bytes r base p q a b s are given fits room =
    Computes-again
    (Computes-fewer (λ q spared. tt) (Computes-is (apart base p q a b are)
    (subtracted left r r a b s (omega arith) (omega (arith, given.for_values.to)) (omega
    (arith, given.for_values.to)) given.first given.second
    (omega (arith, room)))))
    (λ c. with_constant bytes (Sdiv true scratch r r) r r r (difference p q) (difference p q) (quotient int.Long
    (difference p q) bytes) c.to
    (record {
      pointer_low = omega (arith, given.for_values.to);
      count_low = omega (arith, given.for_values.to);
      into_low = omega (arith, given.for_values.to);
      pointer_is = c.holds;
      count_is = c.holds;
    })
    fits (omega (arith, c.runs.pc, room))
    (λ t bytes_are first_is second_is.
    operated DivideSigned true scratch r r t (omega arith) (omega (arith, given.for_values.to)) (omega (arith, given.for_values.to))
    ∙ ap₂ (λ m n. Leads (puts_register r (divide_signed 64 m n) t)) first_is bytes_are
    ∙ ap (λ n. Leads (puts_register r n t)) (divided_long (difference p q) bytes (omega arith) fits)))

-- ---- comparisons by the difference

differ : (first second : Reg) (rel : Relation) (r : Reg) (base : ℕ) (p q : Pointer) (a b : ℕ) (s : State) → AreInOne base p q a b →
    first.0 < 31 → second.0 < 31 → r.0 < 31 → s.register first.0 ≡ a → s.register second.0 ≡ b → s.pc + 12 < 2 ^ 64 →
    Computes (by_difference first second rel r) r (bit_of (holds rel 64 (difference p q) 0)) all s
differ first second rel r base p q a b s are first_low second_low low first_is second_is room =
    Computes-again (Computes-is (apart base p q a b are) (subtracted first second r a b s first_low second_low low first_is second_is
    (omega (arith, room))))
    (λ c. Computes-is (ap (λ n. bit_of (holds rel 64 n 0)) c.holds)
    (Computes-comparison rel (WithNumber 0) r r c.to (omega arith) low low (omega (arith, c.holds)) (omega (arith, c.runs.pc, room))))

less : (d : ℕ) → d < 2 ^ 64 → bit_of (holds Less 64 d 0) ≡ truth (is_negative int.Long d)
less d fits = grind (arith, ints, nat_tests)

at_most : (p q : Pointer) → p.offset < 2 ^ 64 → q.offset < 2 ^ 64 →
    bit_of (holds AtMost 64 (difference p q) 0) ≡ truth (is_negative int.Long (difference p q) || nat_eq p.offset q.offset)
at_most p q first second = grind (arith, ints, nat_tests)

same : (base : ℕ) (p q : Pointer) (a b : ℕ) → AreInOne base p q a b → bit_of (holds Equal 64 a b) ≡ truth (nat_eq p.offset q.offset)
same base p q a b are = grind (arith, nat_tests, are.first, are.second, are.first_fits, are.second_fits)

other : (base : ℕ) (p q : Pointer) (a b : ℕ) → AreInOne base p q a b →
    bit_of (holds Unequal 64 a b) ≡ truth (not (nat_eq p.offset q.offset))
other base p q a b are = grind (arith, nat_tests, are.first, are.second, are.first_fits, are.second_fits)

-- a comparison within the block
pub pointers-compare : (o : BinaryOperator) (bytes : ℕ) (r : Reg) (base : ℕ) (p q : Pointer) (known : Bool) (a b : ℕ) (s : State) →
    AreInOne base p q a b → Operands r a b s → within_block o p q ≡ Some known → s.pc + 12 < 2 ^ 64 →
    Computes (on_two_pointers o bytes r) r (truth known) all s
pointers-compare o bytes r base p q known a b s are given is room = by_operator o is
  where
    low : r.0 < 31
    low = omega (arith, given.for_values.to)

    back : AreInOne base q p b a
    back = AreInOne-back are

    by_operator : (o : BinaryOperator) → within_block o p q ≡ Some known → Computes (on_two_pointers o bytes r) r (truth known) all s
    by_operator binary.Less is =
        Computes-is (less (difference p q) (omega arith) ∙ ap truth (some_same is))
        (differ left r Less r base p q a b s are (omega arith) low low given.first given.second room)
    by_operator binary.LessEqual is =
        Computes-is (at_most p q are.first_fits are.second_fits ∙ ap truth (some_same is))
        (differ left r AtMost r base p q a b s are (omega arith) low low given.first given.second room)
    by_operator binary.Greater is =
        Computes-is (less (difference q p) (omega arith) ∙ ap truth (some_same is))
        (differ r left Less r base q p b a s back low (omega arith) low given.second given.first room)
    by_operator binary.GreaterEqual is =
        Computes-is (at_most q p are.second_fits are.first_fits ∙ ap truth (some_same is))
        (differ r left AtMost r base q p b a s back low (omega arith) low given.second given.first room)
    by_operator binary.Equal is =
        Computes-is (same base p q a b are ∙ ap truth (some_same is)) (compare-computes Equal r a b s given (omega (arith, room)))
    by_operator binary.NotEqual is =
        Computes-is (other base p q a b are ∙ ap truth (some_same is)) (compare-computes Unequal r a b s given (omega (arith, room)))
    by_operator _ is = absurd (cc)

-- ---- two numbers that are known to differ, or any two

pub equal_pointers-compute : (bytes : ℕ) (r : Reg) (a b : ℕ) (s : State) → Operands r a b s → s.pc + 8 < 2 ^ 64 →
    Computes (on_two_pointers binary.Equal bytes r) r (truth (nat_eq a b)) all s
equal_pointers-compute bytes r a b s given room = compare-computes Equal r a b s given room

pub unequal_pointers-compute : (bytes : ℕ) (r : Reg) (a b : ℕ) (s : State) → Operands r a b s → s.pc + 8 < 2 ^ 64 →
    Computes (on_two_pointers binary.NotEqual bytes r) r (truth (not (nat_eq a b))) all s
unequal_pointers-compute bytes r a b s given room = compare-computes Unequal r a b s given room
