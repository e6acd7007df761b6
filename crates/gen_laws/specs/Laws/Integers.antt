-- Operators on two integers of one type: the list of each computes what the meaning computes (this project's own).
use Rattle.std.specs.Prelude.{◌≡◌, ◌≢◌, ℕ, ◌+◌, ◌^◌, ◌<◌, true, false, [], ◌∷◌, map, Some, None, refl}
use Rattle.std.proofs.Common.{arith, subst, sym, ◌∙◌}
use Rattle.std.proofs.lemmas.Bool.{cases_eq, ne_eqb}
use Rattle.std.proofs.Common.{inl, inr}
use Rattle.c_ast.specs.declared.int_type.IntType.{IntType}
use Rattle.c_ast.specs.declared.operator.BinaryOperator.{BinaryOperator}
use Rattle.c_ast.specs.declared.operator.BinaryOperator.TheVariants as binary
use Rattle.c_type_base.specs.Arithmetic.{binary_value, divided, quotient, remainder}
use Rattle.block_meaning.specs.ExpressionsInOrder.{Group, Arithmetic, Shift, Comparison, Logical, group_of}
use Rattle.a64_code.specs.declared.instr.Reg.{Reg}
use Rattle.a64_code.specs.State.{State}
use Rattle.a64_laws.specs.Forms.{And, Or, Xor}
use Rattle.sym_code.specs.declared.item.SymItem.TheVariants as item
use Rattle.gen_base.specs.Code.{plain, in_turn}
use Rattle.gen_base.specs.Integers.{unless_zero, on_integers}
use Rattle.gen_base.specs.Registers.{scratch}
use Rattle.gen_laws.specs.Computes.{Computes, Operands, IsOf, IsPromoted, all_but}
use Rattle.gen_laws.specs.Operations.{integer_instrs, is_division}
use Rattle.gen_laws.specs.Laws.Arithmetic.{sum-computes, difference-computes, product-computes}
use Rattle.gen_laws.specs.Laws.Bitwise.{bitwise-computes, and-is_of, or-is_of, xor-is_of}
use Rattle.gen_laws.specs.Laws.Comparisons.{comparing-computes}
use Rattle.gen_laws.specs.Laws.Computing.{Computes-is, Computes-fewer}
use Rattle.gen_laws.specs.Laws.Divisions.{division-computes}
use Rattle.gen_laws.specs.Laws.Numbers.{some_same, wrap-is_of}
use Rattle.gen_laws.specs.Laws.Remainders.{remaining-computes}
use Rattle.gen_laws.specs.Laws.Shifts.{shift_left-computes, shift_right-computes, shifted_right-is_of}

-- ---- the code of an operator is its instructions, behind the test of the divisor where it divides

pub on_integers-plain : (o : BinaryOperator) (t : IntType) (r : Reg) (at : ℕ) → is_division o ≡ false →
    on_integers o t r at ≡ map item.Plain (integer_instrs o t r)
on_integers-plain binary.Divide t r at undivided = absurd (cc)
on_integers-plain binary.Remainder t r at undivided = absurd (cc)
on_integers-plain _ t r at undivided = refl

pub on_integers-divides : (o : BinaryOperator) (t : IntType) (r : Reg) (at : ℕ) → is_division o ≡ true →
    on_integers o t r at ≡ in_turn (unless_zero r ∷ plain (integer_instrs o t r) ∷ []) at
on_integers-divides binary.Divide t r at divides = refl
on_integers-divides binary.Remainder t r at divides = refl
on_integers-divides _ t r at divides = absurd (cc)

-- ---- a division that has a value

-- the divisor is not 0, and the value is the quotient or the remainder
record Divided (by : ℕ → ℕ → ℕ) (a b n : ℕ) : Type 0 where
  some : b ≢ 0
  is : by a b ≡ n

divided_some : (by : ℕ → ℕ → ℕ) (a b n : ℕ) → divided by a b ≡ Some n → Divided by a b n
divided_some by a b n is = elim (cases_eq b 0) [
  | inl none ↦ absurd (let e : None ≡ Some n = rw none at is in cc)
  | inr some ↦ record { some = some; is = some_same (rw (ne_eqb b 0 some) at is) }
]

-- ---- what the instructions compute

module _ (t : IntType) (r : Reg) (a b n : ℕ) (s : State) (given : Operands r a b s) (room : s.pc + 12 < 2 ^ 64) where
  arithmetic : (o : BinaryOperator) → group_of o ≡ Arithmetic → IsPromoted t → IsOf t a → IsOf t b → binary_value o t a b ≡ Some n →
      Computes (integer_instrs o t r) r n (all_but scratch) s
  arithmetic binary.BitAnd group promoted first second is =
      Computes-fewer (λ q spared. tt) (Computes-is (some_same is) (bitwise-computes And r a b s given (omega (arith, room))))
  arithmetic binary.BitOr group promoted first second is =
      Computes-fewer (λ q spared. tt) (Computes-is (some_same is) (bitwise-computes Or r a b s given (omega (arith, room))))
  arithmetic binary.BitXor group promoted first second is =
      Computes-fewer (λ q spared. tt) (Computes-is (some_same is) (bitwise-computes Xor r a b s given (omega (arith, room))))
  arithmetic binary.Multiply group promoted first second is =
      Computes-fewer (λ q spared. tt) (Computes-is (some_same is) (product-computes t r a b s promoted given (omega (arith, room))))
  arithmetic binary.Add group promoted first second is =
      Computes-fewer (λ q spared. tt) (Computes-is (some_same is) (sum-computes t r a b s promoted given (omega (arith, room))))
  arithmetic binary.Subtract group promoted first second is =
      Computes-fewer (λ q spared. tt) (Computes-is (some_same is) (difference-computes t r a b s promoted given (omega (arith, room))))
  arithmetic binary.Divide group promoted first second is =
      Computes-fewer (λ q spared. tt) (Computes-is (divided_some (quotient t) a b n is).is
      (division-computes t r a b s promoted first second given (omega (arith, room))))
  arithmetic binary.Remainder group promoted first second is =
      let known = divided_some (remainder t) a b n is in
      Computes-is known.is (remaining-computes t r a b s promoted first second known.some given room)
  arithmetic _ group promoted first second is = absurd (cc)

  shifting : (o : BinaryOperator) → group_of o ≡ Shift → IsPromoted t → IsOf t a → binary_value o t a b ≡ Some n →
      Computes (integer_instrs o t r) r n (all_but scratch) s
  shifting binary.ShiftLeft group promoted first is =
      Computes-fewer (λ q spared. tt) (Computes-is (some_same is) (shift_left-computes t r a b s promoted given (omega (arith, room))))
  shifting binary.ShiftRight group promoted first is =
      Computes-fewer (λ q spared. tt) (Computes-is (some_same is) (shift_right-computes t r a b s promoted first given (omega
      (arith, room))))
  shifting _ group promoted first is = absurd (cc)

  -- of any integer type
  comparing : (o : BinaryOperator) → group_of o ≡ Comparison → binary_value o t a b ≡ Some n →
      Computes (integer_instrs o t r) r n (all_but scratch) s
  comparing binary.Less group is =
      Computes-fewer (λ q spared. tt) (comparing-computes binary.Less t r a b n s group is given (omega (arith, room)))
  comparing binary.Greater group is =
      Computes-fewer (λ q spared. tt) (comparing-computes binary.Greater t r a b n s group is given (omega (arith, room)))
  comparing binary.LessEqual group is =
      Computes-fewer (λ q spared. tt) (comparing-computes binary.LessEqual t r a b n s group is given (omega (arith, room)))
  comparing binary.GreaterEqual group is =
      Computes-fewer (λ q spared. tt) (comparing-computes binary.GreaterEqual t r a b n s group is given (omega (arith, room)))
  comparing binary.Equal group is =
      Computes-fewer (λ q spared. tt) (comparing-computes binary.Equal t r a b n s group is given (omega (arith, room)))
  comparing binary.NotEqual group is =
      Computes-fewer (λ q spared. tt) (comparing-computes binary.NotEqual t r a b n s group is given (omega (arith, room)))
  comparing _ group is = absurd (cc)

  -- The first number is a value of the type, and so is the second but of a shift, whose count may be any number. The operator is not `&&`
  -- or `||`.
  pub integers-compute : (o : BinaryOperator) → group_of o ≢ Logical → IsPromoted t → IsOf t a → (group_of o ≢ Shift → IsOf t b) →
      binary_value o t a b ≡ Some n → Computes (integer_instrs o t r) r n (all_but scratch) s
  integers-compute o evaluates promoted first second is = by_group (group_of o) refl
    where
      by_group : (g : Group) → group_of o ≡ g → Computes (integer_instrs o t r) r n (all_but scratch) s
      by_group Arithmetic group = arithmetic o group promoted first (second (λ shift. absurd (let e : Arithmetic ≡ Shift = sym group
          ∙ shift in cc))) is
      by_group Shift group = shifting o group promoted first is
      by_group Comparison group = comparing o group is
      by_group Logical group = absurd (evaluates group)

-- ---- and that it is a value of the type

pub arithmetic-is_of : (o : BinaryOperator) (t : IntType) (a b n : ℕ) → group_of o ≡ Arithmetic → IsPromoted t → IsOf t a → IsOf t b →
    binary_value o t a b ≡ Some n → IsOf t n
arithmetic-is_of binary.BitAnd t a b n group promoted first second is = subst (IsOf t) (some_same is)
    (and-is_of t a b promoted first second)
arithmetic-is_of binary.BitOr t a b n group promoted first second is = subst (IsOf t) (some_same is) (or-is_of t a b promoted first second)
arithmetic-is_of binary.BitXor t a b n group promoted first second is = subst (IsOf t) (some_same is)
    (xor-is_of t a b promoted first second)
arithmetic-is_of binary.Multiply t a b n group promoted first second is = subst (IsOf t) (some_same is) (wrap-is_of t _)
arithmetic-is_of binary.Add t a b n group promoted first second is = subst (IsOf t) (some_same is) (wrap-is_of t _)
arithmetic-is_of binary.Subtract t a b n group promoted first second is = subst (IsOf t) (some_same is) (wrap-is_of t _)
arithmetic-is_of binary.Divide t a b n group promoted first second is = subst (IsOf t) (divided_some (quotient t) a b n is).is
    (wrap-is_of t _)
arithmetic-is_of binary.Remainder t a b n group promoted first second is = subst (IsOf t) (divided_some (remainder t) a b n is).is
    (wrap-is_of t _)
arithmetic-is_of _ t a b n group promoted first second is = absurd (cc)

pub shifting-is_of : (o : BinaryOperator) (t : IntType) (a b n : ℕ) → group_of o ≡ Shift → IsPromoted t → IsOf t a →
    binary_value o t a b ≡ Some n → IsOf t n
shifting-is_of binary.ShiftLeft t a b n group promoted first is = subst (IsOf t) (some_same is) (wrap-is_of t _)
shifting-is_of binary.ShiftRight t a b n group promoted first is = subst (IsOf t) (some_same is) (shifted_right-is_of t a b promoted first)
shifting-is_of _ t a b n group promoted first is = absurd (cc)
