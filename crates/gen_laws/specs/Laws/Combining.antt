-- Operators with `=` on integers (ISO C11 6.5.16.2): the left side's value in the type in which they compute, the operator, and back.
use Rattle.std.specs.Prelude.{◌≡◌, ◌≢◌, ℕ, ◌+◌, ◌^◌, ◌<◌, ◌⊎◌, false, List, [], ◌∷◌, ◌++◌, map, Some, None}
use Rattle.std.specs.Prelude.{refl}
use Rattle.std.proofs.Common.{arith, ap, sym, ◌∙◌, inl, inr}
use Rattle.std.proofs.lemmas.List.{append-nil}
use Rattle.c_ast.specs.declared.int_type.IntType.{IntType}
use Rattle.c_ast.specs.declared.operator.AssignOperator.{AssignOperator}
use Rattle.c_ast.specs.declared.operator.AssignOperator.TheVariants as assign
use Rattle.c_type_base.specs.declared.ty.Ty.{Ty}
use Rattle.c_type_base.specs.declared.typed.StructInfo.{StructInfo}
use Rattle.c_type_base.specs.Arithmetic.{binary_value}
use Rattle.c_type_base.specs.Conversions.{wrap}
use Rattle.c_type_base.specs.Types.{target_of}
use Rattle.block_meaning.specs.ExpressionsInOrder.{Arithmetic, Shift, Logical, group_of}
use Rattle.block_meaning.specs.Operators.{int_in, binary_of, computing_type}
use Rattle.a64_code.specs.declared.instr.Instr.{Instr}
use Rattle.a64_code.specs.declared.instr.Reg.{Reg}
use Rattle.a64_code.specs.State.{State}
use Rattle.sym_code.specs.declared.item.SymItem.TheVariants as item
use Rattle.gen_base.specs.Code.{plain, in_turn}
use Rattle.gen_base.specs.Conversions.{between_integers}
use Rattle.gen_base.specs.Integers.{on_integers}
use Rattle.gen_base.specs.Operators.{combined}
use Rattle.gen_base.specs.Registers.{left, scratch}
use Rattle.gen_laws.specs.Computes.{Computes, Operands, IsOf, IsPromoted, all_but, all_but_both}
use Rattle.gen_laws.specs.Operations.{integer_instrs, is_division}
use Rattle.gen_laws.specs.Laws.Computing.{Computes-fewer, Computes-then, Computes-again}
use Rattle.gen_laws.specs.Laws.Conversions.{between-computes}
use Rattle.gen_laws.specs.Laws.Integers.{on_integers-plain, integers-compute, arithmetic-is_of, shifting-is_of}
use Rattle.gen_laws.specs.Laws.Lengths.{integer_instrs-few, between-few}
use Rattle.gen_laws.specs.Laws.Numbers.{IsOf-lt, wrap-is_of}

-- ---- such an operator is arithmetic or a shift

pub group-of_assign : (o : AssignOperator) → (group_of (binary_of o) ≡ Arithmetic) ⊎ (group_of (binary_of o) ≡ Shift)
group-of_assign assign.ShiftLeft = inr refl
group-of_assign assign.ShiftRight = inr refl
group-of_assign _ = inl refl

assign-evaluates : (o : AssignOperator) → group_of (binary_of o) ≢ Logical
assign-evaluates o logical = by_group (group-of_assign o)
  where
    by_group : (group_of (binary_of o) ≡ Arithmetic) ⊎ (group_of (binary_of o) ≡ Shift) → ⊥
    by_group (inl group) = absurd (let e : Arithmetic ≡ Logical = sym group ∙ logical in cc)
    by_group (inr group) = absurd (let e : Shift ≡ Logical = sym group ∙ logical in cc)

-- its value is one of the type in which it computes
pub assigned-is_of : (o : AssignOperator) (by : IntType) (a b n : ℕ) → IsPromoted by → IsOf by a →
    (group_of (binary_of o) ≢ Shift → IsOf by b) → binary_value (binary_of o) by a b ≡ Some n → IsOf by n
assigned-is_of o by a b n promoted first second is = by_group (group-of_assign o)
  where
    by_group : (group_of (binary_of o) ≡ Arithmetic) ⊎ (group_of (binary_of o) ≡ Shift) → IsOf by n
    by_group (inl group) = arithmetic-is_of (binary_of o) by a b n group promoted first
        (second (λ shift. absurd (let e : Arithmetic ≡ Shift = sym group ∙ shift in cc))) is
    by_group (inr group) = shifting-is_of (binary_of o) by a b n group promoted first is

-- ---- the operator, and its value back in the left side's type

-- X16 has the left side's value in the type in which it computes. The test of a divisor has passed before.
pub assigned-computes : (o : AssignOperator) (by t : IntType) (r : Reg) (a b n : ℕ) (s : State) → IsPromoted by → IsOf by a →
    (group_of (binary_of o) ≢ Shift → IsOf by b) → binary_value (binary_of o) by a b ≡ Some n → Operands r a b s → s.pc + 16 < 2 ^ 64 →
    Computes (integer_instrs (binary_of o) by r ++ between_integers by t r) r (wrap t n) (all_but scratch) s
assigned-computes o by t r a b n s promoted first second is given room =
    Computes-again
    (integers-compute by r a b n s given (omega (arith, room)) (binary_of o) (assign-evaluates o) promoted first second is)
    (λ c. Computes-fewer (λ q spared. tt)
    (between-computes r n c.to (omega (arith, given.for_values.to)) c.holds
    (IsOf-lt by n (assigned-is_of o by a b n promoted first second is))
    (omega (arith, c.runs.pc, room, integer_instrs-few (binary_of o) by r)) by t
    (assigned-is_of o by a b n promoted first second is)))

-- ---- the whole, where no divisor is tested

abbrev pub combined_instrs : AssignOperator → IntType → IntType → Reg → List Instr
combined_instrs o s t r =
    let by = computing_type (binary_of o) s t in
    between_integers s by left ++ (integer_instrs (binary_of o) by r ++ between_integers by s r)

pub combined-computes : (o : AssignOperator) (i j : IntType) (r : Reg) (a b n : ℕ) (s : State) →
    IsPromoted (computing_type (binary_of o) i j) → IsOf i a →
    (group_of (binary_of o) ≢ Shift → IsOf (computing_type (binary_of o) i j) b) →
    binary_value (binary_of o) (computing_type (binary_of o) i j) (wrap (computing_type (binary_of o) i j) a) b ≡ Some n →
    Operands r a b s → s.pc + 20 < 2 ^ 64 → Computes (combined_instrs o i j r) r (wrap i n) all_but_both s
combined-computes o i j r a b n s promoted first second is given room =
    Computes-then
    (Computes-fewer (λ q spared. tt)
    (between-computes left a s (omega arith) given.first given.first_fits (omega (arith, room)) i by first))
    (λ c. Computes-fewer (λ q spared. spared.1)
    (assigned-computes o by i r (wrap by a) b n c.to promoted (wrap-is_of by a) second is
    (record {
      for_values = given.for_values;
      first = c.holds;
      second =
          c.registers r.0 (λ same. absurd (omega (arith, same, given.for_values.to)))
          (λ same. absurd (omega (arith, same, given.for_values.to)), λ same. absurd (omega (arith, same, given.for_values.to)))
          ∙ given.second;
      first_fits = IsOf-lt by (wrap by a) (wrap-is_of by a);
      second_fits = given.second_fits;
    })
    (omega (arith, c.runs.pc, room, between-few i by left))))
    (λ q other spared. spared.0)
  where
    by : IntType
    by = computing_type (binary_of o) i j

-- ---- the items

in_pieces : (xs ys : List Instr) → map item.Plain xs ++ map item.Plain ys ≡ map item.Plain (xs ++ ys)
in_pieces [] ys = refl
in_pieces (x ∷ xs) ys = ap (λ is. item.Plain x ∷ is) (in_pieces xs ys)

in_three : (xs ys zs : List Instr) → map item.Plain xs ++ (map item.Plain ys ++ (map item.Plain zs ++ []))
    ≡ map item.Plain (xs ++ (ys ++ zs))
in_three xs ys zs =
    ap (λ is. map item.Plain xs ++ (map item.Plain ys ++ is)) (append-nil (map item.Plain zs))
    ∙ ap (λ is. map item.Plain xs ++ is) (in_pieces ys zs) ∙ in_pieces xs (ys ++ zs)

pub combined-plain : (structs : List StructInfo) (o : AssignOperator) (s t : Ty) (r : Reg) (at : ℕ) → target_of s ≡ None →
    is_division (binary_of o) ≡ false →
    combined structs o s t r at ≡ map item.Plain (combined_instrs o (int_in s) (int_in t) r)
combined-plain structs o s t r at none undivided =
    rw none (ap (λ is. map item.Plain first ++ (is ++ (map item.Plain last ++ []))) (on_integers-plain (binary_of o) by r _ undivided)
    ∙ in_three first (integer_instrs (binary_of o) by r) last)
  where
    by : IntType
    by = computing_type (binary_of o) (int_in s) (int_in t)

    first : List Instr
    first = between_integers (int_in s) by left

    last : List Instr
    last = between_integers by (int_in s) r

-- where one is tested, the parts stand in turn
pub combined-divides : (structs : List StructInfo) (o : AssignOperator) (s t : Ty) (r : Reg) (at : ℕ) → target_of s ≡ None →
    combined structs o s t r at
    ≡ in_turn (plain (between_integers (int_in s) (computing_type (binary_of o) (int_in s) (int_in t)) left)
    ∷ on_integers (binary_of o) (computing_type (binary_of o) (int_in s) (int_in t)) r
    ∷ plain (between_integers (computing_type (binary_of o) (int_in s) (int_in t)) (int_in s) r) ∷ []) at
combined-divides structs o s t r at none = rw none refl
