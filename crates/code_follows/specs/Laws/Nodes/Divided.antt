-- The code of a division or a remainder of integers does what it means (this project's own).
use Rattle.std.specs.Prelude.{◌≡◌, ◌≢◌, ℕ, ◌<◌, Bool, true, false, List, [], ◌∷◌, ◌&&◌, None, refl}
use Rattle.std.proofs.Common.{arith, ap, subst, ◌∙◌}
use Rattle.std.proofs.Math.Path.{fun_ext}
use Rattle.std.proofs.lemmas.Bool.{ne_eqb}
use Rattle.c_ast.specs.declared.int_type.IntType.{IntType}
use Rattle.c_ast.specs.declared.operator.BinaryOperator.{BinaryOperator}
use Rattle.c_ast.specs.declared.operator.BinaryOperator.TheVariants as binary
use Rattle.c_type_base.specs.Arithmetic.{binary_value, quotient, remainder}
use Rattle.c_type_base.specs.Types.{is_integer, target_of}
use Rattle.c_type_base.specs.declared.expr.TExpr.{TExpr}
use Rattle.c_type_base.specs.declared.expr.TNode.TheOpen.{TNode-F}
use Rattle.c_type_base.specs.declared.ty.Ty.{Ty}
use Rattle.c_type_base.specs.declared.typed.StructInfo.{StructInfo}
use Rattle.a64_code.specs.declared.instr.Reg.{Reg}
use Rattle.a64_laws.specs.Sequences.{Sign, Signed, Unsigned, divide_instr}
use Rattle.block_meaning.specs.ExpressionsInOrder.{Arithmetic, Logical, group_of}
use Rattle.block_meaning.specs.Operators.{int_in, or_divide, on_values}
use Rattle.block_meaning.specs.declared.value.Value.TheVariants.{Number}
use Rattle.code_relation.specs.Laws.Outcomes.{spent}
use Rattle.gen_base.specs.Code.{Code as Items, plain, in_turn}
use Rattle.gen_base.specs.Integers.{is_wide, sign_of, unless_zero}
use Rattle.gen_base.specs.Operators.{operated_by, operated as operated_code}
use Rattle.gen_base.specs.Registers.{left, scratch}
use Rattle.gen_expr.specs.Nodes.{first_waits, binary_value as binary_code}
use Rattle.gen_laws.specs.Computes.{IsOf, IsPromoted, all_but}
use Rattle.gen_laws.specs.Operations.{integer_instrs, is_division}
use Rattle.gen_laws.specs.Laws.Integers.{on_integers-divides, integers-compute, arithmetic-is_of}
use Rattle.gen_laws.specs.Laws.Numbers.{IsOf-lt}
use Rattle.code_follows.specs.Leaves.{value_leaves}
use Rattle.code_follows.specs.Parts.{ValueFollows, ValueNode, coded_in, site_in}
use Rattle.code_follows.specs.Scene.{Scene, IsScene, structs_in, frame_in, Lies}
use Rattle.code_follows.specs.Waits.{WaitingLaws}
use Rattle.code_follows.specs.Laws.Coming.{pays}
use Rattle.code_follows.specs.Laws.Computing.{Suits-other}
use Rattle.code_follows.specs.Laws.Dividing.{Goes-unless_zero}
use Rattle.code_follows.specs.Laws.Going.{Goes-same, Goes-unit, Goes-list, Goes-done, On-at, Part-by}
use Rattle.code_follows.specs.Laws.Layers.{coded-ty}
use Rattle.code_follows.specs.Laws.Lying.{Lies-turn, Lies-plain, Lies-none}
use Rattle.code_follows.specs.Laws.Nodes.Integers.{ValueIs-integer, HasNumber, target-none, sign_short}
use Rattle.code_follows.specs.Laws.Nodes.OnIntegers.{integer-of}
use Rattle.code_follows.specs.Laws.Nodes.Operated.{plain_run, plain_code, value_part, free_first, free_second}
use Rattle.code_follows.specs.Laws.Waiting.{Goes-waits}
use Rattle.code_follows.specs.Laws.Walking.{is_quiet, Short}

-- ---- the operators

division_group : (o : BinaryOperator) → is_division o ≡ true → group_of o ≡ Arithmetic
division_group binary.Divide divides = refl
division_group binary.Remainder divides = refl
division_group _ divides = absurd (cc)

divides_plain : (o : BinaryOperator) → is_division o ≡ true → group_of o ≢ Logical
divides_plain o divides logical = let arithmetic : group_of o ≡ Arithmetic = division_group o divides in absurd (cc)

-- with a divisor that is 0 there is no value, and else there is one
pub no_number : (o : BinaryOperator) (t : IntType) (a b : ℕ) → is_division o ≡ true → b ≡ 0 → binary_value o t a b ≡ None
no_number binary.Divide t a b divides none = rw none refl
no_number binary.Remainder t a b divides none = rw none refl
no_number _ t a b divides none = absurd (cc)

pub some_number : (o : BinaryOperator) (t : IntType) (a b : ℕ) → is_division o ≡ true → b ≢ 0 → HasNumber o t a b
some_number binary.Divide t a b divides some = record { number = quotient t a b; is = rw (ne_eqb b 0 some) refl }
some_number binary.Remainder t a b divides some = record { number = remainder t a b; is = rw (ne_eqb b 0 some) refl }
some_number _ t a b divides some = absurd (cc)

divide_quiet : (sign : Sign) (wide : Bool) (rm rn rd : Reg) → is_quiet (divide_instr sign wide rm rn rd) ≡ true
divide_quiet Signed wide rm rn rd = refl
divide_quiet Unsigned wide rm rn rd = refl

both_true : (a b : Bool) → a ≡ true → b ≡ true → (a && b) ≡ true
both_true true b first second = second
both_true false b first second = absurd (cc)

pub division_short : (o : BinaryOperator) (t : IntType) (r : Reg) → is_division o ≡ true → Short 3 (integer_instrs o t r)
division_short binary.Divide t r divides =
    let one = sign_short t r in
    record { quiet = both_true _ _ (divide_quiet (sign_of t) (is_wide t) r left r) one.quiet; few = omega (arith, one.few) }
division_short binary.Remainder t r divides =
    let one = sign_short t r in
    record { quiet = both_true _ _ (divide_quiet (sign_of t) (is_wide t) r left scratch) one.quiet; few = omega (arith, one.few) }
division_short _ t r divides = absurd (cc)

-- ---- the code

division_code : (structs : List StructInfo) (o : BinaryOperator) (s t : Ty) (r : Reg) → is_integer s ≡ true → is_integer t ≡ true →
    is_division o ≡ true → operated_code structs o s t r ≡ in_turn (unless_zero r ∷ plain (integer_instrs o (int_in s) r) ∷ [])
division_code structs o s t r first second divides =
    ap (λ x. operated_by structs o s t x (target_of t) r) (target-none s first)
    ∙ ap (λ x. operated_by structs o s t None x r) (target-none t second)
    ∙ fun_ext (λ at. on_integers-divides o (int_in s) r at divides)

-- what is asked of a division of integers of these types
pub record OnDivision (o : BinaryOperator) (s t : Ty) : Type 0 where
  pub divides : is_division o ≡ true
  pub first : is_integer s ≡ true
  pub second : is_integer t ≡ true
  pub promoted : IsPromoted (int_in s)
  pub one : int_in t ≡ int_in s

code_is : (k : Scene) (o : BinaryOperator) (a b : TExpr) (first : ℕ) (reg : Reg) → OnDivision o a.ty b.ty →
    binary_code (structs_in k) o (coded_in k a) (coded_in k b) first reg
    ≡ in_turn (first_waits left (coded_in k a).value (coded_in k b) first reg
    ∷ in_turn (unless_zero reg ∷ plain (integer_instrs o (int_in a.ty) reg) ∷ []) ∷ [])
code_is k o a b first reg on =
    plain_code (structs_in k) o (coded_in k a) (coded_in k b) first reg (divides_plain o on.divides)
    ∙ ap (λ (code : Items). in_turn (first_waits left (coded_in k a).value (coded_in k b) first reg ∷ code ∷ []))
    (ap (λ x. operated_code (structs_in k) o x (coded_in k b).ty reg) (coded-ty (structs_in k) (frame_in k) a)
    ∙ ap (λ x. operated_code (structs_in k) o a.ty x reg) (coded-ty (structs_in k) (frame_in k) b)
    ∙ division_code (structs_in k) o a.ty b.ty reg on.first on.second on.divides)

pub divisions_follow : (k : Scene) → IsScene k → WaitingLaws k → (depth : ℕ) (o : BinaryOperator) (a b : TExpr) →
    ValueFollows k depth a → ValueFollows k depth b → OnDivision o a.ty b.ty → ValueNode k depth a.ty (TNode-F.Binary o a b)
divisions_follow k scene waits depth o a b first_part second_part on = record {
  at = λ span around. record {
    part = Part-by (λ first reg from to free lies acc now s start.
        let i = int_in a.ty in
        let waiting_code = first_waits left (coded_in k a).value (coded_in k b) first reg in
        let instrs = integer_instrs o i reg in
        let evaluates : group_of o ≢ Logical = divides_plain o on.divides in
        let typed : Lies k (in_turn (waiting_code ∷ in_turn (unless_zero reg ∷ plain instrs ∷ []) ∷ [])) from to =
        subst (λ code. Lies k code from to) (code_is k o a b first reg on) lies in
        let parts = Lies-turn waiting_code (in_turn (unless_zero reg ∷ plain instrs ∷ []) ∷ []) typed in
        let whole = Lies-turn (in_turn (unless_zero reg ∷ plain instrs ∷ [])) [] parts.back in
        let test = Lies-turn (unless_zero reg) (plain instrs ∷ []) whole.front in
        let rest = Lies-turn (plain instrs) [] test.back in
        let low : reg.0 < 28 = omega (arith, free.high) in
        Goes-same (plain_run (site_in k depth span around a.ty) o a b evaluates now)
        (Goes-waits scene waits left (coded_in k a).value (coded_in k b) (omega arith) (omega arith) (value_part a first_part)
        (value_part b second_part) (free_first k o a b evaluates free) (free_second k o a b evaluates free) parts.front start
        (λ v between w behind u c x came first_is into_is second_is.
        let y : ℕ = u.register reg.0 in
        let one = ValueIs-integer a.ty v x on.first first_is in
        let two = ValueIs-integer b.ty w y on.second second_is in
        let second_of : IsOf i y = subst (λ j. IsOf j y) on.one two.of in
        let run_is = ap (λ p. on_values k.here span o a.ty b.ty p w (spent behind)) one.is
        ∙ ap (λ p. on_values k.here span o a.ty b.ty (Number x) p (spent behind)) two.is in
        Goes-unit came (λ owing.
        Goes-unless_zero reg 80 test.front (omega (arith, low))
        (λ none. run_is ∙ ap (λ r. or_divide r (spent behind)) (no_number o i x y on.divides none)) owing (omega arith)
        (omega (arith, pays scene))
        (λ m some there.
        let known = some_number o i x y on.divides some in
        Goes-same (run_is ∙ ap (λ r. or_divide r (spent behind)) known.is)
        (Goes-list value_leaves (Lies-plain instrs rest.front) (division_short o i reg on.divides)
        (λ z same near. integers-compute i reg x y known.number z (record {
          for_values = record { from = free.low; to = free.high };
          first = ap (λ g. g 16) same ∙ into_is;
          second = ap (λ g. g reg.0) same;
          first_fits = IsOf-lt i x one.of;
          second_fits = IsOf-lt (int_in b.ty) y two.of;
        }) (omega (arith, near)) o evaluates on.promoted one.of (λ other. second_of) known.is)
        (Suits-other reg reg (all_but scratch) low (λ same. omega (arith, same))) there (omega arith) (omega arith)
        (λ z n holds others done. Goes-done (Number known.number) (On-at (Lies-none rest.back ∙ Lies-none whole.back) done) (omega arith)
        (record {
          of = integer-of a.ty known.number on.first (arithmetic-is_of o i x y known.number (division_group o on.divides) on.promoted one.of
              second_of known.is);
          holds = holds;
        }))))))));
  };
}
