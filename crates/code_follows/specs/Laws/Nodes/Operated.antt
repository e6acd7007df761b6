-- The code of an operator on two integers does what it means, where it does not divide (this project's own).
use Rattle.std.specs.Prelude.{◌≡◌, ◌≢◌, ℕ, ◌+◌, ◌<◌, true, false, List, [], ◌∷◌, max, min, Some, None, refl}
use Rattle.std.proofs.Common.{arith, ap, subst, ◌∙◌}
use Rattle.std.proofs.Math.Path.{fun_ext}
use Rattle.c_ast.specs.declared.operator.BinaryOperator.{BinaryOperator}
use Rattle.c_ast.specs.declared.operator.BinaryOperator.TheVariants as binary
use Rattle.c_type_base.specs.Arithmetic.{binary_value}
use Rattle.c_type_base.specs.Types.{is_integer, target_of}
use Rattle.c_type_base.specs.declared.expr.TExpr.{TExpr}
use Rattle.c_type_base.specs.declared.expr.TNode.TheOpen.{TNode-F}
use Rattle.c_type_base.specs.declared.ty.Ty.{Ty}
use Rattle.c_type_base.specs.declared.typed.StructInfo.{StructInfo}
use Rattle.a64_code.specs.declared.instr.Reg.{Reg}
use Rattle.frame_layout.specs.Needs.{need, both, waiting}
use Rattle.block_meaning.specs.Expressions.{Site, binary_node, value_of, parts_at}
use Rattle.code_relation.specs.Laws.Outcomes.{spent}
use Rattle.block_meaning.specs.ExpressionsInOrder.{Logical, Shift, group_of}
use Rattle.block_meaning.specs.Operators.{operand, int_in, operated, or_divide, on_values}
use Rattle.block_meaning.specs.Running.{and_then, unit_then, State as MeaningState}
use Rattle.block_meaning.specs.declared.value.Value.TheVariants.{Number}
use Rattle.gen_base.specs.Code.{Code as Items, plain, in_turn}
use Rattle.gen_base.specs.Operators.{operated_by, operated as operated_code}
use Rattle.gen_base.specs.Registers.{left, scratch}
use Rattle.gen_expr.specs.Coded.{Coded}
use Rattle.gen_expr.specs.Nodes.{first_waits, binary_value as binary_code}
use Rattle.gen_laws.specs.Computes.{IsOf, IsPromoted, all_but}
use Rattle.gen_laws.specs.Operations.{integer_instrs, is_division}
use Rattle.gen_laws.specs.Laws.Integers.{on_integers-plain, integers-compute}
use Rattle.gen_laws.specs.Laws.Numbers.{IsOf-lt}
use Rattle.code_follows.specs.Leaves.{value_leaves}
use Rattle.code_follows.specs.Parts.{Part, ValueFollows, ValueNode, coded_in, site_in}
use Rattle.code_follows.specs.Scene.{Scene, IsScene, given_in, calls_in, structs_in, frame_in, IsFree, Lies}
use Rattle.code_follows.specs.Values.{IsOfType, ValueIs}
use Rattle.code_follows.specs.Waits.{WaitingLaws}
use Rattle.code_follows.specs.Laws.Coming.{pays}
use Rattle.code_follows.specs.Laws.Computing.{Suits-other}
use Rattle.code_follows.specs.Laws.Going.{Goes-same, Goes-unit, Goes-list, Goes-done, On-at, Part-by, Part-leaves}
use Rattle.code_follows.specs.Laws.Layers.{coded-ty}
use Rattle.code_follows.specs.Laws.Lying.{Lies-turn, Lies-plain, Lies-none}
use Rattle.code_follows.specs.Laws.Nodes.Integers.{ValueIs-integer, has_number, target-none, integer_short, integer_some}
use Rattle.code_follows.specs.Laws.Waiting.{Goes-waits}

-- ---- operators that are not `&&` or `||`

pub plain_run : (at : Site) (o : BinaryOperator) (a b : TExpr) → group_of o ≢ Logical → (now : MeaningState) → binary_node at o a b now
    ≡ and_then (value_of at.parts a) (λ v. and_then (value_of at.parts b) (λ w.
    unit_then (operated at.here at.span o (operand a.ty v) (operand b.ty w)))) now
plain_run at binary.And a b other now = absurd (other refl)
plain_run at binary.Or a b other now = absurd (other refl)
plain_run at _ a b other now = refl

pub plain_code : (structs : List StructInfo) (o : BinaryOperator) (a b : Coded) (t : ℕ) (r : Reg) → group_of o ≢ Logical →
    binary_code structs o a b t r ≡ in_turn (first_waits left a.value b t r ∷ operated_code structs o a.ty b.ty r ∷ [])
plain_code structs binary.And a b t r other = absurd (other refl)
plain_code structs binary.Or a b t r other = absurd (other refl)
plain_code structs _ a b t r other = refl

pub plain_need : (o : BinaryOperator) (a b : ℕ) → group_of o ≢ Logical → both o a b ≡ waiting a b
plain_need binary.And a b other = absurd (other refl)
plain_need binary.Or a b other = absurd (other refl)
plain_need _ a b other = refl

-- ---- on integers

integer_code : (structs : List StructInfo) (o : BinaryOperator) (s t : Ty) (r : Reg) → is_integer s ≡ true → is_integer t ≡ true →
    is_division o ≡ false → operated_code structs o s t r ≡ plain (integer_instrs o (int_in s) r)
integer_code structs o s t r first second undivided =
    ap (λ x. operated_by structs o s t x (target_of t) r) (target-none s first)
    ∙ ap (λ x. operated_by structs o s t None x r) (target-none t second)
    ∙ fun_ext (λ at. on_integers-plain o (int_in s) r at undivided)

-- what is asked of an operator on integers of these types
pub record OnIntegers (o : BinaryOperator) (s t u : Ty) : Type 0 where
  pub evaluates : group_of o ≢ Logical
  pub undivided : is_division o ≡ false
  pub first : is_integer s ≡ true
  pub second : is_integer t ≡ true
  pub promoted : IsPromoted (int_in s)
  -- but for shifts, both have one type
  pub one : group_of o ≢ Shift → int_in t ≡ int_in s
  pub gives : (x y n : ℕ) → IsOf (int_in s) x → (group_of o ≢ Shift → IsOf (int_in s) y) → binary_value o (int_in s) x y ≡ Some n →
      IsOfType u (Number n)

-- ---- the parts

-- whatever is left of the bound, 4 steps are
pub value_part : {k : Scene} {depth : ℕ} (e : TExpr) → ValueFollows k depth e → Part k (coded_in k e).value (need e) 4 (coded_in k e).alone
    (ValueIs (given_in k) e.ty) (value_of (parts_at (calls_in k) k.here depth) e)
value_part e follows = Part-leaves 4 follows.least (follows.around e.span).part

module _ (k : Scene) (o : BinaryOperator) (a b : TExpr) (evaluates : group_of o ≢ Logical) {first : ℕ} {reg : Reg}
    (free : IsFree k (both o (need a) (need b)) first reg) where
  whole_need : both o (need a) (need b) ≡ max (need a) (min (need b + 1) 18446744073709551615)
  whole_need = plain_need o (need a) (need b) evaluates

  pub free_first : IsFree k (need a) first reg
  free_first = record {
    low = free.low;
    high = free.high;
    temps = omega (arith, free.temps, whole_need);
    near = omega (arith, free.near, whole_need);
  }

  pub free_second : IsFree k (need b + 1) first reg
  free_second = record {
    low = free.low;
    high = free.high;
    temps = omega (arith, free.temps, free.near, whole_need);
    near = omega (arith, free.near, whole_need);
  }

code_is : (k : Scene) (o : BinaryOperator) (a b : TExpr) (t : Ty) (first : ℕ) (reg : Reg) → OnIntegers o a.ty b.ty t →
    binary_code (structs_in k) o (coded_in k a) (coded_in k b) first reg
    ≡ in_turn (first_waits left (coded_in k a).value (coded_in k b) first reg ∷ plain (integer_instrs o (int_in a.ty) reg) ∷ [])
code_is k o a b t first reg on =
    plain_code (structs_in k) o (coded_in k a) (coded_in k b) first reg on.evaluates
    ∙ ap (λ (code : Items). in_turn (first_waits left (coded_in k a).value (coded_in k b) first reg ∷ code ∷ []))
    (ap (λ x. operated_code (structs_in k) o x (coded_in k b).ty reg) (coded-ty (structs_in k) (frame_in k) a)
    ∙ ap (λ x. operated_code (structs_in k) o a.ty x reg) (coded-ty (structs_in k) (frame_in k) b)
    ∙ integer_code (structs_in k) o a.ty b.ty reg on.first on.second on.undivided)

pub integers_follow : (k : Scene) → IsScene k → WaitingLaws k → (depth : ℕ) (o : BinaryOperator) (a b : TExpr) (t : Ty) →
    ValueFollows k depth a → ValueFollows k depth b → OnIntegers o a.ty b.ty t → ValueNode k depth t (TNode-F.Binary o a b)
integers_follow k scene waits depth o a b t first_part second_part on = record {
  at = λ span around. record {
    part = Part-by (λ first reg from to free lies acc now s start.
        let i = int_in a.ty in
        let waiting_code = first_waits left (coded_in k a).value (coded_in k b) first reg in
        let instrs = integer_instrs o i reg in
        let typed : Lies k (in_turn (waiting_code ∷ plain instrs ∷ [])) from to =
        subst (λ code. Lies k code from to) (code_is k o a b t first reg on) lies in
        let parts = Lies-turn waiting_code (plain instrs ∷ []) typed in
        let rest = Lies-turn (plain instrs) [] parts.back in
        let low : reg.0 < 28 = omega (arith, free.high) in
        Goes-same (plain_run (site_in k depth span around t) o a b on.evaluates now)
        (Goes-waits scene waits left (coded_in k a).value (coded_in k b) (omega arith) (omega arith) (value_part a first_part)
        (value_part b second_part) (free_first k o a b on.evaluates free) (free_second k o a b on.evaluates free) parts.front start
        (λ v between w behind u c x came first_is into_is second_is.
        let y : ℕ = u.register reg.0 in
        let one = ValueIs-integer a.ty v x on.first first_is in
        let two = ValueIs-integer b.ty w y on.second second_is in
        let known = has_number o i x y on.evaluates on.undivided in
        let second_of : group_of o ≢ Shift → IsOf i y = λ other. subst (λ j. IsOf j y) (on.one other) two.of in
        Goes-unit came (λ owing.
        Goes-same
        (ap (λ p. on_values k.here span o a.ty b.ty p w (spent behind)) one.is
        ∙ ap (λ p. on_values k.here span o a.ty b.ty (Number x) p (spent behind)) two.is
        ∙ ap (λ r. or_divide r (spent behind)) known.is)
        (Goes-list value_leaves (Lies-plain instrs rest.front) (integer_short o i reg on.undivided)
        (λ z same near. integers-compute i reg x y known.number z (record {
          for_values = record { from = free.low; to = free.high };
          first = ap (λ g. g 16) same ∙ into_is;
          second = ap (λ g. g reg.0) same;
          first_fits = IsOf-lt i x one.of;
          second_fits = IsOf-lt (int_in b.ty) y two.of;
        }) (omega (arith, near)) o on.evaluates on.promoted one.of second_of known.is)
        (Suits-other reg reg (all_but scratch) low (λ same. omega (arith, same))) owing (integer_some o i reg on.evaluates)
        (omega (arith, pays scene))
        (λ z m holds others done. Goes-done (Number known.number) (On-at (Lies-none rest.back) done) (omega arith)
        (record { of = on.gives x y known.number one.of second_of known.is; holds = holds })))))));
  };
}
