-- What the lists of operators on two pointers do (ISO C11 6.5.6, 6.5.8, 6.5.9), with both in registers.
use Rattle.std.specs.Prelude.{◌≡◌, ℕ, ◌+◌, ◌*◌, ◌^◌, ◌<◌, Bool, true, false, nat_eq, not, slice_get, Option, Some, None, [], ◌∷◌, refl}
use Rattle.std.specs.Prelude.{if◌then◌else◌}
use Rattle.std.proofs.Common.{arith, ap, sym, ◌∙◌}
use Rattle.std.proofs.lemmas.Bool.{eqb-true}
use Rattle.c_ast.specs.declared.int_type.IntType.TheVariants as int
use Rattle.c_ast.specs.declared.operator.BinaryOperator.{BinaryOperator}
use Rattle.c_ast.specs.declared.operator.BinaryOperator.TheVariants as binary
use Rattle.c_ast.specs.declared.token.Span.{Span}
use Rattle.c_type_base.specs.Arithmetic.{quotient, truth}
use Rattle.c_type_base.specs.Laws.Opened.{given_types}
use Rattle.c_type_base.specs.Sizes.{size}
use Rattle.c_type_base.specs.Types.{target_of}
use Rattle.c_type_base.specs.declared.ty.Ty.{Ty}
use Rattle.c_type_base.specs.declared.ty.Ty.TheVariants as ty
use Rattle.a64_code.specs.declared.instr.Instr.TheVariants.{Sdiv}
use Rattle.a64_code.specs.declared.instr.Reg.{Reg}
use Rattle.a64_code.specs.State.{State}
use Rattle.a64_laws.specs.Constants.{constant_moves}
use Rattle.block_meaning.specs.Blocks.{Block}
use Rattle.block_meaning.specs.Compare.{compared, within_block, of_different, known_to_differ, difference}
use Rattle.block_meaning.specs.ExpressionsInOrder.{Comparison, group_of, int_type}
use Rattle.block_meaning.specs.Operators.{operand, operated, on_values, on_pointers, comparison, difference_known, number_of_truth}
use Rattle.block_meaning.specs.Running.{Undefined, Context, gives, goes_on, State as MeaningState}
use Rattle.block_meaning.specs.declared.reason.Reason.TheVariants.{Compare}
use Rattle.block_meaning.specs.declared.value.Pointer.{Pointer}
use Rattle.block_meaning.specs.declared.value.Value.{Value}
use Rattle.block_meaning.specs.declared.value.Value.TheVariants.{Number, Address}
use Rattle.code_relation.specs.Numbers.{IsNumber, number_at}
use Rattle.code_relation.specs.Relates.{Relates}
use Rattle.code_relation.specs.Sites.{Given, Site, site_by, site_of}
use Rattle.gen_base.specs.Operators.{divisor_size}
use Rattle.gen_base.specs.Pointers.{on_two_pointers}
use Rattle.gen_base.specs.Registers.{scratch}
use Rattle.gen_laws.specs.Computes.{IsOf, Computes, Operands, all_but}
use Rattle.gen_laws.specs.Laws.Computing.{Computes-is, Computes-fewer}
use Rattle.gen_laws.specs.Laws.Divisors.{divisor-lt, divisor-divides}
use Rattle.gen_laws.specs.Laws.Numbers.{some_same, wrap-is_of}
use Rattle.gen_laws.specs.Laws.PointerLengths.{on_two_pointers-few}
use Rattle.gen_laws.specs.Laws.TwoPointers.{AreInOne, objects_apart-computes, pointers-compare, equal_pointers-compute}
use Rattle.gen_laws.specs.Laws.TwoPointers.{unequal_pointers-compute}
use Rattle.code_follows.specs.Scene.{Scene, IsScene, given_in, structs_in}
use Rattle.code_follows.specs.Values.{ValueIs}
use Rattle.code_follows.specs.Laws.Computing.{are_quiet-append, constant_quiet}
use Rattle.code_follows.specs.Laws.Differing.{numbers_differ}
use Rattle.code_follows.specs.Laws.LocalSites.{locals_lie}
use Rattle.code_follows.specs.Laws.Nodes.Denied.{truth_is}
use Rattle.code_follows.specs.Laws.Nodes.OnPointers.{operands_of}
use Rattle.code_follows.specs.Laws.Operand.{Listed}
use Rattle.code_follows.specs.Laws.Operands.{BothOperands, DoesBoth, DoesBeside, computes_it, is_undefined}
use Rattle.code_follows.specs.Laws.PointerValues.{AddressIs, ValueIs-address, target_here}
use Rattle.code_follows.specs.Laws.Walking.{are_quiet}

-- ---- lists

pub pointers_listed : (o : BinaryOperator) (bytes : ℕ) (reg : Reg) → Listed (on_two_pointers o bytes reg)
pointers_listed o bytes reg = record {
  quiet = by_operator o;
  few = record { some = (on_two_pointers-few o bytes reg).some; few = omega (arith, (on_two_pointers-few o bytes reg).most) };
}
  where
    by_operator : (o : BinaryOperator) → are_quiet (on_two_pointers o bytes reg) ≡ true
    by_operator binary.Subtract =
        are_quiet-append (constant_moves scratch bytes) (Sdiv true scratch reg reg ∷ []) (constant_quiet scratch bytes) refl
    by_operator binary.Less = refl
    by_operator binary.LessEqual = refl
    by_operator binary.Greater = refl
    by_operator binary.GreaterEqual = refl
    by_operator _ = refl

-- ---- two pointers into one block

-- how far into memory offset 0 of a block is, with the tag
abbrev base_at : Site → ℕ
base_at at = at.start + at.tag * 2 ^ 56

in_one : {g : Given} {now : MeaningState} {p q : Pointer} {m n : ℕ} → p.block ≡ q.block → (p_is : IsNumber g now p m) →
    IsNumber g now q n → AreInOne (base_at (site_of g now p.block p_is.block)) p q m n
in_one {g} {now} {p} {q} {m} {n} same p_is q_is = record {
  first = p_is.number;
  second = q_is.number ∙ ap (λ at. number_at at q.offset) site_is;
  first_fits = p_is.fits;
  second_fits = q_is.fits;
}
  where
    block_is : q_is.block ≡ p_is.block
    block_is = some_same (sym q_is.is ∙ ap (slice_get now.blocks) (sym same) ∙ p_is.is)

    site_is : site_of g now q.block q_is.block ≡ site_of g now p.block p_is.block
    site_is =
        ap (λ (b : Block). site_by g now.calls b.kind q.block) block_is
        ∙ ap (λ (number : ℕ). site_by g now.calls p_is.block.kind number) (sym same)

-- a comparison that is undefined, or a difference
abbrev uncompared : Context → Span → MeaningState → Undefined
uncompared here span now = record {
  why = Compare;
  file = here.unit;
  span = span;
  access = None;
  open_calls = here.open_calls;
  calls = now.calls;
  blocks = now.blocks;
}

-- how many objects of a size lie between two pointers into one block
abbrev apart : Pointer → Pointer → ℕ → ℕ
apart p q bytes = quotient int.Long (difference p q) bytes

long_is : {g : Given} {now : MeaningState} (n : ℕ) → IsOf int.Long n → ValueIs g (ty.Int int.Long) (Number n) now n
unfolding given_types
long_is n of = record { of = of; holds = refl }

module _ {k : Scene} (scene : IsScene k) where
  -- ---- comparisons

  compared_run : (span : Span) (o : BinaryOperator) (bytes : ℕ) (p q : Pointer) (now : MeaningState) → group_of o ≡ Comparison →
      on_pointers k.here span o bytes p q now
      ≡ goes_on (comparison k.here span (compared now.blocks o p q) now) (λ b. gives (number_of_truth b))
  compared_run span binary.Less bytes p q now is = refl
  compared_run span binary.LessEqual bytes p q now is = refl
  compared_run span binary.Greater bytes p q now is = refl
  compared_run span binary.GreaterEqual bytes p q now is = refl
  compared_run span binary.Equal bytes p q now is = refl
  compared_run span binary.NotEqual bytes p q now is = refl
  compared_run span _ bytes p q now is = absurd (cc)

  -- of different blocks
  differing : (o : BinaryOperator) (bytes : ℕ) (reg : Reg) (m n : ℕ) (known result : Bool) (t : State) → Operands reg m n t →
      t.pc < 2 ^ 56 → of_different o known ≡ Some result → (known ≡ true → nat_eq m n ≡ false) →
      Computes (on_two_pointers o bytes reg) reg (truth result) (all_but scratch) t
  differing binary.Equal bytes reg m n true result t given room is differ =
      Computes-fewer (λ r spared. tt)
      (Computes-is (ap truth (differ refl ∙ some_same is)) (equal_pointers-compute bytes reg m n t given (omega (arith, room))))
  differing binary.NotEqual bytes reg m n true result t given room is differ =
      Computes-fewer (λ r spared. tt)
      (Computes-is (ap truth (ap not (differ refl) ∙ some_same is))
      (unequal_pointers-compute bytes reg m n t given (omega (arith, room))))
  differing _ bytes reg m n known result t given room is differ = absurd (cc)

  comparing : (o : BinaryOperator) (bytes : ℕ) (reg : Reg) (p q : Pointer) (m n : ℕ) (result : Bool) (now : MeaningState) (t : State) →
      Relates (given_in k) k.here now t → Operands reg m n t → t.pc < 2 ^ 56 → IsNumber (given_in k) now p m →
      IsNumber (given_in k) now q n → compared now.blocks o p q ≡ Some result →
      Computes (on_two_pointers o bytes reg) reg (truth result) (all_but scratch) t
  comparing o bytes reg p q m n result now t relates given room p_is q_is is = by_block (nat_eq p.block q.block) refl is
    where
      by_block : (same : Bool) → nat_eq p.block q.block ≡ same →
          (if same then within_block o p q else of_different o (known_to_differ now.blocks p q)) ≡ Some result →
          Computes (on_two_pointers o bytes reg) reg (truth result) (all_but scratch) t
      by_block true same is =
          Computes-fewer (λ r spared. tt)
          (pointers-compare o bytes reg (base_at (site_of (given_in k) now p.block p_is.block)) p q result m n t
          (in_one (eqb-true p.block q.block same) p_is q_is) given is (omega (arith, room)))
      by_block false different is =
          differing o bytes reg m n (known_to_differ now.blocks p q) result t given room is
          (numbers_differ (locals_lie scene) relates p q m n different p_is q_is)

  pub compared_does : (span : Span) (o : BinaryOperator) (s u : Ty) (bytes : ℕ) → group_of o ≡ Comparison → target_of s ≡ Some u →
      DoesBoth k (ValueIs (given_in k) s) (ValueIs (given_in k) s) (ValueIs (given_in k) int_type) (on_two_pointers o bytes)
      (λ v w. operated k.here span o (operand s v) (operand s w))
  compared_does span o s u bytes group of = record {
    list = λ reg. pointers_listed o bytes reg;
    does = λ reg v w now t both.
        by_pointers reg v w now t both (ValueIs-address {s = s} of both.first) (ValueIs-address {s = s} of both.second);
  }
    where
      by_pointers : (reg : Reg) (v w : Value) (now : MeaningState) (t : State) →
          BothOperands k (ValueIs (given_in k) s) (ValueIs (given_in k) s) reg v w now t → AddressIs (given_in k) v now (t.register 16) →
          AddressIs (given_in k) w now (t.register reg.0) →
          DoesBeside (ValueIs (given_in k) int_type) (on_two_pointers o bytes reg) reg
          (operated k.here span o (operand s v) (operand s w)) now t
      by_pointers reg v w now t both one two = by_result (compared now.blocks o one.pointer two.pointer) refl
        where
          run_is : on_values k.here span o s s v w now
              ≡ goes_on (comparison k.here span (compared now.blocks o one.pointer two.pointer) now) (λ b. gives (number_of_truth b))
          run_is =
              ap (λ x. on_values k.here span o s s x w now) one.is
              ∙ ap (λ x. on_values k.here span o s s (Address one.pointer) x now) two.is
              ∙ compared_run span o _ one.pointer two.pointer now group

          by_result : (r : Option Bool) → compared now.blocks o one.pointer two.pointer ≡ r →
              DoesBeside (ValueIs (given_in k) int_type) (on_two_pointers o bytes reg) reg
              (operated k.here span o (operand s v) (operand s w)) now t
          by_result None is =
              is_undefined (uncompared k.here span now)
              (run_is ∙ ap (λ r. goes_on (comparison k.here span r now) (λ b. gives (number_of_truth b))) is) refl
          by_result (Some b) is =
              computes_it (number_of_truth b) (truth b)
              (run_is ∙ ap (λ r. goes_on (comparison k.here span r now) (λ b. gives (number_of_truth b))) is)
              (comparing o bytes reg one.pointer two.pointer (t.register 16) (t.register reg.0) b now t both.relates (operands_of both)
              both.room one.number two.number is)
              (truth_is b)

  -- ---- the difference

  pub distance_does : (span : Span) (s u : Ty) → target_of s ≡ Some u →
      DoesBoth k (ValueIs (given_in k) s) (ValueIs (given_in k) s) (ValueIs (given_in k) (ty.Int int.Long))
      (on_two_pointers binary.Subtract (divisor_size (structs_in k) u))
      (λ v w. operated k.here span binary.Subtract (operand s v) (operand s w))
  distance_does span s u of = record {
    list = λ reg. pointers_listed binary.Subtract (divisor_size (structs_in k) u) reg;
    does = λ reg v w now t both.
        by_pointers reg v w now t both (ValueIs-address {s = s} of both.first) (ValueIs-address {s = s} of both.second);
  }
    where
      by_pointers : (reg : Reg) (v w : Value) (now : MeaningState) (t : State) →
          BothOperands k (ValueIs (given_in k) s) (ValueIs (given_in k) s) reg v w now t → AddressIs (given_in k) v now (t.register 16) →
          AddressIs (given_in k) w now (t.register reg.0) →
          DoesBeside (ValueIs (given_in k) (ty.Int int.Long)) (on_two_pointers binary.Subtract (divisor_size (structs_in k) u) reg) reg
          (operated k.here span binary.Subtract (operand s v) (operand s w)) now t
      by_pointers reg v w now t both one two = by_block (nat_eq one.pointer.block two.pointer.block) refl
        where
          run_is : (same : Bool) → nat_eq one.pointer.block two.pointer.block ≡ same → on_values k.here span binary.Subtract s s v w now
              ≡ difference_known k.here span (if same then Some (apart one.pointer two.pointer (size (structs_in k) u)) else None) now
          run_is same is =
              ap (λ x. on_values k.here span binary.Subtract s s x w now) one.is
              ∙ ap (λ x. on_values k.here span binary.Subtract s s (Address one.pointer) x now) two.is
              ∙ ap (λ n. difference_known k.here span (if nat_eq one.pointer.block two.pointer.block
              then Some (apart one.pointer two.pointer n) else None) now)
              (target_here scene s u of both.relates)
              ∙ ap (λ b. difference_known k.here span (if b
              then Some (apart one.pointer two.pointer (size (structs_in k) u)) else None) now) is

          by_block : (same : Bool) → nat_eq one.pointer.block two.pointer.block ≡ same →
              DoesBeside (ValueIs (given_in k) (ty.Int int.Long)) (on_two_pointers binary.Subtract (divisor_size (structs_in k) u) reg) reg
              (operated k.here span binary.Subtract (operand s v) (operand s w)) now t
          by_block false is = is_undefined (uncompared k.here span now) (run_is false is) refl
          by_block true is =
              let n : ℕ = apart one.pointer two.pointer (size (structs_in k) u) in
              computes_it (Number n) n (run_is true is)
              (Computes-is (divisor-divides (structs_in k) u (difference one.pointer two.pointer))
              (objects_apart-computes (divisor_size (structs_in k) u) reg
              (base_at (site_of (given_in k) now one.pointer.block one.number.block)) one.pointer two.pointer (t.register 16)
              (t.register reg.0) t (in_one (eqb-true one.pointer.block two.pointer.block is) one.number two.number) (operands_of both)
              (divisor-lt (structs_in k) u) (omega (arith, both.room))))
              (long_is n (wrap-is_of int.Long _))
