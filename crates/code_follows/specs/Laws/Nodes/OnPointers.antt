-- What the lists of operators on pointers do (ISO C11 6.5.6, 6.5.8, 6.5.9), with both operands in registers.
use Rattle.std.specs.Prelude.{◌≡◌, ℕ, ◌+◌, ◌*◌, ◌%◌, ◌^◌, true, [], ◌∷◌, ◌++◌, Some, refl}
use Rattle.std.proofs.Common.{arith, ap, ◌∙◌}
use Rattle.c_ast.specs.declared.operator.BinaryOperator.TheVariants as binary
use Rattle.c_ast.specs.declared.token.Span.{Span}
use Rattle.c_type_base.specs.Arithmetic.{negated}
use Rattle.c_type_base.specs.Sizes.{size}
use Rattle.c_type_base.specs.Types.{is_integer, target_of}
use Rattle.c_type_base.specs.declared.ty.Ty.{Ty}
use Rattle.a64_code.specs.declared.instr.Instr.{Instr}
use Rattle.a64_code.specs.declared.instr.Instr.TheVariants.{Madd, Msub}
use Rattle.a64_code.specs.declared.instr.Reg.{Reg}
use Rattle.a64_code.specs.State.{State}
use Rattle.a64_laws.specs.Constants.{constant_moves}
use Rattle.block_meaning.specs.Blocks.{moved}
use Rattle.block_meaning.specs.Operators.{operand, operated, int_in, on_values}
use Rattle.block_meaning.specs.Running.{gives, State as MeaningState}
use Rattle.block_meaning.specs.declared.value.Value.TheVariants.{Number, Address}
use Rattle.gen_base.specs.Operators.{wrapped_size}
use Rattle.gen_base.specs.Pointers.{pointer_and_number, number_and_pointer}
use Rattle.gen_base.specs.Registers.{left, scratch}
use Rattle.gen_laws.specs.Computes.{Operands}
use Rattle.gen_laws.specs.Laws.PointerLengths.{pointer_and_number-few, number_and_pointer-few}
use Rattle.gen_laws.specs.Laws.Pointers.{add_pointer-computes, take_pointer-computes, number_first-computes}
use Rattle.code_follows.specs.Parts.{Result}
use Rattle.code_follows.specs.Scene.{Scene, IsScene, given_in, structs_in}
use Rattle.code_follows.specs.Values.{ValueIs}
use Rattle.code_follows.specs.Laws.Computing.{are_quiet-append, constant_quiet}
use Rattle.code_follows.specs.Laws.Moving.{moves_on}
use Rattle.code_follows.specs.Laws.Nodes.Integers.{IntegerIs, ValueIs-integer}
use Rattle.code_follows.specs.Laws.Operand.{Listed}
use Rattle.code_follows.specs.Laws.Operands.{BothOperands, DoesBoth, computes_it}
use Rattle.code_follows.specs.Laws.PointerValues.{ValueIs-address, address-ValueIs, target_here}
use Rattle.code_follows.specs.Laws.Walking.{are_quiet}

pub operands_of : {A B : Type 0} {k : Scene} {first_result : Result A} {second_result : Result B} {reg : Reg} {v : A} {w : B}
    {now : MeaningState} {m : State} → BothOperands k first_result second_result reg v w now m →
    Operands reg (m.register 16) (m.register reg.0) m
operands_of {reg = reg} both = record {
  for_values = record { from = both.low; to = both.high };
  first = refl;
  second = refl;
  first_fits = both.relates.injects.in_range.registers 16;
  second_fits = both.relates.injects.in_range.registers reg.0;
}

-- ---- lists

moves_quiet : (bytes : ℕ) (instr : Instr) → are_quiet (instr ∷ []) ≡ true → are_quiet (constant_moves scratch bytes ++ instr ∷ []) ≡ true
moves_quiet bytes instr quiet = are_quiet-append (constant_moves scratch bytes) (instr ∷ []) (constant_quiet scratch bytes) quiet

pub add_listed : (bytes : ℕ) (reg : Reg) → Listed (pointer_and_number binary.Add bytes reg)
add_listed bytes reg = let few = pointer_and_number-few binary.Add bytes reg in record {
  quiet = moves_quiet bytes (Madd true scratch left reg reg) refl;
  few = record { some = few.some; few = omega (arith, few.most) };
}

pub take_listed : (bytes : ℕ) (reg : Reg) → Listed (pointer_and_number binary.Subtract bytes reg)
take_listed bytes reg = let few = pointer_and_number-few binary.Subtract bytes reg in record {
  quiet = moves_quiet bytes (Msub true scratch left reg reg) refl;
  few = record { some = few.some; few = omega (arith, few.most) };
}

pub back_listed : (bytes : ℕ) (reg : Reg) → Listed (number_and_pointer bytes reg)
back_listed bytes reg = let few = number_and_pointer-few bytes reg in record {
  quiet = moves_quiet bytes (Madd true scratch reg left reg) refl;
  few = record { some = few.some; few = omega (arith, few.most) };
}

-- ---- a pointer and an integer

module _ {k : Scene} (scene : IsScene k) (span : Span) (s t u : Ty) where
  -- a pointer, and a number of objects on
  pub added_does : target_of s ≡ Some u → is_integer t ≡ true → DoesBoth k (ValueIs (given_in k) s) (ValueIs (given_in k) t)
      (ValueIs (given_in k) s) (pointer_and_number binary.Add (wrapped_size (structs_in k) u))
      (λ v w. operated k.here span binary.Add (operand s v) (operand t w))
  added_does of integer = record {
    list = add_listed (wrapped_size (structs_in k) u);
    does = λ reg v w now m both.
        let one = ValueIs-address {s = s} of both.first in
        let count : ℕ = m.register reg.0 in
        let two : IntegerIs (int_in t) w count = ValueIs-integer t w count integer both.second in
        computes_it (Address (moved one.pointer (count * size (structs_in k) u)))
        ((m.register 16 + count * wrapped_size (structs_in k) u) % 2 ^ 64)
        (ap (λ x. on_values k.here span binary.Add s t x w now) one.is
        ∙ ap (λ x. on_values k.here span binary.Add s t (Address one.pointer) x now) two.is
        ∙ ap (λ bytes. gives (Address (moved one.pointer (count * bytes))) now) (target_here scene s u of both.relates))
        (add_pointer-computes (wrapped_size (structs_in k) u) reg (m.register 16) count m (operands_of both) (omega arith)
        (omega (arith, both.room)))
        (address-ValueIs of (moves_on count (size (structs_in k) u) one.number));
  }

  -- back
  pub taken_does : target_of s ≡ Some u → is_integer t ≡ true → DoesBoth k (ValueIs (given_in k) s) (ValueIs (given_in k) t)
      (ValueIs (given_in k) s) (pointer_and_number binary.Subtract (wrapped_size (structs_in k) u))
      (λ v w. operated k.here span binary.Subtract (operand s v) (operand t w))
  taken_does of integer = record {
    list = take_listed (wrapped_size (structs_in k) u);
    does = λ reg v w now m both.
        let one = ValueIs-address {s = s} of both.first in
        let count : ℕ = m.register reg.0 in
        let two : IntegerIs (int_in t) w count = ValueIs-integer t w count integer both.second in
        computes_it (Address (moved one.pointer (negated count * size (structs_in k) u)))
        ((m.register 16 + negated count * wrapped_size (structs_in k) u) % 2 ^ 64)
        (ap (λ x. on_values k.here span binary.Subtract s t x w now) one.is
        ∙ ap (λ x. on_values k.here span binary.Subtract s t (Address one.pointer) x now) two.is
        ∙ ap (λ bytes. gives (Address (moved one.pointer (negated count * bytes))) now) (target_here scene s u of both.relates))
        (take_pointer-computes (wrapped_size (structs_in k) u) reg (m.register 16) count m (operands_of both) (omega arith)
        (omega (arith, both.room)))
        (address-ValueIs of (moves_on (negated count) (size (structs_in k) u) one.number));
  }

  -- the number comes first
  pub added_to_does : is_integer s ≡ true → target_of t ≡ Some u → DoesBoth k (ValueIs (given_in k) s) (ValueIs (given_in k) t)
      (ValueIs (given_in k) t) (number_and_pointer (wrapped_size (structs_in k) u))
      (λ v w. operated k.here span binary.Add (operand s v) (operand t w))
  added_to_does integer of = record {
    list = back_listed (wrapped_size (structs_in k) u);
    does = λ reg v w now m both.
        let count : ℕ = m.register 16 in
        let one : IntegerIs (int_in s) v count = ValueIs-integer s v count integer both.first in
        let two = ValueIs-address {s = t} of both.second in
        computes_it (Address (moved two.pointer (count * size (structs_in k) u)))
        ((m.register reg.0 + count * wrapped_size (structs_in k) u) % 2 ^ 64)
        (ap (λ x. on_values k.here span binary.Add s t x w now) one.is
        ∙ ap (λ x. on_values k.here span binary.Add s t (Number count) x now) two.is
        ∙ ap (λ bytes. gives (Address (moved two.pointer (count * bytes))) now) (target_here scene t u of both.relates))
        (number_first-computes (wrapped_size (structs_in k) u) reg count (m.register reg.0) m (operands_of both) (omega arith)
        (omega (arith, both.room)))
        (address-ValueIs of (moves_on count (size (structs_in k) u) two.number));
  }
