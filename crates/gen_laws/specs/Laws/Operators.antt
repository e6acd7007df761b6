-- Operators by the types of their operands: which list stands for them, and what it computes where a pointer is among them. A size is
-- any number, and a register has it modulo 2^64 (this project's own).
use Rattle.std.specs.Prelude.{◌≡◌, ℕ, ◌+◌, ◌*◌, ◌%◌, ◌^◌, ◌<◌, List, map, Some, None, refl}
use Rattle.std.proofs.Common.{arith}
use Rattle.mt_base.specs.Laws.Wrapping.{wrapping_mul-wrap_right}
use Rattle.c_ast.specs.declared.operator.AssignOperator.{AssignOperator}
use Rattle.c_ast.specs.declared.operator.BinaryOperator.{BinaryOperator}
use Rattle.c_ast.specs.declared.operator.BinaryOperator.TheVariants as binary
use Rattle.c_type_base.specs.declared.ty.Ty.{Ty}
use Rattle.c_type_base.specs.declared.typed.StructInfo.{StructInfo}
use Rattle.c_type_base.specs.Arithmetic.{negated}
use Rattle.c_type_base.specs.Sizes.{size}
use Rattle.c_type_base.specs.Types.{target_of}
use Rattle.block_meaning.specs.Operators.{int_in, binary_of}
use Rattle.a64_code.specs.declared.instr.Reg.{Reg}
use Rattle.a64_code.specs.State.{State}
use Rattle.sym_code.specs.declared.item.SymItem.TheVariants as item
use Rattle.gen_base.specs.Integers.{on_integers}
use Rattle.gen_base.specs.Operators.{wrapped_size, divisor_size, operated, combined, element}
use Rattle.gen_base.specs.Pointers.{pointer_and_number, number_and_pointer, on_two_pointers}
use Rattle.gen_base.specs.Registers.{scratch}
use Rattle.gen_laws.specs.Computes.{Computes, Operands, all_but}
use Rattle.gen_laws.specs.Laws.Computing.{Computes-is}
use Rattle.gen_laws.specs.Laws.Pointers.{add_pointer-computes, take_pointer-computes, number_first-computes}

-- ---- which list

module _ (structs : List StructInfo) (o : BinaryOperator) (s t : Ty) (r : Reg) (at : ℕ) where
  pub operated-integers : target_of s ≡ None → target_of t ≡ None → operated structs o s t r at ≡ on_integers o (int_in s) r at
  operated-integers first second = rw (first, second) refl

  pub operated-pointer : (target : Ty) → target_of s ≡ Some target → target_of t ≡ None →
      operated structs o s t r at ≡ map item.Plain (pointer_and_number o (wrapped_size structs target) r)
  operated-pointer target first second = rw (first, second) refl

  pub operated-number_first : (target : Ty) → target_of s ≡ None → target_of t ≡ Some target →
      operated structs o s t r at ≡ map item.Plain (number_and_pointer (wrapped_size structs target) r)
  operated-number_first target first second = rw (first, second) refl

  pub operated-two_pointers : (target other : Ty) → target_of s ≡ Some target → target_of t ≡ Some other →
      operated structs o s t r at ≡ map item.Plain (on_two_pointers o (divisor_size structs target) r)
  operated-two_pointers target other first second = rw (first, second) refl

pub combined-pointer : (structs : List StructInfo) (o : AssignOperator) (s t target : Ty) (r : Reg) (at : ℕ) → target_of s ≡ Some target →
    combined structs o s t r at ≡ map item.Plain (pointer_and_number (binary_of o) (wrapped_size structs target) r)
combined-pointer structs o s t target r at some = rw some refl

-- ---- a pointer and a number of objects

times_wrapped : (p k bytes : ℕ) → (p + k * (bytes % 2 ^ 64)) % 2 ^ 64 ≡ (p + k * bytes) % 2 ^ 64
times_wrapped p k bytes = omega (arith, wrapping_mul-wrap_right 64 k bytes)

module _ (structs : List StructInfo) (target : Ty) (r : Reg) (a b : ℕ) (s : State) (given : Operands r a b s)
    (room : s.pc + 20 < 2 ^ 64) where
  pub pointer_added : Computes (pointer_and_number binary.Add (wrapped_size structs target) r) r ((a + b * size structs target) % 2 ^ 64)
      (all_but scratch) s
  pointer_added = Computes-is (times_wrapped a b (size structs target))
      (add_pointer-computes (wrapped_size structs target) r a b s given (omega arith) room)

  pub pointer_taken : Computes (pointer_and_number binary.Subtract (wrapped_size structs target) r) r
      ((a + negated b * size structs target) % 2 ^ 64) (all_but scratch) s
  pointer_taken = Computes-is (times_wrapped a (negated b) (size structs target))
      (take_pointer-computes (wrapped_size structs target) r a b s given (omega arith) room)

  pub added_to_number : Computes (number_and_pointer (wrapped_size structs target) r) r ((b + a * size structs target) % 2 ^ 64)
      (all_but scratch) s
  added_to_number = Computes-is (times_wrapped b a (size structs target))
      (number_first-computes (wrapped_size structs target) r a b s given (omega arith) room)

-- ---- an element: the pointer is in X16 and the number in the register, or the other way round

module _ (bytes : ℕ) (r : Reg) (a b : ℕ) (s : State) (given : Operands r a b s) (fits : bytes < 2 ^ 64) (room : s.pc + 20 < 2 ^ 64) where
  pub element-computes : (target : Ty) → Computes (element bytes (Some target) r) r ((a + b * bytes) % 2 ^ 64) (all_but scratch) s
  element-computes target = add_pointer-computes bytes r a b s given fits room

  pub element_of_number-computes : Computes (element bytes None r) r ((b + a * bytes) % 2 ^ 64) (all_but scratch) s
  element_of_number-computes = number_first-computes bytes r a b s given fits room
