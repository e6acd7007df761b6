-- How many instructions the lists of pointers have (this project's own).
use Rattle.std.specs.Prelude.{ℕ, suc, ◌≤◌, true, List, [], ◌∷◌, ◌++◌, length, Option, Some, None}
use Rattle.std.specs.Prelude.{if◌then◌else◌}
use Rattle.std.proofs.Common.{arith, length-append}
use Rattle.c_ast.specs.declared.operator.BinaryOperator.{BinaryOperator}
use Rattle.c_ast.specs.declared.operator.BinaryOperator.TheVariants as binary
use Rattle.c_ast.specs.declared.operator.Step.{Step}
use Rattle.c_type_base.specs.declared.ty.Ty.{Ty}
use Rattle.c_type_base.specs.declared.typed.StructInfo.{StructInfo}
use Rattle.c_type_base.specs.Types.{target_of}
use Rattle.block_meaning.specs.Operators.{int_in, is_increment}
use Rattle.a64_code.specs.declared.instr.Instr.{Instr}
use Rattle.a64_code.specs.declared.instr.Instr.TheVariants.{Madd, Msub, Sdiv}
use Rattle.a64_code.specs.declared.instr.Reg.{Reg}
use Rattle.a64_laws.specs.Constants.{constant_moves}
use Rattle.a64_laws.specs.Forms.{Add, Sub, operation_instr}
use Rattle.gen_base.specs.Operators.{wrapped_size, stepped_by, stepped, element}
use Rattle.gen_base.specs.Pointers.{pointer_and_number, number_and_pointer, on_two_pointers}
use Rattle.gen_base.specs.Registers.{left, scratch}
use Rattle.gen_laws.specs.Laws.Lengths.{wrap_into-few}
use Rattle.gen_laws.specs.Laws.Moves.{few_moves}

-- from one instruction to so many
pub record FewOf (limit : ℕ) (instrs : List Instr) : Type 0 where
  pub some : 1 ≤ length instrs
  pub most : length instrs ≤ limit

-- a constant, and one instruction more
and_one : (rd : Reg) (value : ℕ) (instr : Instr) → FewOf 5 (constant_moves rd value ++ instr ∷ [])
and_one rd value instr = record {
  some = omega (arith, length-append (constant_moves rd value) (instr ∷ []));
  most = omega (arith, length-append (constant_moves rd value) (instr ∷ []), (few_moves rd value).most);
}

one_more : {limit : ℕ} {instrs : List Instr} (instr : Instr) → FewOf limit instrs → FewOf (suc limit) (instr ∷ instrs)
one_more instr few = record { some = omega arith; most = omega (arith, few.most) }

pub pointer_and_number-few : (o : BinaryOperator) (bytes : ℕ) (r : Reg) → FewOf 5 (pointer_and_number o bytes r)
pointer_and_number-few binary.Subtract bytes r = and_one scratch bytes (Msub true scratch left r r)
pointer_and_number-few _ bytes r = and_one scratch bytes (Madd true scratch left r r)

pub number_and_pointer-few : (bytes : ℕ) (r : Reg) → FewOf 5 (number_and_pointer bytes r)
number_and_pointer-few bytes r = and_one scratch bytes (Madd true scratch r left r)

pub on_two_pointers-few : (o : BinaryOperator) (bytes : ℕ) (r : Reg) → FewOf 6 (on_two_pointers o bytes r)
on_two_pointers-few binary.Subtract bytes r = one_more (operation_instr Sub true r left r) (and_one scratch bytes (Sdiv true scratch r r))
on_two_pointers-few binary.Less bytes r = record { some = omega arith; most = omega arith }
on_two_pointers-few binary.LessEqual bytes r = record { some = omega arith; most = omega arith }
on_two_pointers-few binary.Greater bytes r = record { some = omega arith; most = omega arith }
on_two_pointers-few binary.GreaterEqual bytes r = record { some = omega arith; most = omega arith }
on_two_pointers-few _ bytes r = record { some = omega arith; most = omega arith }

pub element-few : (bytes : ℕ) (target : Option Ty) (r : Reg) → FewOf 5 (element bytes target r)
element-few bytes None r = and_one scratch bytes (Madd true scratch r left r)
element-few bytes (Some target) r = and_one scratch bytes (Madd true scratch left r r)

stepped_by-few : (structs : List StructInfo) (step : Step) (t : Ty) (target : Option Ty) (r : Reg) →
    FewOf 5 (stepped_by structs step t target r)
stepped_by-few structs step t None r = record { some = omega arith; most = omega (arith, wrap_into-few (int_in t) left) }
stepped_by-few structs step t (Some target) r = and_one left (wrapped_size structs target) (operation_instr
    (if is_increment step then Add else Sub) true left r left)

pub stepped-few : (structs : List StructInfo) (step : Step) (t : Ty) (r : Reg) → FewOf 5 (stepped structs step t r)
stepped-few structs step t r = stepped_by-few structs step t (target_of t) r
