-- Operators by the types of their operands (ISO C11 6.5.2.1, 6.5.2.4, 6.5.3, 6.5.5 to 6.5.16).
use Rattle.std.specs.Prelude.{ℕ, ◌%◌, ◌^◌, nat_lt, true, List, [], ◌∷◌, ◌++◌, Option, Some, None, if◌then◌else◌}
use Rattle.c_ast.specs.declared.operator.AssignOperator.{AssignOperator}
use Rattle.c_ast.specs.declared.operator.BinaryOperator.{BinaryOperator}
use Rattle.c_ast.specs.declared.operator.Step.{Step}
use Rattle.c_type_base.specs.declared.ty.Ty.{Ty}
use Rattle.c_type_base.specs.declared.typed.StructInfo.{StructInfo}
use Rattle.c_type_base.specs.Sizes.{size}
use Rattle.c_type_base.specs.Types.{target_of}
use Rattle.a64_code.specs.declared.instr.Instr.{Instr}
use Rattle.a64_code.specs.declared.instr.Instr.TheVariants.{AddImm, SubImm}
use Rattle.a64_code.specs.declared.instr.Reg.{Reg}
use Rattle.a64_laws.specs.Constants.{constant_moves}
use Rattle.a64_laws.specs.Forms.{Add, Sub, operation_instr}
use Rattle.block_meaning.specs.Operators.{int_in, binary_of, computing_type, is_increment}
use Rattle.gen_base.specs.Code.{Code, plain, in_turn}
use Rattle.gen_base.specs.Conversions.{wrap_into, between_integers}
use Rattle.gen_base.specs.Integers.{on_integers}
use Rattle.gen_base.specs.Pointers.{advance, pointer_and_number, number_and_pointer, on_two_pointers}
use Rattle.gen_base.specs.Registers.{left}

-- the bytes of a type, as a register has them
abbrev pub wrapped_size : List StructInfo → Ty → ℕ
wrapped_size structs t = size structs t % 2 ^ 64

-- The bytes of what two pointers point to, by which their difference is divided: 0 where they are no number of 64 bits, since then there is
-- no object between two pointers into one block.
abbrev pub divisor_size : List StructInfo → Ty → ℕ
divisor_size structs t = if nat_lt (size structs t) (2 ^ 64) then size structs t else 0

-- ---- two operands: the first in X16, the second and the result in a register

abbrev pub operated_by : List StructInfo → BinaryOperator → Ty → Ty → Option Ty → Option Ty → Reg → Code
operated_by structs o s t None None r = on_integers o (int_in s) r
operated_by structs o s t (Some target) None r = plain (pointer_and_number o (wrapped_size structs target) r)
operated_by structs o s t None (Some target) r = plain (number_and_pointer (wrapped_size structs target) r)
operated_by structs o s t (Some target) (Some other) r = plain (on_two_pointers o (divisor_size structs target) r)

abbrev pub operated : List StructInfo → BinaryOperator → Ty → Ty → Reg → Code
operated structs o s t r = operated_by structs o s t (target_of s) (target_of t) r

-- the element of a number behind a pointer, in either order
abbrev pub element : ℕ → Option Ty → Reg → List Instr
element bytes (Some target) r = advance bytes left r r
element bytes None r = advance bytes r left r

-- ---- operators with `=`: what stood on the left is in X16, and the right side and the result are in a register

abbrev pub combined_by : List StructInfo → BinaryOperator → Ty → Ty → Option Ty → Reg → Code
combined_by structs o s t None r = let by = computing_type o (int_in s) (int_in t) in
    in_turn (plain (between_integers (int_in s) by left) ∷ on_integers o by r ∷ plain (between_integers by (int_in s) r) ∷ [])
combined_by structs o s t (Some target) r = plain (pointer_and_number o (wrapped_size structs target) r)

abbrev pub combined : List StructInfo → AssignOperator → Ty → Ty → Reg → Code
combined structs o s t r = combined_by structs (binary_of o) s t (target_of s) r

-- ---- `++` and `--`: the value in a register, one more or one less, into X16

abbrev pub number_stepped : Step → Reg → Instr
number_stepped s r = if is_increment s then AddImm true 0 1 r left else SubImm true 0 1 r left

abbrev pub pointer_stepped : Step → ℕ → Reg → List Instr
pointer_stepped s bytes r = constant_moves left bytes ++ operation_instr (if is_increment s then Add else Sub) true left r left ∷ []

abbrev pub stepped_by : List StructInfo → Step → Ty → Option Ty → Reg → List Instr
stepped_by structs s t None r = number_stepped s r ∷ wrap_into (int_in t) left
stepped_by structs s t (Some target) r = pointer_stepped s (wrapped_size structs target) r

abbrev pub stepped : List StructInfo → Step → Ty → Reg → List Instr
stepped structs s t r = stepped_by structs s t (target_of t) r
