-- What lists of instructions are made of and compute, where no other word says it (this project's own).
use Rattle.std.specs.Prelude.{ℕ, Bool, true, false, List, [], Option, Some}
use Rattle.c_ast.specs.declared.int_type.IntType.{IntType}
use Rattle.c_ast.specs.declared.operator.BinaryOperator.{BinaryOperator}
use Rattle.c_ast.specs.declared.operator.BinaryOperator.TheVariants as binary
use Rattle.c_type_base.specs.declared.ty.Ty.TheOpen.{Ty-F}
use Rattle.c_type_base.specs.Conversions.{is_signed, wrap}
use Rattle.c_type_base.specs.Types.{TyLayer}
use Rattle.a64_code.specs.declared.instr.Instr.{Instr}
use Rattle.a64_code.specs.declared.instr.Reg.{Reg}
use Rattle.a64_laws.specs.Forms.{Add, Sub, And, Or, Xor, ShiftLeft}
use Rattle.gen_base.specs.Integers.{bitwise, product, operation, division, remaining, shift_right, compare, relation}

-- the instructions of an operator on two integers, the test of a divisor aside
abbrev pub integer_instrs : BinaryOperator → IntType → Reg → List Instr
integer_instrs binary.BitAnd t r = bitwise And r
integer_instrs binary.BitOr t r = bitwise Or r
integer_instrs binary.BitXor t r = bitwise Xor r
integer_instrs binary.Multiply t r = product t r
integer_instrs binary.Add t r = operation Add t r
integer_instrs binary.Subtract t r = operation Sub t r
integer_instrs binary.Divide t r = division t r
integer_instrs binary.Remainder t r = remaining t r
integer_instrs binary.ShiftLeft t r = operation ShiftLeft t r
integer_instrs binary.ShiftRight t r = shift_right t r
integer_instrs binary.And t r = []
integer_instrs binary.Or t r = []
integer_instrs o t r = compare (relation o (is_signed t)) r

-- whether a divisor is tested before them
abbrev pub is_division : BinaryOperator → Bool
is_division binary.Divide = true
is_division binary.Remainder = true
is_division _ = false

-- The number of a value in another type: one of an integer type is wrapped, and a pointer that is made of an integer is null.
abbrev pub converted_number : Option IntType → TyLayer → ℕ → ℕ
converted_number o (Ty-F.Int t) n = wrap t n
converted_number (Some s) (Ty-F.Pointer t) n = 0
converted_number o _ n = n
