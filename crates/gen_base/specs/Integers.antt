-- Operators on integers of one type (ISO C11 6.5.3.3, 6.5.5 to 6.5.14): the first operand is in X16, and the second and the result are in
-- one register.
use Rattle.std.specs.Prelude.{nat_eq, Bool, true, List, [], ◌∷◌, ◌++◌, if◌then◌else◌}
use Rattle.c_ast.specs.declared.int_type.IntType.{IntType}
use Rattle.c_ast.specs.declared.operator.BinaryOperator.{BinaryOperator}
use Rattle.c_ast.specs.declared.operator.BinaryOperator.TheVariants as binary
use Rattle.c_ast.specs.declared.operator.UnaryOperator.{UnaryOperator}
use Rattle.c_ast.specs.declared.operator.UnaryOperator.TheVariants as unary
use Rattle.c_type_base.specs.Conversions.{is_signed, bits_of}
use Rattle.a64_code.specs.declared.instr.Instr.{Instr}
use Rattle.a64_code.specs.declared.instr.Instr.TheVariants.{Madd, SubImm, Svc, Nop}
use Rattle.a64_code.specs.declared.instr.Reg.{Reg}
use Rattle.a64_laws.specs.Forms.{zero_register, Operation, Add, Sub, And, Or, Xor, ShiftLeft, ShiftRight, ShiftRightSigned, operation_instr}
use Rattle.a64_laws.specs.Relations.{Relation, Equal, Unequal, Lower, Higher, LowerOrSame, HigherOrSame, Less, Greater, AtMost, AtLeast}
use Rattle.a64_laws.specs.Sequences.{With, WithNumber, comparison_instrs, Sign, Signed, Unsigned, divide_instr, remainder_instrs}
use Rattle.sym_code.specs.declared.item.SymItem.TheVariants as item
use Rattle.gen_base.specs.Code.{Code, nothing, only, plain, in_turn, labelled}
use Rattle.gen_base.specs.Conversions.{extend}
use Rattle.gen_base.specs.Registers.{left, scratch}

-- ---- widths and signs

abbrev pub is_wide : IntType → Bool
is_wide t = nat_eq (bits_of t) 64

-- an operation on 32 bits leaves zeros above them, where a signed type has its sign
abbrev pub with_sign : IntType → Reg → List Instr
with_sign t r = if is_signed t then (if is_wide t then [] else extend true (bits_of t) r) else []

abbrev pub sign_of : IntType → Sign
sign_of t = if is_signed t then Signed else Unsigned

-- ---- operations

abbrev pub operation : Operation → IntType → Reg → List Instr
operation o t r = operation_instr o (is_wide t) r left r ∷ with_sign t r

-- bit by bit, values of one type give one of it
abbrev pub bitwise : Operation → Reg → List Instr
bitwise o r = operation_instr o true r left r ∷ []

abbrev pub product : IntType → Reg → List Instr
product t r = Madd (is_wide t) r zero_register left r ∷ with_sign t r

-- a division by 0 ends the run
abbrev pub unless_zero : Reg → Code
unless_zero r = labelled (λ l. in_turn (only (item.JumpIfNotZero r l) ∷ plain (Svc 4 ∷ []) ∷ only (item.Label l) ∷ []))

abbrev pub division : IntType → Reg → List Instr
division t r = divide_instr (sign_of t) (is_wide t) r left r ∷ with_sign t r

abbrev pub remaining : IntType → Reg → List Instr
remaining t r = remainder_instrs (sign_of t) (is_wide t) r left scratch r ++ with_sign t r

-- ---- comparisons

abbrev pub signed_or : Bool → Relation → Relation → Relation
signed_or signed a b = if signed then a else b

-- the relation of a comparison, by the sign of its type
abbrev pub relation : BinaryOperator → Bool → Relation
relation binary.Less signed = signed_or signed Less Lower
relation binary.Greater signed = signed_or signed Greater Higher
relation binary.LessEqual signed = signed_or signed AtMost LowerOrSame
relation binary.GreaterEqual signed = signed_or signed AtLeast HigherOrSame
relation binary.NotEqual signed = Unequal
relation _ signed = Equal

abbrev pub compare : Relation → Reg → List Instr
compare relation r = comparison_instrs relation true (With r) left r

-- 1 where a register is zero, or is not, and else 0
abbrev pub is_zero : Reg → List Instr
is_zero r = comparison_instrs Equal true (WithNumber 0) r r

abbrev pub is_other : Reg → List Instr
is_other r = comparison_instrs Unequal true (WithNumber 0) r r

-- ---- all of them

abbrev pub shift_right : IntType → Reg → List Instr
shift_right t r = operation (if is_signed t then ShiftRightSigned else ShiftRight) t r

abbrev pub on_integers : BinaryOperator → IntType → Reg → Code
on_integers binary.BitAnd t r = plain (bitwise And r)
on_integers binary.BitOr t r = plain (bitwise Or r)
on_integers binary.BitXor t r = plain (bitwise Xor r)
on_integers binary.Multiply t r = plain (product t r)
on_integers binary.Add t r = plain (operation Add t r)
on_integers binary.Subtract t r = plain (operation Sub t r)
on_integers binary.Divide t r = in_turn (unless_zero r ∷ plain (division t r) ∷ [])
on_integers binary.Remainder t r = in_turn (unless_zero r ∷ plain (remaining t r) ∷ [])
on_integers binary.ShiftLeft t r = plain (operation ShiftLeft t r)
on_integers binary.ShiftRight t r = plain (shift_right t r)
on_integers binary.And t r = nothing
on_integers binary.Or t r = nothing
on_integers o t r = plain (compare (relation o (is_signed t)) r)

-- an operator on one integer of a promoted type
abbrev pub on_integer : UnaryOperator → IntType → Reg → List Instr
on_integer unary.Minus t r = operation_instr Sub (is_wide t) r zero_register r ∷ with_sign t r
on_integer unary.Complement t r =
    operation_instr Sub (is_wide t) r zero_register r ∷ SubImm (is_wide t) 0 1 r r ∷ with_sign t r
on_integer unary.Not t r = is_zero r
on_integer _ t r = Nop ∷ []
