-- What operators give on values (ISO C11 6.5.2.4, 6.5.3 to 6.5.14): numbers of one type, and pointers.
use Rattle.std.specs.Prelude.{ℕ, ◌+◌, ◌-◌, ◌*◌, ◌^◌, Bool, true, false, nat_eq, Option, Some, None, if◌then◌else◌, not}
use Rattle.c_ast.specs.declared.token.Span.{Span}
use Rattle.c_ast.specs.declared.int_type.IntType.{IntType}
use Rattle.c_ast.specs.declared.int_type.IntType.TheVariants as int
use Rattle.c_ast.specs.declared.operator.BinaryOperator.{BinaryOperator}
use Rattle.c_ast.specs.declared.operator.BinaryOperator.TheVariants as binary
use Rattle.c_ast.specs.declared.operator.AssignOperator.{AssignOperator}
use Rattle.c_ast.specs.declared.operator.AssignOperator.TheVariants as assign
use Rattle.c_ast.specs.declared.operator.Step.{Step}
use Rattle.c_ast.specs.declared.operator.Step.TheVariants as step
use Rattle.c_type_base.specs.declared.ty.Ty.{Ty}
use Rattle.c_type_base.specs.Types.{int_of, target_of}
use Rattle.c_type_base.specs.Conversions.{promoted, wrap}
use Rattle.c_type_base.specs.Arithmetic.{negated, truth, binary_value}
use Rattle.block_meaning.specs.declared.reason.Reason.TheVariants.{Compare}
use Rattle.block_meaning.specs.declared.value.Pointer.{Pointer}
use Rattle.block_meaning.specs.Blocks.{moved}
use Rattle.block_meaning.specs.Compare.{compared, pointer_truth, objects_between}
use Rattle.block_meaning.specs.Memory.{bytes_of}
use Rattle.block_meaning.specs.Running.{Divide, Run, gives, stops, stuck, and_then, by_blocks, Context, undefined}
use Rattle.block_meaning.specs.declared.value.Value.{Value}
use Rattle.block_meaning.specs.declared.value.Value.TheVariants.{Number, Address}
use Rattle.block_meaning.specs.Values.{number_in, converted_to}

-- a value and its type
pub record Operand : Type 0 where
  pub ty : Ty
  pub value : Value

abbrev pub operand : Ty → Value → Operand
operand t v = record { ty = t; value = v }

abbrev pub or_int : Option IntType → IntType
or_int None = int.Int
or_int (Some t) = t

abbrev pub int_in : Ty → IntType
int_in t = or_int (int_of t)

abbrev pub size_in : Context → Option Ty → ℕ
size_in here None = 1
size_in here (Some t) = bytes_of here t

-- the bytes of what a pointer of a type points to
abbrev pub target_size : Context → Ty → ℕ
target_size here t = size_in here (target_of t)

-- a comparison, or none where it is undefined
abbrev pub comparison : Context → Span → Option Bool → Run Bool
comparison here span None = undefined here span None Compare
comparison here span (Some b) = gives b

-- a value as a condition (6.8.4.1 paragraph 2); a pointer is compared with the null pointer
abbrev pub is_true : Context → Span → Value → Run Bool
is_true here span (Address p) = by_blocks (λ blocks. comparison here span (pointer_truth blocks p))
is_true here span v = gives (not (nat_eq (number_in v) 0))

abbrev pub number_of_truth : Bool → Value
number_of_truth b = Number (truth b)

-- ---- binary operators

-- a division by 0 has no value
abbrev pub or_divide : Option ℕ → Run Value
or_divide None = stops Divide
or_divide (Some n) = gives (Number n)

abbrev pub difference_known : Context → Span → Option ℕ → Run Value
difference_known here span None = undefined here span None Compare
difference_known here span (Some n) = gives (Number n)

-- two pointers to objects of a size
abbrev pub on_pointers : Context → Span → BinaryOperator → ℕ → Pointer → Pointer → Run Value
on_pointers here span binary.Subtract size p q = difference_known here span (objects_between p q size)
on_pointers here span o size p q =
    by_blocks (λ blocks. and_then (comparison here span (compared blocks o p q)) (λ b. gives (number_of_truth b)))

-- a pointer and a number of objects of a size
abbrev pub on_pointer : BinaryOperator → ℕ → Pointer → ℕ → Run Value
on_pointer binary.Add size p n = gives (Address (moved p (n * size)))
on_pointer binary.Subtract size p n = gives (Address (moved p (negated n * size)))
on_pointer o size p n = stuck

abbrev pub on_values : Context → Span → BinaryOperator → Ty → Ty → Value → Value → Run Value
on_values here span o s t (Number n) (Number m) = or_divide (binary_value o (int_in s) n m)
on_values here span o s t (Address p) (Number n) = on_pointer o (target_size here s) p n
on_values here span o s t (Number n) (Address p) = on_pointer o (target_size here t) p n
on_values here span o s t (Address p) (Address q) = on_pointers here span o (target_size here s) p q
on_values here span o s t _ _ = stuck

-- an operator, of an expression of this span
abbrev pub operated : Context → Span → BinaryOperator → Operand → Operand → Run Value
operated here span o a b = on_values here span o a.ty b.ty a.value b.value

-- ---- operators with `=`, and `++` and `--`

abbrev pub binary_of : AssignOperator → BinaryOperator
binary_of assign.Add = binary.Add
binary_of assign.Subtract = binary.Subtract
binary_of assign.Multiply = binary.Multiply
binary_of assign.Divide = binary.Divide
binary_of assign.Remainder = binary.Remainder
binary_of assign.ShiftLeft = binary.ShiftLeft
binary_of assign.ShiftRight = binary.ShiftRight
binary_of assign.BitAnd = binary.BitAnd
binary_of assign.BitXor = binary.BitXor
binary_of assign.BitOr = binary.BitOr

-- The type in which an operator with `=` computes: the right side's, into which it was converted; of a shift the left side's, promoted.
abbrev pub computing_type : BinaryOperator → IntType → IntType → IntType
computing_type binary.ShiftLeft s t = promoted s
computing_type binary.ShiftRight s t = promoted s
computing_type o s t = t

abbrev pub numbers_combined : BinaryOperator → Ty → IntType → ℕ → ℕ → Run Value
numbers_combined o s t n m = and_then (or_divide (binary_value o t (wrap t n) m)) (λ v. gives (converted_to s v))

abbrev pub values_combined : Context → Span → BinaryOperator → Ty → Ty → Value → Value → Run Value
values_combined here span o s t (Number n) (Number m) = numbers_combined o s (computing_type o (int_in s) (int_in t)) n m
values_combined here span o s t v w = on_values here span o s t v w

-- the left side's value with the right side's, in the left side's type
abbrev pub combined : Context → Span → AssignOperator → Operand → Operand → Run Value
combined here span o a b = values_combined here span (binary_of o) a.ty b.ty a.value b.value

abbrev pub is_increment : Step → Bool
is_increment step.PreIncrement = true
is_increment step.PostIncrement = true
is_increment _ = false

abbrev pub gives_old : Step → Bool
gives_old step.PostIncrement = true
gives_old step.PostDecrement = true
gives_old _ = false

-- one more or one less, modulo 2^64
abbrev pub by_one : Step → ℕ
by_one s = (if is_increment s then 1 else 2 ^ 64 - 1)

abbrev pub stepped : Context → Step → Ty → Value → Value
stepped here s t (Address p) = Address (moved p (by_one s * target_size here t))
stepped here s t v = converted_to t (Number (number_in v + by_one s))
