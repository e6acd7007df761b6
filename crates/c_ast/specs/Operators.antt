-- The punctuator of each operator of the tree, and its number.
use Rattle.std.specs.Prelude.{ℕ}
use Rattle.c_ast.specs.declared.punctuator.Punctuator.{Punctuator}
use Rattle.c_ast.specs.declared.punctuator.Punctuator.TheVariants as punctuator
use Rattle.c_ast.specs.declared.operator.UnaryOperator.{UnaryOperator}
use Rattle.c_ast.specs.declared.operator.UnaryOperator.TheVariants as unary
use Rattle.c_ast.specs.declared.operator.BinaryOperator.{BinaryOperator}
use Rattle.c_ast.specs.declared.operator.BinaryOperator.TheVariants as binary
use Rattle.c_ast.specs.declared.operator.AssignOperator.{AssignOperator}
use Rattle.c_ast.specs.declared.operator.AssignOperator.TheVariants as assign
use Rattle.c_ast.specs.declared.operator.Step.{Step}
use Rattle.c_ast.specs.declared.operator.Step.TheVariants as step
use Rattle.c_ast.specs.Words.{punctuator_number}

-- how each is written (C11 6.5.3)
abbrev pub unary_punctuator : UnaryOperator → Punctuator
unary_punctuator unary.AddressOf = punctuator.Ampersand
unary_punctuator unary.Dereference = punctuator.Star
unary_punctuator unary.Plus = punctuator.Plus
unary_punctuator unary.Minus = punctuator.Minus
unary_punctuator unary.Complement = punctuator.Tilde
unary_punctuator unary.Not = punctuator.Exclamation

abbrev pub unary_number : UnaryOperator → ℕ
unary_number o = punctuator_number (unary_punctuator o)

-- how each is written (C11 6.5.5 to 6.5.14)
abbrev pub binary_punctuator : BinaryOperator → Punctuator
binary_punctuator binary.BitAnd = punctuator.Ampersand
binary_punctuator binary.Multiply = punctuator.Star
binary_punctuator binary.Add = punctuator.Plus
binary_punctuator binary.Subtract = punctuator.Minus
binary_punctuator binary.Divide = punctuator.Slash
binary_punctuator binary.Remainder = punctuator.Percent
binary_punctuator binary.ShiftLeft = punctuator.ShiftLeft
binary_punctuator binary.ShiftRight = punctuator.ShiftRight
binary_punctuator binary.Less = punctuator.Less
binary_punctuator binary.Greater = punctuator.Greater
binary_punctuator binary.LessEqual = punctuator.LessEqual
binary_punctuator binary.GreaterEqual = punctuator.GreaterEqual
binary_punctuator binary.Equal = punctuator.EqualEqual
binary_punctuator binary.NotEqual = punctuator.ExclamationEqual
binary_punctuator binary.BitXor = punctuator.Caret
binary_punctuator binary.BitOr = punctuator.Bar
binary_punctuator binary.And = punctuator.AmpersandAmpersand
binary_punctuator binary.Or = punctuator.BarBar

abbrev pub binary_number : BinaryOperator → ℕ
binary_number o = punctuator_number (binary_punctuator o)

-- how each is written (C11 6.5.16)
abbrev pub assign_punctuator : AssignOperator → Punctuator
assign_punctuator assign.Add = punctuator.PlusEqual
assign_punctuator assign.Subtract = punctuator.MinusEqual
assign_punctuator assign.Multiply = punctuator.StarEqual
assign_punctuator assign.Divide = punctuator.SlashEqual
assign_punctuator assign.Remainder = punctuator.PercentEqual
assign_punctuator assign.ShiftLeft = punctuator.ShiftLeftEqual
assign_punctuator assign.ShiftRight = punctuator.ShiftRightEqual
assign_punctuator assign.BitAnd = punctuator.AmpersandEqual
assign_punctuator assign.BitXor = punctuator.CaretEqual
assign_punctuator assign.BitOr = punctuator.BarEqual

abbrev pub assign_number : AssignOperator → ℕ
assign_number o = punctuator_number (assign_punctuator o)

-- what is written before or after the operand (C11 6.5.2.4, 6.5.3.1)
abbrev pub step_punctuator : Step → Punctuator
step_punctuator step.PreIncrement = punctuator.PlusPlus
step_punctuator step.PreDecrement = punctuator.MinusMinus
step_punctuator step.PostIncrement = punctuator.PlusPlus
step_punctuator step.PostDecrement = punctuator.MinusMinus

-- the number of each step (this project's own)
abbrev pub step_number : Step → ℕ
step_number step.PreIncrement = 0
step_number step.PreDecrement = 1
step_number step.PostIncrement = 2
step_number step.PostDecrement = 3
