-- The operators and the punctuators that spell them (ISO C11 6.5).
use Rattle.std.specs.Prelude.{◌≡◌, ℕ, Option, Some, None}
use Rattle.c_ast.specs.Seen.{Seen as Token}
use Rattle.c_ast.specs.declared.operator.UnaryOperator.{UnaryOperator}
use Rattle.c_ast.specs.declared.operator.BinaryOperator.{BinaryOperator}
use Rattle.c_ast.specs.declared.operator.BinaryOperator.TheVariants as binary
use Rattle.c_ast.specs.declared.operator.AssignOperator.{AssignOperator}
use Rattle.c_ast.specs.declared.operator.Step.{Step}
use Rattle.c_ast.specs.declared.operator.Step.TheVariants as step
use Rattle.c_ast.specs.declared.punctuator.Punctuator.{Punctuator}
use Rattle.c_ast.specs.declared.punctuator.Punctuator.TheVariants as mark
use Rattle.c_ast.specs.Operators.{unary_punctuator, binary_punctuator, assign_punctuator, step_punctuator}
use Rattle.c_grammar.specs.Words.{IsPunct}

-- how loosely they bind: `* / %`, `+ -`, `<< >>`, `< > <= >=`, `== !=`, `&`, `^`, `|`, `&&`, `||`
abbrev pub looseness : BinaryOperator → ℕ
looseness binary.Multiply = 1
looseness binary.Divide = 1
looseness binary.Remainder = 1
looseness binary.Add = 2
looseness binary.Subtract = 2
looseness binary.ShiftLeft = 3
looseness binary.ShiftRight = 3
looseness binary.Less = 4
looseness binary.Greater = 4
looseness binary.LessEqual = 4
looseness binary.GreaterEqual = 4
looseness binary.Equal = 5
looseness binary.NotEqual = 5
looseness binary.BitAnd = 6
looseness binary.BitXor = 7
looseness binary.BitOr = 8
looseness binary.And = 9
looseness binary.Or = 10

-- the operators of assignment, of which `=` has none of its own
abbrev pub assign_mark : Option AssignOperator → Punctuator
assign_mark None = mark.Equal
assign_mark (Some o) = assign_punctuator o

-- whether `++` and `--` stand before or behind their operand
pub data Side : Type 0 where
  Before Behind : Side

abbrev pub step_side : Step → Side
step_side step.PreIncrement = Before
step_side step.PreDecrement = Before
step_side step.PostIncrement = Behind
step_side step.PostDecrement = Behind

-- the token is this operator
abbrev pub UnaryWord : UnaryOperator → Token → Type 0
UnaryWord o t = IsPunct (unary_punctuator o) t

abbrev pub BinaryWord : ℕ → BinaryOperator → Token → Type 0
BinaryWord n o t = (looseness o ≡ n) × IsPunct (binary_punctuator o) t

abbrev pub AssignWord : Option AssignOperator → Token → Type 0
AssignWord o t = IsPunct (assign_mark o) t

abbrev pub StepWord : Side → Step → Token → Type 0
StepWord side s t = (step_side s ≡ side) × IsPunct (step_punctuator s) t
