-- Integer constant expressions (ISO C11 6.6 paragraph 6) of which the types are known: what a node gives, by what its operands give.
use Rattle.std.specs.Prelude.{Option, Some, None}
use Rattle.c_ast.specs.declared.int_type.IntType.{IntType}
use Rattle.c_ast.specs.declared.operator.UnaryOperator.{UnaryOperator}
use Rattle.c_ast.specs.declared.operator.UnaryOperator.TheVariants as unary
use Rattle.c_ast.specs.declared.operator.BinaryOperator.{BinaryOperator}
use Rattle.c_type_base.specs.declared.ty.Ty.{Ty}
use Rattle.c_type_base.specs.declared.known.Constancy.{Constancy}
use Rattle.c_type_base.specs.declared.known.Constancy.TheVariants.{Varies}
use Rattle.c_type_base.specs.Types.{int_of}
use Rattle.c_type_base.specs.Arithmetic.{unary_value}
use Rattle.c_type_base.specs.Constants.{constant_of, constant_of_one}

-- an operator on an operand of some integer type; an address and what a pointer points to are no constants
abbrev pub unary_in : UnaryOperator → Option IntType → Constancy → Constancy
unary_in unary.AddressOf t a = Varies
unary_in unary.Dereference t a = Varies
unary_in o None a = Varies
unary_in o (Some t) a = constant_of_one (unary_value o t) a

-- an operator on an operand of a type
abbrev pub unary_constant : UnaryOperator → Ty → Constancy → Constancy
unary_constant o t a = unary_in o (int_of t) a

abbrev pub binary_in : BinaryOperator → Option IntType → Constancy → Constancy → Constancy
binary_in o None a b = Varies
binary_in o (Some t) a b = constant_of o t a b

-- an operator whose first operand has a type: the second has the same where that matters
abbrev pub binary_constant : BinaryOperator → Ty → Constancy → Constancy → Constancy
binary_constant o t a b = binary_in o (int_of t) a b
