-- What follows the parts of a construct, as a function of all of them.
use Rattle.std.specs.Prelude.{List}
use Rattle.c_ast.specs.declared.token.Span.{Span}
use Rattle.c_ast.specs.declared.operator.BinaryOperator.{BinaryOperator}
use Rattle.c_type_base.specs.declared.known.Known.{Known}
use Rattle.c_type_expr.specs.declared.scopes.Called.{Called}
use Rattle.c_type_expr.specs.Outcomes.{Judged}
use Rattle.c_type_base.specs.Known.{value}
use Rattle.c_type_expr.specs.Operators.{binary_judged, cond_judged}
use Rattle.c_type_expr.specs.Postfix.{call_row, not_called_row}

-- an operator on the values of its operands
abbrev pub binary_values : BinaryOperator → Span → Known × Known → Judged Known
binary_values o span (x, y) = binary_judged o span (value x) (value y)

-- a condition's value, and those of its arms
abbrev pub cond_values : Span → Known × (Known × Known) → Judged Known
cond_values span (x, y) = cond_judged span (value x) (value y.0) (value y.1)

-- a function on its arguments
abbrev pub call_by : Span → Called → List Known → Judged Known
call_by span called = call_row span called.callee called.signature

-- and something that is no function's name
abbrev pub not_called_by : Span → Known × List Known → Judged Known
not_called_by span (k, ks) = not_called_row span k ks
