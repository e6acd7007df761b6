use Rattle.std.proofs.Common.{◌≡◌, drop}
use Rattle.c_type_expr.specs.Postfix.{all_values}
use Rattle.c_type_expr.proofs.rows.call.all_values.Given as goal

-- the arguments passed are values
abbrev pub invariant-loop-argument : goal.invariant-loop-argument
invariant-loop-argument l = all_values l.arguments ≡ all_values (drop l.argument-index l.arguments)
