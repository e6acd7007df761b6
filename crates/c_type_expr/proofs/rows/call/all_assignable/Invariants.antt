use Rattle.std.proofs.Common.{◌≡◌, drop}
use Rattle.c_type_expr.specs.Postfix.{all_assignable}
use Rattle.c_type_expr.proofs.rows.call.all_assignable.Given as goal

-- the arguments passed can be assigned
abbrev pub invariant-loop-argument : goal.invariant-loop-argument
invariant-loop-argument l = all_assignable l.params l.arguments ≡ all_assignable l.left (drop l.argument-index l.arguments)
