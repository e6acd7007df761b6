use Rattle.std.proofs.Common.{rules}
use Rattle.c_type_expr.proofs.CallLaws.{assignable_over}
use Rattle.c_type_expr.proofs.rows.call.all_assignable.Goals as goal

pub returns : goal.returns
returns c = assignable_over c.loop-argument.argument-index c.loop-argument.left.now c.args.params.now c.args.arguments.now
    c.loop-argument.invariant (search rules)
