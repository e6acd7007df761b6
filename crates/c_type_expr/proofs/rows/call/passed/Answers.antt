use Rattle.c_type_expr.proofs.CallLaws.{passed_over}
use Rattle.c_type_expr.proofs.rows.call.passed.Goals as goal

pub returns : goal.returns
returns c = passed_over _ c.loop-argument.passed c.loop-argument.left.now c.loop-argument.argument-iterator.rest.items
    c.loop-argument.argument-iterator.rest.len c.loop-argument.invariant.follows c.loop-argument.invariant.count c.in-None.ensures.steps.0
