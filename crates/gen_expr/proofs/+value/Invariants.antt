use Rattle.std.proofs.Common.{◌≡◌, ◌+◌, ◌*◌, ◌≤◌, ◌++◌, length, drop, map, sum}
use Rattle.frame_layout.specs.Needs.{need, arguments_from}
use Rattle.gen_expr.specs.Expressions.{coded}
use Rattle.gen_expr.specs.Nodes.{keep_arguments}
use Rattle.gen_expr.proofs.Weight.{weight, node_weight}
use Rattle.gen_expr.proofs.+value.Given as goal

abbrev pub decreases-value::value : goal.decreases-value::value
decreases-value::value l = 8 * weight l.expr.now

abbrev pub decreases-value::place : goal.decreases-value::place
decreases-value::place l = 8 * weight l.expr.now

abbrev pub decreases-value::value_of : goal.decreases-value::value_of
decreases-value::value_of l = 8 * node_weight l.node.now + 7

abbrev pub decreases-value::place_of : goal.decreases-value::place_of
decreases-value::place_of l = 8 * node_weight l.node.now + 7

abbrev pub decreases-value::read : goal.decreases-value::read
decreases-value::read l = 8 * weight l.object.now + 6

abbrev pub decreases-binary::binary : goal.decreases-binary::binary
decreases-binary::binary l = 8 * (weight l.left.now + weight l.right.now) + 6

abbrev pub decreases-binary::on_values : goal.decreases-binary::on_values
decreases-binary::on_values l = 8 * (weight l.left.now + weight l.right.now) + 5

abbrev pub decreases-binary::and : goal.decreases-binary::and
decreases-binary::and l = 8 * (weight l.left.now + weight l.right.now) + 5

abbrev pub decreases-binary::or : goal.decreases-binary::or
decreases-binary::or l = 8 * (weight l.left.now + weight l.right.now) + 5

abbrev pub decreases-binary::second : goal.decreases-binary::second
decreases-binary::second l = 8 * weight l.expr.now + 1

abbrev pub decreases-binary::truth : goal.decreases-binary::truth
decreases-binary::truth l = 8 * weight l.expr.now + 1

abbrev pub decreases-binary::index : goal.decreases-binary::index
decreases-binary::index l = 8 * (weight l.left.now + weight l.right.now) + 6

abbrev pub decreases-assign::assign : goal.decreases-assign::assign
decreases-assign::assign l = 8 * (weight l.left.now + weight l.right.now) + 6

abbrev pub decreases-assign::simple : goal.decreases-assign::simple
decreases-assign::simple l = 8 * (weight l.left.now + weight l.right.now) + 5

abbrev pub decreases-assign::compound : goal.decreases-assign::compound
decreases-assign::compound l = 8 * (weight l.left.now + weight l.right.now) + 5

abbrev pub decreases-assign::step : goal.decreases-assign::step
decreases-assign::step l = 8 * weight l.object.now + 6

abbrev pub decreases-choice::cond : goal.decreases-choice::cond
decreases-choice::cond l = 8 * (weight l.condition.now + (weight l.then.now + weight l.other.now)) + 6

abbrev pub decreases-call::call : goal.decreases-call::call
decreases-call::call l = 8 * sum (map weight l.arguments.now) + 6

abbrev pub decreases-call::keep_arguments : goal.decreases-call::keep_arguments
decreases-call::keep_arguments l = 8 * sum (map weight l.arguments.now) + 5

-- the arguments that are left are evaluated from here on, and there are temps for them
abbrev pub invariant-call::keep_arguments-loop-argument : goal.invariant-call::keep_arguments-loop-argument
invariant-call::keep_arguments-loop-argument l = record {
  temp : l.temp ≡ l.to.temp + l.argument-index;
  room : l.to.temp + arguments_from l.argument-index (map need (drop l.argument-index l.arguments)) ≤ 32765;
  code :
      l.code.items.items
      ++ keep_arguments l.temp l.to.reg (map (coded l.unit.structs l.frame) (drop l.argument-index l.arguments)) (length l.code.items.items)
      ≡ l.initial.code.items.items
      ++ keep_arguments l.to.temp l.to.reg (map (coded l.unit.structs l.frame) l.arguments) (length l.initial.code.items.items);
}

abbrev pub decreases-value::unary : goal.decreases-value::unary
decreases-value::unary l = 8 * weight l.operand.now + 6
