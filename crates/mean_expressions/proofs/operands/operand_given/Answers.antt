use Rattle.std.proofs.Common.{ap, ◌∙◌, ◌%◌, ◌^◌}
use Rattle.block_meaning.specs.Expressions.{member_of}
use Rattle.block_meaning.specs.Memory.{bytes_of}
use Rattle.block_meaning.specs.Running.{unit_gives}
use Rattle.c_type_base.specs.Sizes.{size}
use Rattle.mean_machine.specs.Going.{by, spend, value, place}
use Rattle.mean_expressions.specs.Laws.Standing.{stands-value, stands-place}
use Rattle.mean_expressions.proofs.Alike.{machine-is}
use Rattle.mean_expressions.proofs.Waiting.{as-operand}
use Rattle.mean_expressions.proofs.operands.operand_given.Goals as goal

pub returns-in-Unary : goal.returns-in-Unary
returns-in-Unary c = λ w here k now of_here stacked of_now.
    as-operand k c.args.v c.in-Unary.is (c.unary_given.ensures w here k c.args.stack.now.items now of_here stacked of_now)

pub returns-in-LogicalFirst : goal.returns-in-LogicalFirst
returns-in-LogicalFirst c = λ w here k now of_here stacked of_now.
    as-operand k c.args.v c.in-LogicalFirst.is (c.first_given.ensures w here k now of_here stacked of_now)

pub returns-in-LogicalSecond : goal.returns-in-LogicalSecond
returns-in-LogicalSecond c = λ w here k now of_here stacked of_now.
    as-operand k c.args.v c.in-LogicalSecond.is (c.second_given.ensures w here k c.args.stack.now.items now of_here stacked of_now)

pub returns-in-BinaryLeft : goal.returns-in-BinaryLeft
returns-in-BinaryLeft c = λ w here k now of_here stacked of_now.
    as-operand k c.args.v c.in-BinaryLeft.is (c.operand_first.ensures c.args.n.now w here k now stacked of_now)

pub returns-in-BinaryRight : goal.returns-in-BinaryRight
returns-in-BinaryRight c = λ w here k now of_here stacked of_now.
    as-operand k c.args.v c.in-BinaryRight.is (c.both_given.ensures w here k c.args.stack.now.items now of_here stacked of_now)

pub returns-in-AssignRight : goal.returns-in-AssignRight
returns-in-AssignRight c = λ w here k now of_here stacked of_now.
    as-operand k c.args.v c.in-AssignRight.is (c.assign_given.ensures w here k c.args.stack.now.items now of_here stacked of_now)

pub returns-in-Condition : goal.returns-in-Condition
returns-in-Condition c = λ w here k now of_here stacked of_now.
    as-operand k c.args.v c.in-Condition.is (c.condition_given.ensures w here k c.args.stack.now.items now of_here stacked of_now)

pub returns-in-CastTo : goal.returns-in-CastTo
returns-in-CastTo c = λ w here k now of_here stacked of_now.
    as-operand k c.args.v c.in-CastTo.is
    (machine-is (ap (λ v. by (unit_gives v) (value here k) now) c.converted_to.ensures)
    (c.unit_value.ensures w here k c.args.stack.now.items now stacked of_now))

pub returns-in-ConvertTo : goal.returns-in-ConvertTo
returns-in-ConvertTo c = λ w here k now of_here stacked of_now.
    as-operand k c.args.v c.in-ConvertTo.is (stands-value c.converted_to-in-ConvertTo.ensures stacked of_now)

pub returns-in-Argument : goal.returns-in-Argument
returns-in-Argument c = λ w here k now of_here stacked of_now.
    as-operand k c.args.v c.in-Argument.is (c.argument_given.ensures w here k now stacked of_now)

pub returns-in-PointerIn : goal.returns-in-PointerIn
returns-in-PointerIn c = λ w here k now of_here stacked of_now.
    as-operand k c.args.v c.in-PointerIn.is (stands-place c.pointer_in.ensures stacked of_now)

pub returns-in-Dereferenced : goal.returns-in-Dereferenced
returns-in-Dereferenced c = λ w here k now of_here stacked of_now.
    as-operand k c.args.v c.in-Dereferenced.is
    (machine-is (ap (λ p. by (unit_gives p) (place here k) now) c.pointer_in-in-Dereferenced.ensures)
    (c.unit_place.ensures w here k c.args.stack.now.items now stacked of_now))

pub returns-in-IndexLeft : goal.returns-in-IndexLeft
returns-in-IndexLeft c = λ w here k now of_here stacked of_now.
    as-operand k c.args.v c.in-IndexLeft.is (c.operand_first-in-IndexLeft.ensures c.args.n.now w here k now stacked of_now)

pub returns-in-IndexRight : goal.returns-in-IndexRight
returns-in-IndexRight c = λ w here k now of_here stacked of_now.
    as-operand k c.args.v c.in-IndexRight.is
    (machine-is (ap (λ p. by (unit_gives p) (place here k) now)
    (c.element_at.ensures (bytes_of here c.in-IndexRight.t.now)
    (c.wrapped_size.ensures ∙ ap (λ structs. size structs c.in-IndexRight.t.now % 2 ^ 64) of_here.structs)))
    (c.unit_place-in-IndexRight.ensures w here k c.args.stack.now.items now stacked of_now))

pub returns-in-ArrowTo : goal.returns-in-ArrowTo
returns-in-ArrowTo c = λ w here k now of_here stacked of_now.
    as-operand k c.args.v c.in-ArrowTo.is
    (machine-is (λ i. spend (by (member_of here (c.target_of.ensures i) c.in-ArrowTo.member (c.pointer_in-in-ArrowTo.ensures i))
    (place here k)) now)
    (c.member_place.ensures w here k c.args.stack.now.items now of_here stacked of_now))
