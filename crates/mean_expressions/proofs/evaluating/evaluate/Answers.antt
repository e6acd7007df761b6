use Rattle.std.proofs.Common.{refl, sym, ap, ◌∙◌, ◌%◌, ◌^◌}
use Rattle.block_meaning.specs.Running.{unit_gives}
use Rattle.block_meaning.specs.declared.value.Value.TheVariants.{Number}
use Rattle.c_type_base.specs.Laws.Opened.{given_typed}
use Rattle.c_type_base.specs.declared.expr.TNode.{out-roll-TNode}
use Rattle.c_type_base.specs.declared.expr.TNode.TheOpen.{TNode-F}
use Rattle.c_type_base.specs.Sizes.{size}
use Rattle.mean_machine.specs.Evaluation.{arguments, evaluate}
use Rattle.mean_machine.specs.Execution.{enter}
use Rattle.mean_machine.specs.Going.{by, value}
use Rattle.mean_expressions.specs.Laws.Standing.{stands-at, stands-free}
use Rattle.mean_expressions.proofs.Alike.{machine-is}
use Rattle.mean_expressions.proofs.First.{as-value}
use Rattle.mean_expressions.proofs.evaluating.evaluate.Goals as goal

pub returns-in-Constant : goal.returns-in-Constant
unfolding given_typed
returns-in-Constant c = λ w here k now of_here stacked of_now.
    as-value k c.args.around c.args.e.now c.in-Constant.is c.get.ensures
    (c.unit_value.ensures w here k c.args.stack.now.items now stacked of_now)

pub returns-in-Paren : goal.returns-in-Paren
unfolding given_typed
returns-in-Paren c = λ w here k now of_here stacked of_now.
    as-value k c.args.around c.args.e.now c.in-Paren.is c.get.ensures
    (stands-at k refl stacked of_now)

pub returns-in-Unary : goal.returns-in-Unary
unfolding given_typed
returns-in-Unary c = λ w here k now of_here stacked of_now.
    as-value k c.args.around c.args.e.now c.in-Unary.is c.get.ensures
    (c.evaluate_unary.ensures c.args.n.now w here k now stacked of_now)

pub returns-in-Binary : goal.returns-in-Binary
unfolding given_typed
returns-in-Binary c = λ w here k now of_here stacked of_now.
    as-value k c.args.around c.args.e.now c.in-Binary.is c.get.ensures
    (c.evaluate_binary.ensures c.args.n.now w here k now stacked of_now)

pub returns-in-Assign : goal.returns-in-Assign
unfolding given_typed
returns-in-Assign c = λ w here k now of_here stacked of_now.
    as-value k c.args.around c.args.e.now c.in-Assign.is c.get.ensures
    (c.place_first.ensures c.args.n.now w here k now stacked of_now)

pub returns-in-Cond : goal.returns-in-Cond
unfolding given_typed
returns-in-Cond c = λ w here k now of_here stacked of_now.
    as-value k c.args.around c.args.e.now c.in-Cond.is c.get.ensures
    (c.operand_first.ensures c.args.n.now w here k now stacked of_now)

pub returns-in-Cast : goal.returns-in-Cast
unfolding given_typed
returns-in-Cast c = λ w here k now of_here stacked of_now.
    as-value k c.args.around c.args.e.now c.in-Cast.is c.get.ensures
    (c.operand_first-in-Cast.ensures c.args.n.now w here k now stacked of_now)

pub returns-in-SizeofExpr : goal.returns-in-SizeofExpr
unfolding given_typed
returns-in-SizeofExpr c = λ w here k now of_here stacked of_now.
    as-value k c.args.around c.args.e.now c.in-SizeofExpr.is c.get.ensures
    (machine-is (ap (λ m. by (unit_gives (Number m)) (value here k) now)
    (c.wrapped_size.ensures ∙ ap (λ structs. size structs c.in-SizeofExpr.a.ty % 2 ^ 64) of_here.structs))
    (c.unit_value-in-SizeofExpr.ensures w here k c.args.stack.now.items now stacked of_now))

pub returns-in-SizeofName : goal.returns-in-SizeofName
unfolding given_typed
returns-in-SizeofName c = λ w here k now of_here stacked of_now.
    as-value k c.args.around c.args.e.now c.in-SizeofName.is c.get.ensures
    (machine-is (ap (λ m. by (unit_gives (Number m)) (value here k) now)
    (c.wrapped_size-in-SizeofName.ensures ∙ ap (λ structs. size structs c.in-SizeofName.t % 2 ^ 64) of_here.structs))
    (c.unit_value-in-SizeofName.ensures w here k c.args.stack.now.items now stacked of_now))

pub returns-in-Call : goal.returns-in-Call
unfolding given_typed
returns-in-Call c = λ w here k now of_here stacked of_now.
    let e = c.args.e.now in
    as-value k c.args.around e c.in-Call.is c.get.ensures
    (machine-is (sym (ap (λ level. evaluate enter here k c.args.around e level now)
    (out-roll-TNode (TNode-F.Call c.in-Call.callee c.in-Call.left))))
    (machine-is (λ i. arguments enter here k e.span c.in-Call.callee (c.new.ensures.items i) (c.as_slice.ensures i) now)
    (c.arguments.ensures w here k now stacked of_now)))

pub returns-in-Step : goal.returns-in-Step
unfolding given_typed
returns-in-Step c = λ w here k now of_here stacked of_now.
    as-value k c.args.around c.args.e.now c.in-Step.is c.get.ensures
    (c.place_first-in-Step.ensures c.args.n.now w here k now stacked of_now)

pub returns-in-Read : goal.returns-in-Read
unfolding given_typed
returns-in-Read c = λ w here k now of_here stacked of_now.
    as-value k c.args.around c.args.e.now c.in-Read.is c.get.ensures
    (c.place_first-in-Read.ensures c.args.n.now w here k now stacked of_now)

pub returns-in-Decay : goal.returns-in-Decay
unfolding given_typed
returns-in-Decay c = λ w here k now of_here stacked of_now.
    as-value k c.args.around c.args.e.now c.in-Decay.is c.get.ensures
    (c.place_first-in-Decay.ensures c.args.n.now w here k now stacked of_now)

pub returns-in-Convert : goal.returns-in-Convert
unfolding given_typed
returns-in-Convert c = λ w here k now of_here stacked of_now.
    as-value k c.args.around c.args.e.now c.in-Convert.is c.get.ensures
    (c.operand_first-in-Convert.ensures c.args.n.now w here k now stacked of_now)

pub returns-in-Member : goal.returns-in-Member
unfolding given_typed
returns-in-Member c = λ w here k now of_here stacked of_now.
    as-value k c.args.around c.args.e.now c.in-Member.is c.get.ensures
    (c.place_first-in-Member.ensures c.args.n.now w here k now stacked of_now)

pub returns-in_default : goal.returns-in_default
returns-in_default c = λ w here k now of_here stacked of_now. stands-free c.args.n.now c.args.stack.now.items w here now _
