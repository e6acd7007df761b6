use Rattle.std.proofs.Common.{◌∙◌, ap, sym, Some, None, arith}
use Rattle.c_ast.specs.declared.expr.CType.TheVariants as ctype
use Rattle.c_ast.specs.declared.expr.Node.TheVariants as node
use Rattle.c_type_expr.specs.Sorted.{listed_items}
use Rattle.c_type_expr.proofs.ArmLaws.{node_ok, node_at, type_ok, arm_unary, arm_assign, arm_index, arm_member, arm_arrow, arm_step}
use Rattle.c_type_expr.proofs.ArmLaws.{arm_cond, arm_binary, arm_cast, arm_call, arm_not_called, arm_whole, arm_pointer, arm_open}
use Rattle.c_type_expr.proofs.ArmLaws.{arm_array, arm_next_argument, arm_arguments}
use Rattle.c_type_expr.proofs.judged.+expression.Goals as goal

pub node-returns-in_ok-e-in-Unary : goal.node-returns-in_ok-e-in-Unary
node-returns-in_ok-e-in-Unary t c =
    node_ok c.args.span _ (node.Unary c.in-Unary.operator c.in-Unary.e) _ _ c.unary_on.result c.in-Unary.is c.unary_on.ensures (λ k next.
    arm_unary c.args.span c.in-Unary.operator c.in-Unary.e _ _ _ c.in_ok-e-in-Unary.e k c.in_ok-e-in-Unary.ensures next)

pub node-returns-in_ok-e-in-Member : goal.node-returns-in_ok-e-in-Member
node-returns-in_ok-e-in-Member t c =
    node_ok c.args.span _ (node.Member c.in-Member.e c.in-Member.name) _ _ c.member_on.result c.in-Member.is c.member_on.ensures (λ k next.
    arm_member c.args.span c.in-Member.e c.in-Member.name _ _ _ c.in_ok-e-in-Member.e k c.in_ok-e-in-Member.ensures next)

pub node-returns-in_ok-e-in-Arrow : goal.node-returns-in_ok-e-in-Arrow
node-returns-in_ok-e-in-Arrow t c =
    node_ok c.args.span _ (node.Arrow c.in-Arrow.e c.in-Arrow.name) _ _ c.arrow_on.result c.in-Arrow.is c.arrow_on.ensures (λ k next.
    arm_arrow c.args.span c.in-Arrow.e c.in-Arrow.name _ _ _ c.in_ok-e-in-Arrow.e k c.in_ok-e-in-Arrow.ensures next)

pub node-returns-in_ok-e-in-Step : goal.node-returns-in_ok-e-in-Step
node-returns-in_ok-e-in-Step t c =
    node_ok c.args.span _ (node.Step c.in-Step.step c.in-Step.e) _ _ c.step_on.result c.in-Step.is c.step_on.ensures (λ k next.
    arm_step c.args.span c.in-Step.step c.in-Step.e _ _ _ c.in_ok-e-in-Step.e k c.in_ok-e-in-Step.ensures next)

pub type_name-returns : goal.type_name-returns
type_name-returns t c =
    arm_whole c.args.span c.args.t.now _ _ _ c.in_ok-t.t c.whole_on.result c.in_ok-t.ensures c.whole_on.ensures

pub written-returns-in_ok-t-in-Pointer : goal.written-returns-in_ok-t-in-Pointer
written-returns-in_ok-t-in-Pointer t c =
    type_ok c.args.span _ (ctype.Pointer c.get.result.now) _ _ c.pointer_on.result (c.in-Pointer.is ∙ ap ctype.Pointer (sym c.get.ensures))
    c.pointer_on.ensures (λ k next.
    arm_pointer c.args.span c.get.result.now _ _ _ c.in_ok-t-in-Pointer.t k c.in_ok-t-in-Pointer.ensures next)

pub node-returns-in_ok-b-in-Binary : goal.node-returns-in_ok-b-in-Binary
node-returns-in_ok-b-in-Binary t c =
    node_ok c.args.span _ (node.Binary c.in-Binary.operator c.in-Binary.a c.in-Binary.b) _ _ c.binary_on.result c.in-Binary.is
    c.binary_on.ensures (λ k next.
    arm_binary c.args.span c.in-Binary.operator c.in-Binary.a c.in-Binary.b _ _ _ _ c.in_ok-a-in-Binary.a c.in_ok-b-in-Binary.b k
    c.in_ok-a-in-Binary.ensures
    c.in_ok-b-in-Binary.ensures next)

pub node-returns-in_ok-b-in-Assign : goal.node-returns-in_ok-b-in-Assign
node-returns-in_ok-b-in-Assign t c =
    node_ok c.args.span _ (node.Assign c.in-Assign.operator c.in-Assign.a c.in-Assign.b) _ _ c.assign_on.result c.in-Assign.is
    c.assign_on.ensures (λ k next.
    arm_assign c.args.span c.in-Assign.operator c.in-Assign.a c.in-Assign.b _ _ _ _ c.in_ok-a-in-Assign.a c.in_ok-b-in-Assign.b k
    c.in_ok-a-in-Assign.ensures
    c.in_ok-b-in-Assign.ensures next)

pub node-returns-in_ok-i-in-Index : goal.node-returns-in_ok-i-in-Index
node-returns-in_ok-i-in-Index t c =
    node_ok c.args.span _ (node.Index c.in-Index.a c.in-Index.i) _ _ c.index_on.result c.in-Index.is c.index_on.ensures (λ k next.
    arm_index c.args.span c.in-Index.a c.in-Index.i _ _ _ _ c.in_ok-a-in-Index.a c.in_ok-i-in-Index.i k c.in_ok-a-in-Index.ensures
    c.in_ok-i-in-Index.ensures next)

pub node-returns-in_ok-e-in-Cast : goal.node-returns-in_ok-e-in-Cast
node-returns-in_ok-e-in-Cast t c =
    node_ok c.args.span _ (node.Cast c.in-Cast.t c.in-Cast.e) _ _ c.cast_on.result c.in-Cast.is c.cast_on.ensures (λ k next.
    arm_cast c.args.span c.in-Cast.t c.in-Cast.e _ _ _ _ c.in_ok-t-in-Cast.t c.in_ok-e-in-Cast.e k c.in_ok-t-in-Cast.ensures
    c.in_ok-e-in-Cast.ensures next)

pub node-returns-in_ok-b-in-Cond : goal.node-returns-in_ok-b-in-Cond
node-returns-in_ok-b-in-Cond t c =
    node_ok c.args.span _ (node.Cond c.in-Cond.c c.in-Cond.a c.in-Cond.b) _ _ c.cond_on.result c.in-Cond.is c.cond_on.ensures (λ k next.
    arm_cond c.args.span c.in-Cond.c c.in-Cond.a c.in-Cond.b _ _ _ _ _ c.in_ok-c-in-Cond.c c.in_ok-a-in-Cond.a c.in_ok-b-in-Cond.b k
    c.in_ok-c-in-Cond.ensures c.in_ok-a-in-Cond.ensures c.in_ok-b-in-Cond.ensures next)

pub written-returns-in_ok-t-in-None : goal.written-returns-in_ok-t-in-None
written-returns-in_ok-t-in-None t c =
    type_ok c.args.span _ (ctype.Array c.get-in-None.result.now None) _ _ c.open_on.result
    (c.in-Array.is ∙ (λ i. ctype.Array (sym c.get-in-None.ensures i) (c.in-None.is i)))
    c.open_on.ensures (λ k next.
    arm_open c.args.span c.get-in-None.result.now _ _ _ c.in_ok-t-in-None.t k c.in_ok-t-in-None.ensures next)

pub written-returns-in_ok-t-in-Some : goal.written-returns-in_ok-t-in-Some
written-returns-in_ok-t-in-Some t c =
    type_ok c.args.span _ (ctype.Array c.get-in-Some.result.now (Some c.in-Some.length)) _ _ c.array_on.result
    (c.in-Array.is ∙ (λ i. ctype.Array (sym c.get-in-Some.ensures i) (c.in-Some.is i)))
    c.array_on.ensures (λ k next.
    arm_array c.args.span c.get-in-Some.result.now c.in-Some.length _ _ _ _ c.in_ok-length-in-Some.length c.in_ok-t-in-Some.t k
    c.in_ok-length-in-Some.ensures c.in_ok-t-in-Some.ensures next)

pub node-returns-in_ok-arguments-in-Some : goal.node-returns-in_ok-arguments-in-Some
node-returns-in_ok-arguments-in-Some t c =
    node_ok c.args.span _ (node.Call c.in-Call.function c.in-Call.arguments) _ _ c.call_on.result c.in-Call.is c.call_on.ensures (λ k next.
    arm_call c.args.span c.in-Call.function c.in-Call.arguments c.as_slice-listed.result.now _ _ _
    (listed_items c.in_ok-arguments-in-Some.arguments) k c.in_ok-called-in-Call.field-0 c.in-Some.called c.as_slice-listed.ensures
    c.in_ok-called-in-Call.ensures c.in-Some.is c.in_ok-arguments-in-Some.ensures next)

pub node-returns-in_ok-arguments-in-None : goal.node-returns-in_ok-arguments-in-None
node-returns-in_ok-arguments-in-None t c =
    node_at c.args.span _ (node.Call c.in-Call.function c.in-Call.arguments) _ _ _ c.in-Call.is
    (arm_not_called c.args.span c.in-Call.function c.in-Call.arguments c.as_slice-listed.result.now _ _ _ _
    c.in_ok-function-in-None.function (listed_items c.in_ok-arguments-in-None.arguments) c.not_called.result c.in_ok-called-in-Call.field-0
    c.as_slice-listed.ensures c.in_ok-called-in-Call.ensures c.in-None.is c.in_ok-function-in-None.ensures c.in_ok-arguments-in-None.ensures
    c.not_called.ensures)

pub values-loop-argument-preserved : goal.values-loop-argument-preserved
values-loop-argument-preserved t c =
    arm_next_argument c.args.arguments.now c.loop-argument.argument-index c.argument-item.result _ _ _ (listed_items c.loop-argument.values)
    (listed_items c.in_ok-values.values) c.in_ok-known.known c.loop-argument-test.true c.loop-argument.invariant
    (rw c.argument-item.is at c.in_ok-known.ensures) c.in_ok-values.ensures

pub values-returns : goal.values-returns
values-returns t c =
    arm_arguments c.args.arguments.now c.loop-argument.argument-index _ _ (listed_items c.loop-argument.values) (omega arith)
    c.loop-argument.invariant
