use Rattle.std.proofs.Common.{arith}
use Rattle.mean_link.specs.Uses.{expr_uses}
use Rattle.mean_link.specs.Laws.UseLaws.{put_turn, put_two, put_three}
use Rattle.mean_link.specs.Laws.TreeUses.{binary-uses, assign-uses, index-uses, cond-uses}
use Rattle.mean_link.proofs.uses.+expr.Goals as goal

pub use_all-loop-argument-preserved : goal.use_all-loop-argument-preserved
use_all-loop-argument-preserved t c =
    put_turn expr_uses c.args.arguments.now c.loop-argument.argument-index c.argument-item.result
    c.args.used.now c.loop-argument.used c.use_expr.new.used
    (omega arith) c.argument-item.is c.loop-argument.invariant c.use_expr.ensures

pub use_node-returns-in-Binary : goal.use_node-returns-in-Binary
use_node-returns-in-Binary t c =
    rw (c.in-Binary.is, binary-uses)
    (put_two c.args.used.now c.use_expr-in-Binary.new.used c.use_expr-in-Binary-2.new.used (expr_uses c.in-Binary.left)
    (expr_uses c.in-Binary.right) c.use_expr-in-Binary.ensures c.use_expr-in-Binary-2.ensures)

pub use_node-returns-in-Assign : goal.use_node-returns-in-Assign
use_node-returns-in-Assign t c =
    rw (c.in-Assign.is, assign-uses)
    (put_two c.args.used.now c.use_expr-in-Assign.new.used c.use_expr-in-Assign-2.new.used (expr_uses c.in-Assign.left)
    (expr_uses c.in-Assign.right) c.use_expr-in-Assign.ensures c.use_expr-in-Assign-2.ensures)

pub use_node-returns-in-Index : goal.use_node-returns-in-Index
use_node-returns-in-Index t c =
    rw (c.in-Index.is, index-uses)
    (put_two c.args.used.now c.use_expr-in-Index.new.used c.use_expr-in-Index-2.new.used (expr_uses c.in-Index.array)
    (expr_uses c.in-Index.index) c.use_expr-in-Index.ensures c.use_expr-in-Index-2.ensures)

pub use_node-returns-in-Cond : goal.use_node-returns-in-Cond
use_node-returns-in-Cond t c =
    rw (c.in-Cond.is, cond-uses)
    (put_three c.args.used.now c.use_expr-in-Cond.new.used c.use_expr-in-Cond-2.new.used c.use_expr-in-Cond-3.new.used
    (expr_uses c.in-Cond.condition) (expr_uses c.in-Cond.then) (expr_uses c.in-Cond.other)
    c.use_expr-in-Cond.ensures c.use_expr-in-Cond-2.ensures c.use_expr-in-Cond-3.ensures)
