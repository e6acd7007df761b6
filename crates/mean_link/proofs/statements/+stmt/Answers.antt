use Rattle.std.proofs.Common.{◌++◌, map, arith, true, ap, sym, ◌∙◌}
use Rattle.slot_safety.specs.Kinds.{put}
use Rattle.mean_link.specs.Uses.{joined, expr_uses, decl_uses, maybe_uses, stmt_uses, item_uses}
use Rattle.mean_link.specs.Laws.UseLaws.{put_turn, put_two, put_three}
use Rattle.mean_link.specs.Laws.TreeUses.{alone-uses, either-uses, while-uses, do-uses, for-uses}
use Rattle.mean_link.proofs.statements.+stmt.Goals as goal

pub use_items-loop-item-preserved : goal.use_items-loop-item-preserved
use_items-loop-item-preserved t c =
    put_turn item_uses c.args.items.now c.loop-item.item-index c.item-item.result
    c.args.used.now c.loop-item.used c.use_item.new.used
    (omega arith) c.item-item.is c.loop-item.invariant c.use_item.ensures

pub use_stmt-returns-in-None : goal.use_stmt-returns-in-None
use_stmt-returns-in-None t c =
    let e = c.in-If.condition in
    let then = c.in-If.then in
    rw c.in-If.is
    (put_two c.args.used.now c.use_expr-in-If.new.used c.use_stmt.new.used (expr_uses e) (stmt_uses then)
    c.use_expr-in-If.ensures (rw c.get.ensures at c.use_stmt.ensures)
    ∙ ap (put true c.args.used.now) (sym (alone-uses e then c.in-If.other c.in-None.is)))

pub use_stmt-returns-in-Some : goal.use_stmt-returns-in-Some
use_stmt-returns-in-Some t c =
    let e = c.in-If.condition in
    let then = c.in-If.then in
    let other = c.in-Some.other in
    rw c.in-If.is
    (put_three c.args.used.now c.use_expr-in-If.new.used c.use_stmt.new.used c.use_stmt-in-Some.new.used
    (expr_uses e) (stmt_uses then) (stmt_uses other)
    c.use_expr-in-If.ensures (rw c.get.ensures at c.use_stmt.ensures)
    (rw c.get-in-Some.ensures at c.use_stmt-in-Some.ensures)
    ∙ ap (put true c.args.used.now) (sym (either-uses e then other c.in-If.other c.in-Some.is)))

pub use_stmt-returns-in-While : goal.use_stmt-returns-in-While
use_stmt-returns-in-While t c =
    rw (c.in-While.is, while-uses)
    (put_two c.args.used.now c.use_expr-in-While.new.used c.use_stmt-in-While.new.used
    (expr_uses c.in-While.condition) (stmt_uses c.in-While.body)
    c.use_expr-in-While.ensures (rw c.get-in-While.ensures at c.use_stmt-in-While.ensures))

pub use_stmt-returns-in-DoWhile : goal.use_stmt-returns-in-DoWhile
use_stmt-returns-in-DoWhile t c =
    rw (c.in-DoWhile.is, do-uses)
    (put_two c.args.used.now c.use_stmt-in-DoWhile.new.used c.use_expr-in-DoWhile.new.used
    (stmt_uses c.in-DoWhile.body) (expr_uses c.in-DoWhile.condition)
    (rw c.get-in-DoWhile.ensures at c.use_stmt-in-DoWhile.ensures) c.use_expr-in-DoWhile.ensures)

pub use_stmt-returns-in-For : goal.use_stmt-returns-in-For
use_stmt-returns-in-For t c =
    let ds = joined (map decl_uses c.in-For.decls) in
    let first = maybe_uses c.in-For.first in
    let condition = maybe_uses c.in-For.condition in
    let next = maybe_uses c.in-For.next in
    let body = stmt_uses c.in-For.body in
    let after = c.use_stmt-in-For.new.used in
    rw (c.in-For.is, for-uses)
    (put_two c.args.used.now c.use_decls.new.used after ds (first ++ (condition ++ (next ++ body)))
    (rw c.as_slice-in-For.ensures at c.use_decls.ensures)
    (put_two c.use_decls.new.used c.use_maybe.new.used after first (condition ++ (next ++ body)) c.use_maybe.ensures
    (put_three c.use_maybe.new.used c.use_maybe-in-For.new.used c.use_maybe-in-For-2.new.used after condition next body
    c.use_maybe-in-For.ensures c.use_maybe-in-For-2.ensures (rw c.get-in-For.ensures at c.use_stmt-in-For.ensures))))
