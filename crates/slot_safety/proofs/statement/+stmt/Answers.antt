use Rattle.std.proofs.Common.{◌++◌, map, arith, ap, sym, ◌∙◌}
use Rattle.slot_safety.specs.Kinds.{marked}
use Rattle.slot_safety.specs.Occurrences.{harmed_in}
use Rattle.slot_safety.specs.Statements.{joined, decl_harms, maybe_harms, stmt_harms, item_harms}
use Rattle.slot_safety.specs.Laws.MarkedLaws.{marked_two, marked_turn}
use Rattle.slot_safety.specs.Laws.OccurrenceLaws.{harms-alone, harms-either, harms-while, harms-do, harms-for}
use Rattle.slot_safety.proofs.statement.+stmt.Goals as goal

pub spread_items-loop-item-preserved : goal.spread_items-loop-item-preserved
spread_items-loop-item-preserved t c =
    marked_turn (λ ks. ks) (item_harms c.args.structs.now) c.args.items.now c.loop-item.item-index c.item-item.result
    c.args.kinds.now c.loop-item.kinds c.spread_item.new.kinds
    (omega arith) c.item-item.is c.loop-item.invariant c.spread_item.ensures

pub spread_stmt-returns-in-None : goal.spread_stmt-returns-in-None
spread_stmt-returns-in-None t c =
    let s = c.args.structs.now in
    let e = c.in-If.condition in
    let then = c.in-If.then in
    rw c.in-If.is
    (marked_two c.args.kinds.now c.spread-in-If.new.kinds c.spread_stmt.new.kinds (harmed_in s e) (stmt_harms s then)
    c.spread-in-If.ensures.kinds (rw c.get.ensures at c.spread_stmt.ensures)
    ∙ ap (marked c.args.kinds.now) (sym (harms-alone s e then c.in-If.other c.in-None.is)))

pub spread_stmt-returns-in-Some : goal.spread_stmt-returns-in-Some
spread_stmt-returns-in-Some t c =
    let s = c.args.structs.now in
    let e = c.in-If.condition in
    let then = c.in-If.then in
    let other = c.in-Some.other in
    rw c.in-If.is
    (marked_two c.args.kinds.now c.spread-in-If.new.kinds c.spread_stmt-in-Some.new.kinds
    (harmed_in s e) (stmt_harms s then ++ stmt_harms s other)
    c.spread-in-If.ensures.kinds
    (marked_two c.spread-in-If.new.kinds c.spread_stmt.new.kinds c.spread_stmt-in-Some.new.kinds
    (stmt_harms s then) (stmt_harms s other)
    (rw c.get.ensures at c.spread_stmt.ensures)
    (rw c.get-in-Some.ensures at c.spread_stmt-in-Some.ensures))
    ∙ ap (marked c.args.kinds.now) (sym (harms-either s e then other c.in-If.other c.in-Some.is)))

pub spread_stmt-returns-in-While : goal.spread_stmt-returns-in-While
spread_stmt-returns-in-While t c =
    let s = c.args.structs.now in
    rw (c.in-While.is, harms-while)
    (marked_two c.args.kinds.now c.spread-in-While.new.kinds c.spread_stmt-in-While.new.kinds
    (harmed_in s c.in-While.condition) (stmt_harms s c.in-While.body)
    c.spread-in-While.ensures.kinds (rw c.get-in-While.ensures at c.spread_stmt-in-While.ensures))

pub spread_stmt-returns-in-DoWhile : goal.spread_stmt-returns-in-DoWhile
spread_stmt-returns-in-DoWhile t c =
    let s = c.args.structs.now in
    rw (c.in-DoWhile.is, harms-do)
    (marked_two c.args.kinds.now c.spread_stmt-in-DoWhile.new.kinds c.spread-in-DoWhile.new.kinds
    (stmt_harms s c.in-DoWhile.body) (harmed_in s c.in-DoWhile.condition)
    (rw c.get-in-DoWhile.ensures at c.spread_stmt-in-DoWhile.ensures) c.spread-in-DoWhile.ensures.kinds)

pub spread_stmt-returns-in-For : goal.spread_stmt-returns-in-For
spread_stmt-returns-in-For t c =
    let s = c.args.structs.now in
    let ds = joined (map (decl_harms s) c.in-For.decls) in
    let first = maybe_harms s c.in-For.first in
    let condition = maybe_harms s c.in-For.condition in
    let next = maybe_harms s c.in-For.next in
    let body = stmt_harms s c.in-For.body in
    let after = c.spread_stmt-in-For.new.kinds in
    rw (c.in-For.is, harms-for)
    (marked_two c.args.kinds.now c.spread_decls.new.kinds after ds (first ++ (condition ++ (next ++ body)))
    (rw c.as_slice-in-For.ensures at c.spread_decls.ensures)
    (marked_two c.spread_decls.new.kinds c.spread_maybe.new.kinds after first (condition ++ (next ++ body)) c.spread_maybe.ensures
    (marked_two c.spread_maybe.new.kinds c.spread_maybe-in-For.new.kinds after condition (next ++ body) c.spread_maybe-in-For.ensures
    (marked_two c.spread_maybe-in-For.new.kinds c.spread_maybe-in-For-2.new.kinds after next body c.spread_maybe-in-For-2.ensures
    (rw c.get-in-For.ensures at c.spread_stmt-in-For.ensures)))))
