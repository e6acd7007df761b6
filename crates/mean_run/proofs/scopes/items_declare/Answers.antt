use Rattle.std.proofs.Common.{sym, ◌∙◌, arith}
use Rattle.mean_run.proofs.ScopeTurns.{any_here, any_behind}
use Rattle.mean_run.proofs.scopes.items_declare.Goals as goal

pub returns-then-item_declares : goal.returns-then-item_declares
returns-then-item_declares c =
    let test = c.loop-item-test.true in
    sym (sym c.loop-item.invariant ∙ any_here c.args.items.now c.loop-item.item-index c.item-item.result (omega arith) c.item-item.is
    (sym c.item_declares.ensures ∙ c.if-item_declares.true))

pub loop-item-preserved : goal.loop-item-preserved
loop-item-preserved c =
    let test = c.loop-item-test.true in
    any_behind c.args.items.now c.loop-item.item-index c.item-item.result (omega arith) c.item-item.is
    (sym c.item_declares.ensures ∙ c.if-item_declares.false) ∙ c.loop-item.invariant
