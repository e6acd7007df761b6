use Rattle.std.proofs.Common.{ap, ◌∙◌, ◌+◌, ◌++◌, map}
use Rattle.sym_code.specs.declared.item.SymItem.TheVariants as item
use Rattle.gen_base.specs.Waiting.{fetch}
use Rattle.gen_expr.proofs.Turns.{fetches_turn}
use Rattle.gen_expr.proofs.call.fetch_arguments.Goals as goal

pub loop-number-preserved : goal.loop-number-preserved
loop-number-preserved c =
    let number = c.loop-number.number in
    fetches_turn c.args.temp number c.args.count c.loop-number.code.items.items c.push_fetch.new.code.items.items _
    c.loop-number-test.true c.loop-number.invariant
    (c.in_ok-push_fetch.ensures
    ∙ ap (λ r. c.loop-number.code.items.items ++ map item.Plain (fetch (c.args.temp + number) r)) c.argument.ensures)
