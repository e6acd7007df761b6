use Rattle.std.proofs.Common.{sym}
use Rattle.mean_memory.specs.Laws.Owning.{latest_most, none_most}
use Rattle.mean_memory.proofs.owner.all_before.Goals as goal

pub returns-in-Some : goal.returns-in-Some
returns-in-Some c = λ before order.
    latest_most c.args.slots.now c.in-Some.slot.now c.args.call order (sym c.in-Some.ensures.value) (c.is_before.ensures before)

pub returns-in-None : goal.returns-in-None
returns-in-None c = λ before order. none_most c.args.slots.now c.args.call (sym c.in-None.ensures.value)
