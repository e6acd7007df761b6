use Rattle.std.proofs.Common.{sym}
use Rattle.mean_memory.specs.Laws.Owning.{latest_most, none_most}
use Rattle.mean_memory.specs.Owners.{owner}
use Rattle.mean_memory.proofs.owner.may_push.Goals as goal

pub returns-in-Some : goal.returns-in-Some
returns-in-Some c = λ follows order.
    latest_most c.args.slots.now c.in-Some.slot.now (owner c.args.kind) order (sym c.in-Some.ensures.value) (c.may_follow.ensures follows)

pub returns-in-None : goal.returns-in-None
returns-in-None c = λ follows order. none_most c.args.slots.now (owner c.args.kind) (sym c.in-None.ensures.value)
