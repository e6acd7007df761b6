use Rattle.tag_plan.proofs.Turns.{tagged_there}
use Rattle.tag_plan.proofs.calls.tagged_at.Goals as goal

pub returns-clause-small : goal.returns-clause-small
returns-clause-small c =
    tagged_there c.args.frame.now c.args.number c.slot_at.result.now c.requires.frame c.slot_at.ensures.is c.requires.there
