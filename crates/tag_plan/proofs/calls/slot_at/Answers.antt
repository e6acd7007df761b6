use Rattle.tag_plan.proofs.Turns.{start_at}
use Rattle.tag_plan.proofs.calls.slot_at.Goals as goal

pub returns-clause-start : goal.returns-clause-start
returns-clause-start c =
    start_at c.args.frame.now c.as_slice.result.now c.args.number _ c.as_slice.ensures c.requires.frame c.requires.range
