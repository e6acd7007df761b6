use Rattle.tag_plan.proofs.Turns.{granules_turn}
use Rattle.tag_plan.proofs.rounds.push_granules.Goals as goal

pub loop-pair-preserved : goal.loop-pair-preserved
loop-pair-preserved c =
    granules_turn c.args.tag c.loop-pair.pair c.args.granules c.loop-pair.code.items c.push.new.self.items _ c.loop-pair-test.true
    c.loop-pair.invariant c.in_ok-push.ensures.items
