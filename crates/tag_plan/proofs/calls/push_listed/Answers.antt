use Rattle.tag_plan.proofs.Turns.{number_there}
use Rattle.tag_plan.proofs.calls.push_listed.Goals as goal

pub tagged_at-requires-clause-there : goal.tagged_at-requires-clause-there
tagged_at-requires-clause-there c =
    number_there c.args.frame.now.slots c.args.numbers.now c.loop-number.number-index c.loop-number-test.true c.requires.numbers
