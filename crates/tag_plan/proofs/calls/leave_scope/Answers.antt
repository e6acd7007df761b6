use Rattle.tag_plan.proofs.Turns.{part_bytes, part_within}
use Rattle.tag_plan.proofs.calls.leave_scope.Goals as goal

pub tagged_stretch-requires : goal.tagged_stretch-requires
tagged_stretch-requires c =
    part_bytes c.args.frame.now c.as_slice.result.now c.args.first c.args.last c.as_slice.ensures c.requires.frame

pub push_clearing-requires-clause-place : goal.push_clearing-requires-clause-place
push_clearing-requires-clause-place c =
    (part_within c.args.frame.now c.as_slice.result.now c.args.first c.args.last c.in-Some.tagged c.as_slice.ensures c.requires.frame
    c.in-Some.ensures).start

pub push_clearing-requires-clause-reach : goal.push_clearing-requires-clause-reach
push_clearing-requires-clause-reach c =
    (part_within c.args.frame.now c.as_slice.result.now c.args.first c.args.last c.in-Some.tagged c.as_slice.ensures c.requires.frame
    c.in-Some.ensures).granules
