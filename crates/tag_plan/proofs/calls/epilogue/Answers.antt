use Rattle.tag_plan.proofs.Turns.{frame_bytes, frame_within}
use Rattle.tag_plan.proofs.calls.epilogue.Goals as goal

pub tagged_stretch-requires : goal.tagged_stretch-requires
tagged_stretch-requires c = frame_bytes c.args.frame.now c.as_slice.result.now c.as_slice.ensures c.requires

pub push_clearing-requires-clause-place : goal.push_clearing-requires-clause-place
push_clearing-requires-clause-place c =
    (frame_within c.args.frame.now c.as_slice.result.now c.in-Some.tagged c.as_slice.ensures c.requires c.in-Some.ensures).start

pub push_clearing-requires-clause-reach : goal.push_clearing-requires-clause-reach
push_clearing-requires-clause-reach c =
    (frame_within c.args.frame.now c.as_slice.result.now c.in-Some.tagged c.as_slice.ensures c.requires c.in-Some.ensures).granules
