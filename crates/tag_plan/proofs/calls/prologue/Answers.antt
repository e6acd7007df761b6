use Rattle.tag_plan.proofs.Turns.{frame_bytes, frame_small}
use Rattle.tag_plan.proofs.calls.prologue.Goals as goal

pub tagged_stretch-requires : goal.tagged_stretch-requires
tagged_stretch-requires c = frame_bytes c.args.frame.now c.as_slice.result.now c.as_slice.ensures c.requires

pub push_outer-requires : goal.push_outer-requires
push_outer-requires c = frame_small c.args.frame.now _ c.as_slice-then-is_some.ensures c.requires
