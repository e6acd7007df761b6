use Rattle.std.proofs.Common.{◌≤◌, subst}
use Rattle.frame_layout.specs.Frames.{largest_frame}
use Rattle.frame_layout.proofs.SlotTurns.{safe_within}
use Rattle.frame_layout.proofs.function.frame_of.Goals as goal

pub slots-requires-clause-safe_fits : goal.slots-requires-clause-safe_fits
slots-requires-clause-safe_fits c =
    subst (λ n. n ≤ largest_frame) c.safe_end.ensures.value
    (safe_within c.args.parts.now c.safe_end.result c.rounded_up-tagged.result c.tagged_end.result c.rounded_up-bytes.result
    c.rounded_up-tagged.ensures.value c.tagged_end.ensures.value c.rounded_up-bytes.ensures.value c.if-bytes-gt-LARGEST_FRAME.false)
